-- Adding the changes of members.
use Rattle.std.proofs.Common.{◌≡◌, ◌⊎◌, inl, inr, ℕ, zero, suc, ◌-◌, List, [], ◌∷◌, true, false, true≢false, Ordering, Less, Equal, Greater, Option, Some, None, IsSome, is_some, option_map, OnOk, Result, Ok, Err, String, string_bytes, string_cmp, nat_cmp, is_eq, refl, sym, ap, subst, ◌∙◌, arith}
use Rattle.std.specs.Cmp.Lexicographic.{slice_cmp}
use Rattle.std.specs.declared.alloc.Global.{Global}
use Rattle.std.specs.List.{AllByRecursion}
use Rattle.std.specs.List.Sorted.{IsStrictlySortedBy}
use Rattle.std.specs.Map.{keys_of}
use Rattle.std.specs.Option.{option_zip}
use Rattle.std.specs.Ordering.{match_ordering}
use Rattle.std.proofs.lemmas.Cmp.{nat_list_cmp_total, tied_itself}
use Rattle.std.proofs.lemmas.Map.Keys.{sorted_head, sorted_tail}
use Rattle.std.proofs.lemmas.Map.Text.{is_eq-slice_cmp}
use Rattle.std.proofs.lemmas.Slice.Eq.{bytes_eq-Decides}
use Rattle.serde_json.specs.Data.{Data, Members, no_members, member}
use Rattle.serde_json.specs.Find.{as_object, get_member}
use Rattle.serde_json.specs.View.{view, members_view}
use Rattle.serde_json.proofs.Views.{Entry, member_here, member_later}
use Rattle.fv_explain_over.specs.Adding.{Adds, NewChange, OldChange, SomeMember}
use Rattle.fv_explain_over.specs.Changes.{LevelsChange, MemberChange, MembersChange, ObjectsChange, Only, WholeChange}
use Rattle.fv_explain_over.specs.Places.{inside}
use Rattle.fv_explain_over.specs.Same.{same}
use Rattle.fv_explain_over.specs.declared.differing.Change.{Change}
use Rattle.fv_explain_over.specs.declared.differing.Change.TheVariants.{Added}
use Rattle.fv_explain_over.proofs.AddLemmas.{Told, adds_as, adds_then, adds_none}

-- where all went well, what follows too
pub on_ok : {E P Q : Type 0} (r : Result (Unit {0}) E) → (P → Q) → OnOk r P → OnOk r Q
on_ok (Ok x) f is = f is
on_ok (Err e) f is = is

-- ---- levels

-- at the last level values are seen as a whole
pub last_level : {E : Type 0} (r : Result (Unit {0}) E) (a b : Told) (at : List ℕ) (d e : Data) (n : ℕ) → n ≡ 0 → OnOk r (Adds a b (WholeChange at d e)) → OnOk r (Adds a b (LevelsChange n at d e))
last_level r a b at d e n is adds = subst (λ k. OnOk r (Adds a b (LevelsChange k at d e))) (sym is) adds

-- and so are values that aren't both objects
pub no_objects : {E : Type 0} (r : Result (Unit {0}) E) (a b : Told) (at : List ℕ) (d e : Data) (n : ℕ) → option_zip (as_object d) (as_object e) ≡ None → OnOk r (Adds a b (WholeChange at d e)) → OnOk r (Adds a b (LevelsChange n at d e))
no_objects r a b at d e zero none adds = adds
no_objects r a b at d e (suc n) none adds = subst (λ o. OnOk r (Adds a b (ObjectsChange (LevelsChange n) at o (WholeChange at d e)))) (sym none) adds

-- above it objects by their members
pub level : {E : Type 0} (r : Result (Unit {0}) E) (a b : Told) (at text : List ℕ) (d e : Data) (n : ℕ) (ms ns : Members) → text ≡ at → (n ≡ 0 → ⊥) → Some ms ≡ as_object d → Some ns ≡ as_object e
    → OnOk r (Adds a b (MembersChange (LevelsChange (n - 1)) text ms ns)) → OnOk r (Adds a b (LevelsChange n at d e))
level r a b at text d e zero ms ns same_text some is also adds = absurd (some refl)
level r a b at text d e (suc n) ms ns same_text some is also adds =
    let P : Option Members → Option Members → Type 0 = λ o p. OnOk r (Adds a b (ObjectsChange (LevelsChange n) at (option_zip o p) (WholeChange at d e))) in
    let less : suc n - 1 ≡ n = omega arith in
    let here : P (Some ms) (Some ns) =
    subst (λ (k : ℕ). OnOk r (Adds a b (MembersChange (LevelsChange k) at ms ns))) less
    (subst (λ (t : List ℕ). OnOk r (Adds a b (MembersChange (LevelsChange (suc n - 1)) t ms ns))) same_text adds) in
    subst (λ o. P o (as_object e)) is (subst (λ p. P (Some ms) p) also here)

-- ---- a member

-- that is the same
pub unchanged : (a : Told) (Under : List ℕ → Data → Data → List ℕ → Change → Type 0) (at : List ℕ) (d e : Data) → same d e ≡ true → Adds a a (MemberChange Under at (Some d) (Some e))
unchanged a Under at d e alike = adds_none a _ (λ p x r. true≢false (sym alike ∙ r.0))

-- that is another
pub looked_into : (a b : Told) (Under : List ℕ → Data → Data → List ℕ → Change → Type 0) (at : List ℕ) (d e : Data) → same d e ≡ false → Adds a b (Under at d e) → Adds a b (MemberChange Under at (Some d) (Some e))
looked_into a b Under at d e other adds = adds_as a b _ _ (λ p x r. (other, r)) (λ p x r. (x, r.1)) adds

-- by its name
pub old_added : (a b : Told) (Under : List ℕ → Data → Data → List ℕ → Change → Type 0) (at text key name : List ℕ) (ns : Members) (d : Data) (found : Option Data) → text ≡ inside at key → key ≡ name → found ≡ get_member key ns
    → Adds a b (MemberChange Under text (Some d) found) → Adds a b (OldChange Under at ns name d)
old_added a b Under at text key name ns d found text_is key_is found_is adds =
    subst (λ (k : List ℕ). Adds a b (MemberChange Under (inside at k) (Some d) (get_member k ns))) key_is
    (subst (λ (o : Option Data). Adds a b (MemberChange Under (inside at key) (Some d) o)) found_is
    (subst (λ (t : List ℕ). Adds a b (MemberChange Under t (Some d) found)) text_is adds))

-- one more of the members
pub member_more : (a b f : Told) (Of : List ℕ → Data → List ℕ → Change → Type 0) (es more : List Entry) (e : Entry) → es ≡ e ∷ more → Adds a b (Of (string_bytes e.0) (view e.1)) → Adds b f (SomeMember Of (members_view more)) → Adds a f (SomeMember Of (members_view es))
member_more a b f Of es more e is first rest =
    subst (λ (l : List Entry). Adds a f (SomeMember Of (members_view l))) (sym is) (adds_then a b f _ _ first rest)

-- and the last
pub no_member : (a : Told) (Of : List ℕ → Data → List ℕ → Change → Type 0) (es : List Entry) → es ≡ [] → Adds a a (SomeMember Of (members_view es))
no_member a Of es is = subst (λ (l : List Entry). Adds a a (SomeMember Of (members_view l))) (sym is) (adds_none a _ (λ p x r. r))

-- ---- the members of both objects

impossible : {X : Type 0} {o : Option X} (x : X) → o ≡ Some x → o ≡ None → ⊥
impossible x some none = (let no : ⊥ = cc in no)

module _ (Of : List ℕ → Data → List ℕ → Change → Type 0) (p : List ℕ) (x : Change) where
  at_ordering : (name k : List ℕ) (d e : Data) (ms : Members) (o : Ordering) → slice_cmp nat_cmp name k ≡ o → match_ordering o (get_member name ms) (Some e) (get_member name ms) ≡ Some d
      → Of name d p x → (get_member name ms ≡ Some d → SomeMember Of ms p x) → Of k e p x ⊎ SomeMember Of ms p x
  at_ordering name k d e ms Less is found of later = inr (later found)
  at_ordering name k d e ms Equal is found of later =
      let key : name ≡ k = (bytes_eq-Decides name k).0 (sym (is_eq-slice_cmp name k) ∙ ap is_eq is) in
      let value : d ≡ e = cc in
      inl (subst (λ (n : List ℕ). Of n e p x) key (subst (λ (v : Data). Of name v p x) value of))
  at_ordering name k d e ms Greater is found of later = inr (later found)

  -- one that is found is one of them
  pub found_some : (name : List ℕ) (d : Data) (ms : Members) → get_member name ms ≡ Some d → Of name d p x → SomeMember Of ms p x
  found_some name d no_members found of = (let no : ⊥ = cc in no)
  found_some name d (member k e ms) found of = at_ordering name k d e ms (slice_cmp nat_cmp name k) refl found of (λ later. found_some name d ms later of)

  some_there : (k l : List ℕ) (d : Data) (ms : Members) → IsSome (get_member k ms) → IsSome (get_member k (member l d ms))
  some_there k l d ms there = at (slice_cmp nat_cmp k l)
    where
      at : (o : Ordering) → IsSome (match_ordering o (get_member k ms) (Some d) (get_member k ms))
      at Less = there
      at Equal = refl
      at Greater = there

  same_text : (k : List ℕ) → slice_cmp nat_cmp k k ≡ Equal
  same_text k = tied_itself nat_list_cmp_total k

  -- one of them is there
  pub one_there : (ms : Members) → SomeMember Of ms p x → (k : List ℕ) × (d : Data) × IsSome (get_member k ms) × Of k d p x
  one_there no_members none = absurd none
  one_there (member k d ms) (inl of) = (k, d, (let there : IsSome (get_member k (member k d ms)) = rw (same_text k) refl in there), of)
  one_there (member k d ms) (inr later) = let r = one_there ms later in (r.0, r.1, some_there r.0 k d ms r.2, r.3)

  none_above : (k : String Global) (es : List Entry) → AllByRecursion (λ y. string_cmp k y ≡ Less) (keys_of es) → get_member (string_bytes k) (members_view es) ≡ None
  none_above k [] h = refl
  none_above k (e ∷ es) h = rw (h.0, none_above k es h.1) refl

  -- one of them is found, where names ascend
  pub self_found : (es : List Entry) → IsStrictlySortedBy string_cmp (keys_of es) → SomeMember Of (members_view es) p x → (k : List ℕ) × (d : Data) × (get_member k (members_view es) ≡ Some d) × Of k d p x
  self_found [] sorted none = absurd none
  self_found (e ∷ es) sorted (inl of) = (string_bytes e.0, view e.1, member_here (string_bytes e.0) e es refl, of)
  self_found (e ∷ es) sorted (inr later) =
      let r = self_found es (sorted_tail string_cmp e.0 (keys_of es) sorted) later in
      let none = none_above e.0 es (sorted_head string_cmp e.0 (keys_of es) sorted) in
      let other : r.0 ≡ string_bytes e.0 → ⊥ = λ is. (let no : ⊥ = impossible r.1 (sym (ap (λ k. get_member k (members_view es)) is) ∙ r.2) none in no) in
      (r.0, r.1, member_later r.0 e es other ∙ r.2, r.3)

module _ (Under : List ℕ → Data → Data → List ℕ → Change → Type 0) (at : List ℕ) (p : List ℕ) (x : Change) where
  new_one : (ms ns : Members) (k : List ℕ) (o : Option Data) → get_member k ns ≡ o → IsSome o → get_member k ms ≡ None → Only (inside at k) Added p x → MembersChange Under at ms ns p x
  new_one ms ns k None is some none only = absurd (true≢false (sym some))
  new_one ms ns k (Some e) is some none only =
      (k, subst (λ (o : Option Data). MemberChange Under (inside at k) o (get_member k ns) p x) (sym none) (subst (λ (o : Option Data). MemberChange Under (inside at k) None o p x) (sym is) only))

  -- what is told of one of the members stands at its name
  pub one_changes : (es : List Entry) (ns : Members) → IsStrictlySortedBy string_cmp (keys_of es)
      → SomeMember (OldChange Under at ns) (members_view es) p x ⊎ SomeMember (NewChange at (members_view es)) ns p x → MembersChange Under at (members_view es) ns p x
  one_changes es ns sorted (inl old) =
      let r = self_found (OldChange Under at ns) p x es sorted old in
      (r.0, subst (λ (o : Option Data). MemberChange Under (inside at r.0) o (get_member r.0 ns) p x) (sym r.2) r.3)
  one_changes es ns sorted (inr new) =
      let r = one_there (NewChange at (members_view es)) p x ns new in
      new_one (members_view es) ns r.0 (get_member r.0 ns) refl r.2 r.3.0 r.3.1

  at_name_changes : (ms ns : Members) (name : List ℕ) (o q : Option Data) → get_member name ms ≡ o → get_member name ns ≡ q → MemberChange Under (inside at name) o q p x
      → SomeMember (OldChange Under at ns) ms p x ⊎ SomeMember (NewChange at ms) ns p x
  at_name_changes ms ns name None None is also change = absurd change
  at_name_changes ms ns name None (Some e) is also change = inr (found_some (NewChange at ms) p x name e ns also (is, change))
  at_name_changes ms ns name (Some d) q is also change =
      inl (found_some (OldChange Under at ns) p x name d ms is (subst (λ (o : Option Data). MemberChange Under (inside at name) (Some d) o p x) (sym also) change))

  -- and what stands at a name is told of one of the members
  pub changes_of_one : (ms ns : Members) → MembersChange Under at ms ns p x → SomeMember (OldChange Under at ns) ms p x ⊎ SomeMember (NewChange at ms) ns p x
  changes_of_one ms ns change = at_name_changes ms ns change.0 (get_member change.0 ms) (get_member change.0 ns) refl refl change.1

-- the members of both objects are added
pub members_added : (a b f : Told) (Under : List ℕ → Data → Data → List ℕ → Change → Type 0) (at : List ℕ) (es : List Entry) (ns : Members) → IsStrictlySortedBy string_cmp (keys_of es)
    → Adds a b (SomeMember (OldChange Under at ns) (members_view es)) → Adds b f (SomeMember (NewChange at (members_view es)) ns) → Adds a f (MembersChange Under at (members_view es) ns)
members_added a b f Under at es ns sorted old new =
    adds_as a f _ _ (λ p x r. one_changes Under at p x es ns sorted r) (λ p x r. (x, changes_of_one Under at p x (members_view es) ns r)) (adds_then a b f _ _ old new)

-- ---- new members

-- one is new
pub new_added : (a b : Told) (at text key name : List ℕ) (ms : Members) (d : Data) → text ≡ inside at key → key ≡ name → None ≡ get_member key ms → Adds a b (Only text Added) → Adds a b (NewChange at ms name d)
new_added a b at text key name ms d text_is key_is none adds =
    let place : text ≡ inside at name = text_is ∙ ap (inside at) key_is in
    let no_old : get_member name ms ≡ None = ap (λ k. get_member k ms) (sym key_is) ∙ sym none in
    adds_as a b _ _ (λ p x r. (no_old, (r.0 ∙ place, r.1))) (λ p x r. (x, (r.1.0 ∙ sym place, r.1.1))) adds

-- one isn't
pub member_skipped : (a f : Told) (Of : List ℕ → Data → List ℕ → Change → Type 0) (es more : List Entry) (e : Entry) → es ≡ e ∷ more → ((p : List ℕ) (x : Change) → Of (string_bytes e.0) (view e.1) p x → ⊥) → Adds a f (SomeMember Of (members_view more)) → Adds a f (SomeMember Of (members_view es))
member_skipped a f Of es more e is never rest = member_more a a f Of es more e is (adds_none a _ never) rest

pub none_seen : {X Y : Type 0} (f : X → Y) (o : Option X) → is_some o ≡ false → None ≡ option_map f o
none_seen f None is = refl
none_seen f (Some x) is = absurd (true≢false is)

pub not_new : {X : Type 0} (f : X → Data) (o : Option X) (key name : List ℕ) (ms : Members) → is_some o ≡ true → option_map f o ≡ get_member key ms → key ≡ name → get_member name ms ≡ None → ⊥
not_new f None key name ms some is key_is none = true≢false (sym some)
not_new f (Some x) key name ms some is key_is none = impossible (f x) (ap (λ k. get_member k ms) (sym key_is) ∙ sym is) none
