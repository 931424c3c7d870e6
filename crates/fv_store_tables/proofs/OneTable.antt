-- What an answer of a query over one table shows: each row that passes, and no other.
use Rattle.std.proofs.Common.{◌≡◌, ◌&&◌, inl, inr, ℕ, ℤ, negsuc, Bool, true, false, cond, List, [], ◌∷◌, ◌++◌, map, flat_map, bytes_eq, Option, Some, refl, sym, ap, subst, ◌∙◌, IsPermutation, Less, arith}
use Rattle.std.specs.List.{list_all}
use Rattle.std.specs.Ordering.{is_eq}
use Rattle.std.proofs.lemmas.Map.Text.{is_eq-slice_cmp}
use Rattle.std.proofs.lemmas.Bool.{false_from_ne_true}
use Rattle.std.proofs.lemmas.Cmp.{tied_itself}
use Rattle.std.proofs.lemmas.Slice.Eq.{bytes_eq-Decides}
use Rattle.std.proofs.lemmas.List.Sorted.{IsPermutation-sym, length_permutation}
use Rattle.sqlite.specs.declared.types.Value.TheVariants.{Int, Text}
use Rattle.sqlite.specs.Collation.TheVariants.{Binary}
use Rattle.sqlite.specs.Order.{Row, column}
use Rattle.sqlite.specs.Ops.{binary, is_true, from_truth}
use Rattle.sqlite.specs.Term.{Term, Env, lit, col, holds}
use Rattle.sqlite.specs.Tree.{Trees, rowid, IsTable}
use Rattle.sqlite.specs.Edit.{id_in}
use Rattle.sqlite.specs.Query.{Query, Output, output, matches, inner, end, page, IsAnswer}
use Rattle.sqlite.specs.Program.{overlay}
use Rattle.sqlite_value.specs.declared.keys.Key.{Key}
use Rattle.sqlite_value.specs.Order.{value_cmp}
use Rattle.sqlite_value.proofs.OrderLemmas.{value_cmp-Text, value_cmp_total}
use Rattle.sqlite.proofs.Callers.{one_permutation}
use Rattle.sqlite_sql.specs.declared.ops.BinaryOp.TheVariants.{Compare}
use Rattle.sqlite_sql.specs.declared.ops.CompareOp.TheVariants.{Eq}
use Rattle.sqlite_rules.specs.Calls.{ids_of}
use Rattle.sqlite_rules.specs.Lists.{Has}
use Rattle.sqlite_rules.proofs.ListLemmas.{all_has, all_from, has_right}
use Rattle.sqlite_rules.proofs.ProbeLemmas.{has_mapped, mapped_has}
use Rattle.sqlite_trees.proofs.ListLemmas.{all-permutation}
use Rattle.fv_store_tables.specs.Rows.{IsRowOf, HasRows}
use Rattle.fv_store_tables.specs.Stands.{Head, ObjectTexts, ObjectKey, same_place, head_row, part_row, IsTextHead, IsTextPart}
use Rattle.fv_store_tables.proofs.Texts.{over_table, one_table, by_first, by_both}
use Rattle.fv_store_tables.proofs.RowEdits.{Shows, AreOf}

has_matched : {X Y : Type 0} (p : X → Bool) (f : X → Y) (xs : List X) (y : Y) → Has (flat_map (λ x. cond (p x) (f x ∷ []) []) xs) y → (x : X) × Has xs x × (p x ≡ true) × (y ≡ f x)
has_matched p f [] y h = absurd h
has_matched {X} {Y} p f (x ∷ xs) y h = go (p x) refl h (has_matched p f xs y)
  where
    go : (b : Bool) → p x ≡ b → Has (cond b (f x ∷ []) [] ++ flat_map (λ z. cond (p z) (f z ∷ []) []) xs) y
        → (Has (flat_map (λ z. cond (p z) (f z ∷ []) []) xs) y → (z : X) × Has xs z × (p z ≡ true) × (y ≡ f z)) → (z : X) × Has (x ∷ xs) z × (p z ≡ true) × (y ≡ f z)
    go true is (inl same) later = (x, inl refl, is, same)
    go true is (inr there) later = let r = later there in (r.0, inr r.1, r.2, r.3)
    go false is there later = let r = later there in (r.0, inr r.1, r.2, r.3)

matched_has : {X Y : Type 0} (p : X → Bool) (f : X → Y) (xs : List X) (x : X) → Has xs x → p x ≡ true → Has (flat_map (λ z. cond (p z) (f z ∷ []) []) xs) (f x)
matched_has p f [] x h passes = absurd h
matched_has p f (z ∷ xs) x (inl same) passes = rw (← same, passes) (inl refl)
matched_has p f (z ∷ xs) x (inr later) passes = has_right (cond (p z) (f z ∷ []) []) (flat_map (λ w. cond (p w) (f w ∷ []) []) xs) (f x) (matched_has p f xs x later passes)

-- none passes
none_matched : {X Y : Type 0} (p : X → Bool) (f : X → Y) (xs : List X) → ((x : X) → Has xs x → p x ≡ false) → flat_map (λ x. cond (p x) (f x ∷ []) []) xs ≡ []
none_matched p f [] none = refl
none_matched p f (x ∷ xs) none = rw (none x (inl refl)) (none_matched p f xs (λ y there. none y (inr there)))

never_below : (row : Row) → value_cmp (rowid row) (rowid row) ≡ Less → ⊥
never_below row below = let tied = tied_itself value_cmp_total (rowid row) in cc

-- this row passes, and no other
one_matched : {Y : Type 0} (p : Row → Bool) (f : Row → Y) (rows : List Row) → IsTable rows → (x : Row) → Has rows x → p x ≡ true → ((y : Row) → Has rows y → p y ≡ true → y ≡ x)
    → flat_map (λ y. cond (p y) (f y ∷ []) []) rows ≡ f x ∷ []
one_matched p f [] up x there passes alone = absurd there
one_matched p f (y ∷ rows) up x (inl is) passes alone =
    let others = none_matched p f rows (λ z has. false_from_ne_true _ (λ passed. never_below y (subst (λ w. value_cmp (rowid y) (rowid w) ≡ Less) (alone z (inr has) passed ∙ is) (all_has _ rows z up.0 has)))) in
    rw (← is, passes, others) refl
one_matched p f (y ∷ rows) up x (inr later) passes alone =
    let other : p y ≡ false = false_from_ne_true _ (λ passed. never_below y (subst (λ w. value_cmp (rowid y) (rowid w) ≡ Less) (sym (alone y (inl refl) passed)) (all_has _ rows x up.0 later))) in
    rw other (one_matched p f rows up.1 x later passes (λ z has. alone z (inr has)))

no_permutation : {X : Type 0} (xs : List X) → IsPermutation [] xs → xs ≡ []
no_permutation [] same = refl
no_permutation (x ∷ xs) same = absurd (omega (arith, length_permutation [] (x ∷ xs) same))

has_permuted : {X : Type 0} (xs ys : List X) (x : X) → IsPermutation xs ys → Has ys x → Has xs x
has_permuted xs ys x same = all_has (Has xs) ys x (all-permutation (Has xs) xs ys same (all_from (Has xs) xs (λ e h. h)))

module _ (tree : ℕ) (terms shown : List Term) (order : List (Term × Key)) (limit : Term) (db : Trees) (given : Row) (rows : List Row) where
  abbrev q : Query
  q = over_table tree terms shown order limit

  abbrev test : Row → Bool
  test r = list_all (holds (given ∷ r ∷ [])) terms

  abbrev env : Row → Env
  env r = given ∷ r ∷ []

  abbrev all : List Env
  all = matches db terms (inner tree end) (given ∷ [])

  pub kept : (a : IsAnswer q db given rows) → a.kept ≡ map (output q) all
  kept a = a.distinct ∙ ap (map (output q)) a.grouped

  -- an output comes of a row that passes
  pub ordered_sound : (a : IsAnswer q db given rows) (o : Output) → Has a.ordered o → (r : Row) × Has (db tree) r × (test r ≡ true) × (o ≡ output q (env r))
  ordered_sound a o h =
      let e = has_mapped (output q) all o (subst (λ l. Has l o) (kept a) (has_permuted a.kept a.ordered o a.same h)) in
      let r = has_matched test env (db tree) e.0 e.1 in
      (r.0, r.1, r.2, e.2 ∙ ap (output q) r.3)

  pub ordered_complete : (a : IsAnswer q db given rows) (r : Row) → Has (db tree) r → test r ≡ true → Has a.ordered (output q (env r))
  ordered_complete a r h passes =
      has_permuted a.ordered a.kept (output q (env r)) (IsPermutation-sym _ _ a.same)
      (subst (λ l. Has l (output q (env r))) (sym (kept a)) (mapped_has (output q) all (env r) (matched_has test env (db tree) r h passes)))

-- with no LIMIT the rows are those of the outputs
module _ (tree : ℕ) (terms shown : List Term) (order : List (Term × Key)) (db : Trees) (given : Row) (rows : List Row) (a : IsAnswer (over_table tree terms shown order (lit (Int (negsuc 0)))) db given rows) where
  abbrev whole : Query
  whole = over_table tree terms shown order (lit (Int (negsuc 0)))

  pub shown_sound : (x : Row) → Has rows x → (r : Row) × Has (db tree) r × (list_all (holds (given ∷ r ∷ [])) terms ≡ true) × (x ≡ (output whole (given ∷ r ∷ [])).1)
  shown_sound x h =
      let o = has_mapped (λ (k : Output). k.1) a.ordered x (subst (λ l. Has l x) a.shown h) in
      let r = ordered_sound tree terms shown order (lit (Int (negsuc 0))) db given rows a o.0 o.1 in
      (r.0, r.1, r.2, o.2 ∙ ap (λ (k : Output). k.1) r.3)

  pub shown_complete : (r : Row) → Has (db tree) r → list_all (holds (given ∷ r ∷ [])) terms ≡ true → Has rows (output whole (given ∷ r ∷ [])).1
  shown_complete r h passes =
      subst (λ l. Has l (output whole (given ∷ r ∷ [])).1) (sym a.shown)
      (mapped_has (λ (k : Output). k.1) a.ordered _ (ordered_complete tree terms shown order (lit (Int (negsuc 0))) db given rows a r h passes))

  abbrev paged : List Output → List Row
  paged os = page whole given (map (λ (o : Output). o.1) os)

  -- none is shown where none passes
  pub none_shown : ((r : Row) → Has (db tree) r → list_all (holds (given ∷ r ∷ [])) terms ≡ false) → rows ≡ []
  none_shown none =
      let empty = kept tree terms shown order (lit (Int (negsuc 0))) db given rows a ∙ ap (map (output whole)) (none_matched (λ r. list_all (holds (given ∷ r ∷ [])) terms) (λ r. given ∷ r ∷ []) (db tree) none) in
      a.shown ∙ ap paged (no_permutation a.ordered (subst (λ os. IsPermutation os a.ordered) empty a.same))

  -- and one where one passes
  pub one_shown : IsTable (db tree) → (r : Row) → Has (db tree) r → list_all (holds (given ∷ r ∷ [])) terms ≡ true
      → ((x : Row) → Has (db tree) x → list_all (holds (given ∷ x ∷ [])) terms ≡ true → x ≡ r) → rows ≡ (output whole (given ∷ r ∷ [])).1 ∷ []
  one_shown up r there passes alone =
      let single = kept tree terms shown order (lit (Int (negsuc 0))) db given rows a
      ∙ ap (map (output whole)) (one_matched (λ x. list_all (holds (given ∷ x ∷ [])) terms) (λ x. given ∷ x ∷ []) (db tree) up r there passes alone) in
      a.shown ∙ ap paged (one_permutation (output whole (given ∷ r ∷ [])) a.ordered (subst (λ os. IsPermutation os a.ordered) single a.same))

pub truth_of : (b : Bool) → is_true (from_truth (Some b)) ≡ b
truth_of true = refl
truth_of false = refl

pub equal_texts : (s t : List ℕ) → is_true (binary (Compare Eq Binary) (Text s) (Text t)) ≡ bytes_eq s t
unfolding binary
equal_texts s t = ap (λ o. is_true (from_truth (Some (is_eq o)))) (value_cmp-Text s t) ∙ truth_of _ ∙ is_eq-slice_cmp s t

pub and_true : (b : Bool) → (b && true) ≡ b
and_true true = refl
and_true false = refl

-- ---- the tests of the statements

pub head_by_id : (m : List ℕ → Option Head) (id : List ℕ) (more row : Row) (it : IsRowOf head_row IsTextHead m row) → list_all (holds ((Text id ∷ more) ∷ row ∷ [])) by_first ≡ bytes_eq it.key id
head_by_id m id more row it = rw (it.is, equal_texts it.key id) (and_true (bytes_eq it.key id))

-- whatever else the row keeps
pub row_by_id : (row : Row) (id : List ℕ) → column row 1 ≡ Text id → list_all (holds ((Text id ∷ []) ∷ row ∷ [])) by_first ≡ true
row_by_id row id is = rw (is, equal_texts id id) (and_true (bytes_eq id id)) ∙ (bytes_eq-Decides id id).1 refl

pub part_by_id : (m : ObjectKey → Option ObjectTexts) (id : List ℕ) (more row : Row) (it : IsRowOf part_row IsTextPart m row) → list_all (holds ((Text id ∷ more) ∷ row ∷ [])) by_first ≡ bytes_eq it.key.0 id
part_by_id m id more row it = rw (it.is, equal_texts it.key.0 id) (and_true (bytes_eq it.key.0 id))

pub part_by_place : (m : ObjectKey → Option ObjectTexts) (at : ObjectKey) (more row : Row) (it : IsRowOf part_row IsTextPart m row)
    → list_all (holds ((Text at.0 ∷ Text at.1 ∷ more) ∷ row ∷ [])) by_both ≡ same_place it.key at
part_by_place m at more row it = rw (it.is, equal_texts it.key.0 at.0, equal_texts it.key.1 at.1, and_true (bytes_eq it.key.1 at.1)) refl

-- ---- the rowids that a DELETE finds

module _ {K V : Type 0} (row_of : ℤ → K → V → Row) (IsGood : K → V → Type 0) (same : K → K → Bool) (shows : Shows row_of same) (tree : ℕ) (db : Trees) (plain : overlay db [] tree ≡ db tree) (m : K → Option V)
    (s : HasRows row_of IsGood (db tree) m) (terms : List Term) (given : Row) (gone : K → Bool) (test : (row : Row) (it : IsRowOf row_of IsGood m row) → list_all (holds (given ∷ row ∷ [])) terms ≡ gone it.key)
    (rows : List Row) (a : IsAnswer (one_table tree terms (col 1 0 ∷ [])) (overlay db []) given rows) where
  found_sound : (i : ℤ) → Has (ids_of rows) i → (k : K) × (v : V) × Has (db tree) (row_of i k v) × (gone k ≡ true)
  found_sound i h =
      let x = has_mapped (λ r. id_in (rowid r)) rows i h in
      let r = shown_sound tree terms (col 1 0 ∷ []) [] (overlay db []) given rows a x.0 x.1 in
      let there : Has (db tree) r.0 = subst (λ l. Has l r.0) plain r.1 in
      let it = s.sound r.0 there in
      let number : i ≡ it.number = x.2 ∙ ap (λ (v : Row). id_in (rowid v)) r.3 ∙ ap (λ (v : Row). id_in (rowid v)) it.is ∙ ap id_in (shows.numbered it.number it.key it.value) in
      (it.key, it.value, subst (Has (db tree)) (it.is ∙ ap (λ n. row_of n it.key it.value) (sym number)) there, sym (test r.0 it) ∙ r.2)

  found_complete : (i : ℤ) (k : K) (v : V) → Has (db tree) (row_of i k v) → gone k ≡ true → Has (ids_of rows) i
  found_complete i k v has is =
      let row = row_of i k v in
      let it = s.sound row has in
      let key = shows.keyed i it.number k it.key v it.value it.is in
      let there = shown_complete tree terms (col 1 0 ∷ []) [] (overlay db []) given rows a row (subst (λ l. Has l row) (sym plain) has) (test row it ∙ ap gone (sym key) ∙ is) in
      subst (Has (ids_of rows)) (ap id_in (shows.numbered i k v)) (mapped_has (λ r. id_in (rowid r)) rows (rowid row ∷ []) there)

  pub found : AreOf row_of (db tree) gone (ids_of rows)
  found = record { sound = found_sound; complete = found_complete }
