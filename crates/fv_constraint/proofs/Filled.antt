-- Maps that are filled where nothing stands.
use Rattle.std.proofs.Common.{◌≡◌, ℕ, List, [], ◌∷◌, map, Bool, true, false, cond, Option, Some, None, option_and_then, is_some, String, string_bytes, string_cmp, nat_cmp, bytes_eq, Less, refl, sym, ap, subst, ◌∙◌}
use Rattle.std.specs.declared.alloc.Global.{Global}
use Rattle.std.specs.BTreeMap.{insert_entry}
use Rattle.std.specs.Cmp.Lexicographic.{slice_cmp}
use Rattle.std.specs.List.{AllByRecursion}
use Rattle.std.specs.List.Sorted.{IsStrictlySortedBy}
use Rattle.std.specs.Map.{keys_of}
use Rattle.std.specs.Option.{option_or}
use Rattle.std.specs.Ordering.{is_eq}
use Rattle.std.proofs.lemmas.Map.Keys.{sorted_head, sorted_tail}
use Rattle.std.proofs.lemmas.Map.Text.{is_eq-slice_cmp}
use Rattle.std.proofs.lemmas.Slice.Eq.{bytes_eq-Decides}
use Rattle.fv_datum.proofs.Maps.{seen, at_insert}
use Rattle.fv_constraint.proofs.PutIn.{given_alone}
use Rattle.fv_datum.specs.Attributes.{AttributeValue, Attributes}
use Rattle.fv_datum.specs.Lookup.{at_name}

-- ---- one value

taken : (o : Option AttributeValue) (v : AttributeValue) → is_some o ≡ false → Some v ≡ option_or o (Some v)
taken None v free = refl
taken (Some x) v free = absurd (cc)

module _ (old : Attributes) (name : List ℕ) where
  -- where nothing changes
  pub fill_stays : (o : Option AttributeValue) → option_or (at_name name old) o ≡ at_name name old → (q : List ℕ) → at_name q old ≡ option_or (at_name q old) (cond (bytes_eq q name) o None)
  fill_stays o stays q = go (bytes_eq q name) refl
    where
      go : (b : Bool) → bytes_eq q name ≡ b → at_name q old ≡ option_or (at_name q old) (cond b o None)
      go false e = sym (given_alone (at_name q old))
      go true e = let same : q ≡ name = (bytes_eq-Decides q name).0 e in rw same (sym stays)

  -- where a value is put in
  pub fill_put : (v : AttributeValue) → is_some (at_name name old) ≡ false
      → (q : List ℕ) → at_name q (insert_entry (slice_cmp nat_cmp) old name v) ≡ option_or (at_name q old) (cond (bytes_eq q name) (Some v) None)
  fill_put v free q = at_insert old name v q ∙ go (bytes_eq q name) refl
    where
      go : (b : Bool) → bytes_eq q name ≡ b → cond b (Some v) (at_name q old) ≡ option_or (at_name q old) (cond b (Some v) None)
      go false e = sym (given_alone (at_name q old))
      go true e = let same : q ≡ name = (bytes_eq-Decides q name).0 e in rw same (taken (at_name name old) v free)

-- ---- the values of a map's entries, one after another

module _ {X Y : Type 0} (view : X → Y) (f : Y → Option AttributeValue) where
  -- a name stands once among names that ascend
  gone : (k : String Global) (es : List (String Global × X)) → AllByRecursion (λ y. string_cmp k y ≡ Less) (keys_of es) → (q : List ℕ) → q ≡ string_bytes k → at_name q (map (seen view) es) ≡ None
  gone k [] h q same = refl
  gone k (e ∷ es) h q same =
      let other : bytes_eq q (string_bytes e.0) ≡ false = sym (is_eq-slice_cmp q (string_bytes e.0)) ∙ ap is_eq (ap (λ n. slice_cmp nat_cmp n (string_bytes e.0)) same ∙ h.0) in
      ap (λ b. cond b (Some (view e.1)) (at_name q (map (seen view) es))) other ∙ gone k es h.1 q same

  -- one entry more is filled in
  pub filled_more : (it rest : List (String Global × X)) (k : String Global) (x : X) (es new : Attributes) (whole : List ℕ → Option AttributeValue)
      → it ≡ (k, x) ∷ rest → IsStrictlySortedBy string_cmp (keys_of it)
      → ((q : List ℕ) → option_or (at_name q es) (option_and_then f (at_name q (map (seen view) it))) ≡ whole q)
      → ((q : List ℕ) → at_name q new ≡ option_or (at_name q es) (cond (bytes_eq q (string_bytes k)) (f (view x)) None))
      → (q : List ℕ) → option_or (at_name q new) (option_and_then f (at_name q (map (seen view) rest))) ≡ whole q
  filled_more it rest k x es new whole steps sorted done filled q =
      let left : IsStrictlySortedBy string_cmp (k ∷ keys_of rest) = subst (λ i. IsStrictlySortedBy string_cmp (keys_of i)) steps sorted in
      let more = at_name q (map (seen view) rest) in
      ap (λ o. option_or o (option_and_then f more)) (filled q) ∙ go (bytes_eq q (string_bytes k)) refl (sorted_head string_cmp k (keys_of rest) left)
      ∙ ap (λ i. option_or (at_name q es) (option_and_then f (at_name q (map (seen view) i)))) (sym steps) ∙ done q
    where
      go : (b : Bool) → bytes_eq q (string_bytes k) ≡ b → AllByRecursion (λ y. string_cmp k y ≡ Less) (keys_of rest)
          → option_or (option_or (at_name q es) (cond b (f (view x)) None)) (option_and_then f (at_name q (map (seen view) rest)))
          ≡ option_or (at_name q es) (option_and_then f (cond b (Some (view x)) (at_name q (map (seen view) rest))))
      go true e h =
          let none = gone k rest h q ((bytes_eq-Decides q (string_bytes k)).0 e) in
          ap (λ o. option_or (option_or (at_name q es) (f (view x))) (option_and_then f o)) none ∙ given_alone (option_or (at_name q es) (f (view x)))
      go false e h = ap (λ o. option_or o (option_and_then f (at_name q (map (seen view) rest)))) (given_alone (at_name q es))

-- the names that are left ascend
pub left_ascend : {X : Type 0} (it rest : List (String Global × X)) (k : String Global) (x : X) → it ≡ (k, x) ∷ rest → IsStrictlySortedBy string_cmp (keys_of it) → IsStrictlySortedBy string_cmp (keys_of rest)
left_ascend it rest k x steps sorted =
    let left : IsStrictlySortedBy string_cmp (k ∷ keys_of rest) = subst (λ i. IsStrictlySortedBy string_cmp (keys_of i)) steps sorted in
    sorted_tail string_cmp k (keys_of rest) left
