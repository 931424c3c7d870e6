-- The rows of the maps keep the rules of their tables.
use Rattle.std.proofs.Common.{◌≡◌, ◌&&◌, ◌||◌, ◌∙◌, inl, inr, ℕ, ℤ, Bool, true, false, List, [], ◌∷◌, bytes_eq, Option, Some, None, IsSome, refl, ap, subst}
use Rattle.std.specs.List.{list_any}
use Rattle.std.specs.Ordering.{is_ne}
use Rattle.std.proofs.lemmas.Bool.{cases_Bool}
use Rattle.std.proofs.lemmas.Slice.Eq.{bytes_eq-Decides}
use Rattle.sqlite.specs.declared.types.Value.TheVariants.{Int}
use Rattle.sqlite.specs.Order.{Row}
use Rattle.sqlite.specs.Ops.{binary, is_true, from_truth}
use Rattle.sqlite.specs.Tree.{Trees, rowid}
use Rattle.sqlite.specs.Edit.{without_all}
use Rattle.sqlite_value.specs.declared.keys.Order.{Order}
use Rattle.sqlite_value.specs.Keys.{first_key, joined}
use Rattle.sqlite_value.proofs.OrderLemmas.{value_cmp-Int}
use Rattle.sqlite_schema.specs.Names.{same_name}
use Rattle.sqlite_schema.specs.declared.schema.Among.TheVariants.{All}
use Rattle.sqlite_schema.specs.declared.schema.Constraint.TheVariants.{Unique}
use Rattle.sqlite_schema.specs.Rules.{agree, differ, clashes, passes, Keeps, Refers}
use Rattle.sqlite_rules.specs.Lists.{Has}
use Rattle.sqlite_rules.proofs.ListLemmas.{all_from, some_from}
use Rattle.fv_store_tables.specs.Tables.{about, store_schema, kept_record, kept_object}
use Rattle.fv_store_tables.specs.Rows.{HasRows}
use Rattle.fv_store_tables.specs.Stands.{Head, ObjectTexts, ObjectKey, Maps, head_row, part_row, IsTextHead, IsTextPart, same_place, IsOwned}
use Rattle.fv_store_tables.proofs.RowEdits.{equal_is, same_int, left_from}
use Rattle.fv_store_tables.proofs.Layouts.{place_is}
use Rattle.fv_store_tables.proofs.OneTable.{and_true, equal_texts}
use Rattle.fv_store_tables.proofs.Objects.{same_id, and_false}

-- rows of a table of which no two have one key
pub record AreApart {K V : Type 0} (row_of : ℤ → K → V → Row) (rows : List Row) : Type 0 where
  pub shape : (row : Row) → Has rows row → (n : ℤ) × (k : K) × (v : V) × (row ≡ row_of n k v)
  pub once : (i n : ℤ) (k : K) (v w : V) → Has rows (row_of i k v) → Has rows (row_of n k w) → i ≡ n

pub apart_of : {K V : Type 0} (row_of : ℤ → K → V → Row) (IsGood : K → V → Type 0) (rows : List Row) (m : K → Option V) → HasRows row_of IsGood rows m → AreApart row_of rows
apart_of row_of IsGood rows m s = record { shape = λ row h. let it = s.sound row h in (it.number, it.key, it.value, it.is); once = s.once }

pub apart_left : {K V : Type 0} (row_of : ℤ → K → V → Row) (rows : List Row) (ids : List ℤ) → AreApart row_of rows → AreApart row_of (without_all rows ids)
apart_left row_of rows ids s = record {
  shape = λ row h. s.shape row (left_from ids rows row h).0;
  once = λ i n k v w a b. s.once i n k v w (left_from ids rows _ a).0 (left_from ids rows _ b).0;
}

none_any : {X : Type 0} (p : X → Bool) (xs : List X) → ((x : X) → Has xs x → p x ≡ false) → list_any p xs ≡ false
none_any p [] none = refl
none_any p (x ∷ xs) none = rw (none x (inl refl)) (none_any p xs (λ y there. none y (inr there)))

-- no number differs from itself
never_differs : (n : ℤ) → differ (Int n) (Int n) ≡ false
unfolding binary
never_differs n = ap (λ o. is_true (from_truth (Some (is_ne o)))) (value_cmp-Int n n ∙ equal_is _ (same_int n))

abbrev by_bytes : Order
by_bytes = record { digits = 0 }

module _ (rows : List Row) (s : AreApart head_row rows) where
  head_agree : (i n : ℤ) (k l : List ℕ) (v w : Head) → agree by_bytes (1 ∷ []) (head_row i k v) (1 ∷ []) (head_row n l w) ≡ bytes_eq k l
  unfolding first_key
  head_agree i n k l v w = rw (equal_texts k l) (and_true (bytes_eq k l))

  head_clash : (a b : Row) → Has rows a → Has rows b → (agree by_bytes (1 ∷ []) a (1 ∷ []) b && differ (rowid a) (rowid b)) ≡ false
  head_clash a b ha hb =
      let ia = s.shape a ha in
      let ib = s.shape b hb in
      elim (cases_Bool (bytes_eq ia.1 ib.1)) [
        | inl same ↦
            let key : ia.1 ≡ ib.1 = (bytes_eq-Decides ia.1 ib.1).0 same in
            let number : ia.0 ≡ ib.0 = s.once ia.0 ib.0 ib.1 ia.2 ib.2 (subst (Has rows) (ia.3 ∙ ap (λ k. head_row ia.0 k ia.2) key) ha) (subst (Has rows) ib.3 hb) in
            let never : differ (rowid a) (rowid b) ≡ false = rw (ia.3, ib.3, number) (never_differs ib.0) in
            rw never (and_false _)
        | inr other ↦ rw (ia.3, ib.3, head_agree ia.0 ib.0 ia.1 ib.1 ia.2 ib.2, other) refl
      ]

  head_free : (row : Row) → Has rows row → clashes by_bytes (1 ∷ []) rows row ≡ false
  head_free row there = none_any (λ other. agree by_bytes (1 ∷ []) other (1 ∷ []) row && differ (rowid other) (rowid row)) rows (λ other has. head_clash other row has there)

module _ (rows : List Row) (s : AreApart part_row rows) where
  part_agree : (i n : ℤ) (k l : ObjectKey) (v w : ObjectTexts) → agree by_bytes (1 ∷ 2 ∷ []) (part_row i k v) (1 ∷ 2 ∷ []) (part_row n l w) ≡ same_place k l
  unfolding first_key
  part_agree i n k l v w = rw (equal_texts k.0 l.0, equal_texts k.1 l.1, and_true (bytes_eq k.1 l.1)) refl

  part_clash : (a b : Row) → Has rows a → Has rows b → (agree by_bytes (1 ∷ 2 ∷ []) a (1 ∷ 2 ∷ []) b && differ (rowid a) (rowid b)) ≡ false
  part_clash a b ha hb =
      let ia = s.shape a ha in
      let ib = s.shape b hb in
      elim (cases_Bool (same_place ia.1 ib.1)) [
        | inl same ↦
            let key : ia.1 ≡ ib.1 = place_is ia.1 ib.1 same in
            let number : ia.0 ≡ ib.0 = s.once ia.0 ib.0 ib.1 ia.2 ib.2 (subst (Has rows) (ia.3 ∙ ap (λ k. part_row ia.0 k ia.2) key) ha) (subst (Has rows) ib.3 hb) in
            let never : differ (rowid a) (rowid b) ≡ false = rw (ia.3, ib.3, number) (never_differs ib.0) in
            rw never (and_false _)
        | inr other ↦ rw (ia.3, ib.3, part_agree ia.0 ib.0 ia.1 ib.1 ia.2 ib.2, other) refl
      ]

  part_free : (row : Row) → Has rows row → clashes by_bytes (1 ∷ 2 ∷ []) rows row ≡ false
  part_free row there = none_any (λ other. agree by_bytes (1 ∷ 2 ∷ []) other (1 ∷ 2 ∷ []) row && differ (rowid other) (rowid row)) rows (λ other has. part_clash other row has there)

pub keys_apart : (db : Trees) → AreApart head_row (db 1) → AreApart part_row (db 3) → Keeps Unique store_schema db
keys_apart db hs ps = (
  all_from (λ row. passes Unique store_schema db about row ≡ true) (db 0) (λ row there. refl),
  (
    all_from (λ row. passes Unique store_schema db kept_record row ≡ true) (db 1) (λ row there. rw (head_free (db 1) hs row there) refl),
    (all_from (λ row. passes Unique store_schema db kept_object row ≡ true) (db 3) (λ row there. rw (part_free (db 3) ps row there) refl), tt),
  ),
)

-- ---- each object has its record

held_by : (db : Trees) (i n : ℤ) (at : ObjectKey) (p : ObjectTexts) (h : Head) → Has (db 1) (head_row i at.0 h) → list_any (λ parent. agree by_bytes (1 ∷ []) parent (1 ∷ []) (part_row n at p)) (db 1) ≡ true
unfolding first_key
held_by db i n at p h there = some_from (λ parent. agree by_bytes (1 ∷ []) parent (1 ∷ []) (part_row n at p)) (db 1) (head_row i at.0 h) there (rw (equal_texts at.0 at.0) (and_true (bytes_eq at.0 at.0) ∙ same_id at.0))

some_of : {X P : Type 0} (o : Option X) → IsSome o → ((x : X) → o ≡ Some x → P) → P
some_of None h f = absurd (let e = h in cc)
some_of (Some x) h f = f x refl

module _ (db : Trees) (t : Maps) (hs : HasRows head_row IsTextHead (db 1) t.heads) (ps : HasRows part_row IsTextPart (db 3) t.parts) (owned : IsOwned t) where
  has_its_parent : (row : Row) → Has (db 3) row → list_any (λ parent. agree by_bytes (1 ∷ []) parent (1 ∷ []) row) (db 1) ≡ true
  has_its_parent row there =
      let it = ps.sound row there in
      some_of (t.heads it.key.0) (owned it.key it.value it.known) (λ h is.
      let head = hs.complete it.key.0 h is in
      rw it.is (held_by db head.0 it.number it.key it.value h head.1))

  pub refers : Refers All store_schema db
  unfolding same_name joined
  refers = (
    all_from _ (db 0) (λ row there. refl),
    (all_from _ (db 1) (λ row there. refl), (all_from _ (db 3) (λ row there. rw (has_its_parent row there) (or_true _)), tt)),
  )
    where
      or_true : (b : Bool) → ((b || true) && true) ≡ true
      or_true true = refl
      or_true false = refl
