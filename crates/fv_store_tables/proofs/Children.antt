-- The children of the record that is taken out are the objects of its id.
use Rattle.std.proofs.Common.{◌≡◌, ◌&&◌, inl, inr, ℕ, ℤ, Bool, true, false, List, [], ◌∷◌, bytes_eq, Some, refl, ap, ◌∙◌}
use Rattle.std.specs.List.{list_any}
use Rattle.std.specs.Ordering.{is_eq}
use Rattle.std.proofs.lemmas.Slice.Eq.{bytes_eq-Decides}
use Rattle.std.proofs.lemmas.Bool.{cases_Bool}
use Rattle.std.proofs.lemmas.Map.Text.{is_eq-slice_cmp}
use Rattle.sqlite.specs.declared.types.Value.TheVariants.{Null, Int, Text}
use Rattle.sqlite.specs.Collation.TheVariants.{Binary}
use Rattle.sqlite.specs.Order.{Row, column}
use Rattle.sqlite.specs.Ops.{binary, is_true, from_truth}
use Rattle.sqlite.specs.Tree.{Trees, rowid}
use Rattle.sqlite_value.proofs.OrderLemmas.{value_cmp-Text}
use Rattle.sqlite_sql.specs.declared.ops.BinaryOp.TheVariants.{Compare}
use Rattle.sqlite_sql.specs.declared.ops.CompareOp.TheVariants.{Eq}
use Rattle.sqlite_rules.specs.Lists.{Has}
use Rattle.sqlite_rules.specs.Action.{pairs, loses, is_child_of, AreChildren}
use Rattle.sqlite_value.specs.Keys.{first_key}
use Rattle.fv_store_tables.proofs.Cascade.{cascade, lost}

truth_of : (b : Bool) → is_true (from_truth (Some b)) ≡ b
truth_of true = refl
truth_of false = refl

equal_texts : (s t : List ℕ) → is_true (binary (Compare Eq Binary) (Text s) (Text t)) ≡ bytes_eq s t
unfolding binary
equal_texts s t = ap (λ o. is_true (from_truth (Some (is_eq o)))) (value_cmp-Text s t) ∙ truth_of _ ∙ is_eq-slice_cmp s t

equal_null : (s : List ℕ) → is_true (binary (Compare Eq Binary) (Text s) Null) ≡ false
unfolding binary
equal_null s = refl

and_true : (b : Bool) → (b && true) ≡ b
and_true true = refl
and_true false = refl

loses_its_key : (old : Row) (id : List ℕ) → column old 1 ≡ Text id → loses (record { digits = 0 }) (1 ∷ []) (old, []) ≡ true
unfolding first_key
loses_its_key old id is = rw (is, equal_texts id id, equal_null id, (bytes_eq-Decides id id).1 refl) refl

child_is : (all : List Row) (old r : Row) (id rec : List ℕ) → column old 1 ≡ Text id → column r 1 ≡ Text rec → is_child_of (cascade all) r (old, []) ≡ bytes_eq rec id
unfolding first_key
child_is all old r id rec one two = rw (loses_its_key old id one, one, two, equal_texts rec id) (and_true (bytes_eq rec id))

module _ (all : List Row) (r : Row) (id rec : List ℕ) (of : column r 1 ≡ Text rec) where
  any_child : (olds : List Row) → ((o : Row) → Has olds o → column o 1 ≡ Text id) → list_any (is_child_of (cascade all) r) (pairs olds []) ≡ true → bytes_eq rec id ≡ true
  any_child [] each h = absurd cc
  any_child (o ∷ olds) each h = elim (cases_Bool (bytes_eq rec id)) [
    | inl same ↦ same
    | inr other ↦ any_child olds (λ x k. each x (inr k)) (rw (child_is all o r id rec (each o (inl refl)) of, other) at h)
  ]

  child_any : (o : Row) (olds : List Row) → ((x : Row) → Has (o ∷ olds) x → column x 1 ≡ Text id) → bytes_eq rec id ≡ true → list_any (is_child_of (cascade all) r) (pairs (o ∷ olds) []) ≡ true
  child_any o olds each same = rw (child_is all o r id rec (each o (inl refl)) of, same) refl

-- where the rows that are taken out all have this id, and there is one
pub children_sound : (mid : Trees) (olds : List Row) (id : List ℕ) (ids : List ℤ) → ((o : Row) → Has olds o → column o 1 ≡ Text id) → ((r : Row) → Has (mid 3) r → (rec : List ℕ) × (column r 1 ≡ Text rec))
    → AreChildren mid (cascade olds) ids → (i : ℤ) → Has ids i → (r : Row) × Has (mid 3) r × (column r 1 ≡ Text id) × (rowid r ≡ Int i)
children_sound mid olds id ids each texts are i h =
    let r = are.sound i h in
    let t = texts r.0 r.1 in
    let key = (bytes_eq-Decides t.0 id).0 (any_child olds r.0 id t.0 t.1 olds each r.2) in
    (r.0, r.1, t.1 ∙ ap Text key, r.3)

pub children_complete : (mid : Trees) (o : Row) (olds : List Row) (id : List ℕ) (ids : List ℤ) → ((x : Row) → Has (o ∷ olds) x → column x 1 ≡ Text id)
    → AreChildren mid (cascade (o ∷ olds)) ids → (r : Row) (i : ℤ) → Has (mid 3) r → column r 1 ≡ Text id → rowid r ≡ Int i → Has ids i
children_complete mid o olds id ids each are r i h is number =
    are.complete r i h (child_any (o ∷ olds) r id id is o olds each ((bytes_eq-Decides id id).1 refl)) number

pub some_lost : (o : Row) (olds : List Row) (id : List ℕ) → column o 1 ≡ Text id → lost (o ∷ olds) ≡ true
some_lost o olds id is = rw (loses_its_key o id is) refl
