-- How many more rows can be given rowids.
use Rattle.std.proofs.Common.{◌≡◌, ◌+◌, ◌-◌, ◌^◌, ◌<◌, ◌≤◌, inl, inr, ℕ, ℤ, pos, negsuc, ◌+ℤ◌, ◌≤ℤ◌, ◌<ℤ◌, true, List, [], ◌∷◌, fold, refl, ap, subst, sym, ◌∙◌, arith}
use Rattle.std.proofs.lemmas.Int.{ints}
use Rattle.std.proofs.lemmas.Bool.Decides.{nat_tests}
use Rattle.sqlite.specs.declared.types.Value.TheVariants.{Int}
use Rattle.sqlite.specs.Edit.{id_in, next_rowid, without_all, put_all}
use Rattle.sqlite.specs.Ops.{fits_i64}
use Rattle.sqlite.specs.Order.{Row}
use Rattle.sqlite.specs.Tree.{rowid}
use Rattle.sqlite_rules.specs.Lists.{Has}
use Rattle.sqlite_rules.proofs.TableLemmas.{put_all_has}
use Rattle.fv_store_tables.specs.Causes.{HasRoom}
use Rattle.fv_store_tables.proofs.RowEdits.{left_from}

-- the rowid is so far from the last
abbrev IsBelow : ℕ → ℤ → Type 0
IsBelow n i = (negsuc (2 ^ 63 - 1) ≤ℤ i) × ((i +ℤ pos n) <ℤ pos (2 ^ 63))

below_fewer : (k n : ℕ) (i : ℤ) → k ≤ n → IsBelow n i → IsBelow k i
below_fewer k n i less h = (h.0, omega (arith, ints, h.1))

below_next : (n : ℕ) (i : ℤ) → IsBelow (n + 1) i → IsBelow n (i +ℤ pos 1)
below_next n i h = (omega (arith, ints, h.0), omega (arith, ints, h.1))

below_first : (n : ℕ) → n + 1 < 2 ^ 63 → IsBelow n (pos 1)
below_first n few = (omega (arith, ints), omega (arith, ints))

pub fewer : (k n : ℕ) (rows : List Row) → k ≤ n → HasRoom n rows → HasRoom k rows
fewer k n rows less h = record { few = omega (arith, h.few); below = λ row there. below_fewer k n (id_in (rowid row)) less (h.below row there) }

-- the next rowid is one above some rowid, or the first
next_of : (P : ℤ → Type 0) (rows : List Row) (start : ℤ) → P start → ((row : Row) → Has rows row → P (id_in (rowid row) +ℤ pos 1)) → P (fold (λ _ r. id_in (rowid r) +ℤ pos 1) start rows)
next_of P [] start first each = first
next_of P (row ∷ rows) start first each = next_of P rows (id_in (rowid row) +ℤ pos 1) (each row (inl refl)) (λ r there. each r (inr there))

next_below : (n : ℕ) (rows : List Row) → HasRoom (n + 1) rows → IsBelow n (next_rowid rows)
next_below n rows h = next_of (IsBelow n) rows (pos 1) (below_first n h.few) (λ row there. below_next n (id_in (rowid row)) (h.below row there))

fits : (i : ℤ) → IsBelow 0 i → fits_i64 i ≡ true
fits (pos n) h = grind (arith, ints, nat_tests)
fits (negsuc n) h = grind (arith, ints, nat_tests)

pub next_fits : (rows : List Row) → HasRoom 1 rows → fits_i64 (next_rowid rows) ≡ true
next_fits rows h = fits (next_rowid rows) (next_below 0 rows h)

pub rowid_fits : (rows : List Row) → HasRoom 0 rows → (row : Row) → Has rows row → fits_i64 (id_in (rowid row)) ≡ true
rowid_fits rows h row there = fits (id_in (rowid row)) (h.below row there)

-- rows that take the rowids of others take no room
pub room_kept : (old new : List Row) (ids : List ℤ) (news : List Row) → ((row : Row) → Has news row → (was : Row) × Has old was × (rowid row ≡ rowid was))
    → new ≡ put_all (without_all old ids) news → (n : ℕ) → HasRoom n old → HasRoom n new
room_kept old new ids news known is n h = record {
  few = h.few;
  below = λ row there. elim (put_all_has news (without_all old ids) row (subst (λ rows. Has rows row) is there)) [
    | inl put ↦ let it = known row put in subst (IsBelow n) (ap id_in (sym it.2)) (h.below it.0 it.1)
    | inr left ↦ h.below row (left_from ids old row left).0
  ];
}

-- a row that is put in takes the room of one
pub room_after : (old new : List Row) (row : Row) → rowid row ≡ Int (next_rowid old) → new ≡ put_all old (row ∷ []) → (n : ℕ) → HasRoom (n + 1) old → HasRoom n new
room_after old new row id is n h = record {
  few = omega (arith, h.few);
  below = λ r there. elim (put_all_has (row ∷ []) old r (subst (λ rows. Has rows r) is there)) [
    | inl put ↦ elim put [
      | inl same ↦ subst (IsBelow n) (sym (ap (λ (x : Row). id_in (rowid x)) same ∙ ap id_in id)) (next_below n old h)
      | inr never ↦ absurd never
    ]
    | inr was ↦ below_fewer n (n + 1) (id_in (rowid r)) (omega arith) (h.below r was)
  ];
}

-- rows that are among others take no more room
pub room_among : (old new : List Row) → ((row : Row) → Has new row → Has old row) → (n : ℕ) → HasRoom n old → HasRoom n new
room_among old new among n h = record { few = h.few; below = λ row there. h.below row (among row there) }
