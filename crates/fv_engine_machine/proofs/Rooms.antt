-- Room for so many more rows of each table.
use Rattle.std.proofs.Common.{◌≡◌, ◌<◌, ◌+◌, ◌-◌, ◌^◌, ◌≤◌, ◌≤ℤ◌, ◌<ℤ◌, ℕ, ℤ, pos, negsuc, ◌+ℤ◌, nat_lt, min, if◌then◌else◌, List, [], ◌∷◌, Bool, true, false, inl, inr, refl, sym, subst, arith}
use Rattle.std.proofs.lemmas.Bool.{cases_lt}
use Rattle.std.proofs.lemmas.Bool.Decides.{nat_tests}
use Rattle.std.proofs.lemmas.Int.{ints}
use Rattle.sqlite.specs.Edit.{id_in}
use Rattle.sqlite.specs.Effect.{Database}
use Rattle.sqlite.specs.Order.{Row}
use Rattle.sqlite.specs.Tree.{rowid}
use Rattle.sqlite_rules.specs.Lists.{Has}
use Rattle.fv_store_tables.specs.Causes.{HasRoom}
use Rattle.fv_store.specs.Causes.{HasRooms, LeavesRoom}
use Rattle.fv_engine_machine.specs.Machines.{rowids_from, room_above, room_in}

-- fewer than there are rowids from one on leave it a rowid, and the one so many further
below_so_many : (i : ℤ) (n : ℕ) → n < rowids_from i → (negsuc (2 ^ 63 - 1) ≤ℤ i) × ((i +ℤ pos n) <ℤ pos (2 ^ 63))
below_so_many (pos m) n less = (omega (arith, ints), omega (arith, ints, less))
below_so_many (negsuc m) n less = go (nat_lt m (2 ^ 63)) refl less
  where
    go : (b : Bool) → nat_lt m (2 ^ 63) ≡ b → n < (if b then 2 ^ 63 else 0) → (negsuc (2 ^ 63 - 1) ≤ℤ negsuc m) × ((negsuc m +ℤ pos n) <ℤ pos (2 ^ 63))
    go true is few = (grind (arith, ints, nat_tests, is), omega (arith, ints, few))
    go false is none = absurd (omega (arith, none))

fewer_than_both : (n a b : ℕ) → n < min a b → (n < a) × (n < b)
fewer_than_both n a b less = (omega (arith, less), omega (arith, less))

at_most : (rows : List Row) (n : ℕ) → n < room_above rows → n < 2 ^ 63
at_most [] n less = less
at_most (row ∷ rows) n less = at_most rows n (fewer_than_both n (rowids_from (id_in (rowid row))) (room_above rows) less).1

each_below : (rows : List Row) (n : ℕ) → n < room_above rows → (row : Row) → Has rows row → n < rowids_from (id_in (rowid row))
each_below [] n less row has = absurd has
each_below (r ∷ rows) n less row (inl here) = subst (λ (q : Row). n < rowids_from (id_in (rowid q))) (sym here) (fewer_than_both n (rowids_from (id_in (rowid r))) (room_above rows) less).0
each_below (r ∷ rows) n less row (inr later) = each_below rows n (fewer_than_both n (rowids_from (id_in (rowid r))) (room_above rows) less).1 row later

rows_for : (rows : List Row) (n : ℕ) → n < room_above rows → HasRoom n rows
rows_for rows n less = record {
  few = at_most rows n less;
  below = λ row has. below_so_many (id_in (rowid row)) n (each_below rows n less row has);
}

pub room_for : (db : Database) (n : ℕ) → n < room_in db → HasRooms n db
room_for db n less =
    let both = fewer_than_both n (room_above (db.trees 1)) (room_above (db.trees 3)) less in
    (rows_for (db.trees 1) n both.0, rows_for (db.trees 3) n both.1)

-- ---- and back

so_many_below : (i : ℤ) (n : ℕ) → n < 2 ^ 63 → (negsuc (2 ^ 63 - 1) ≤ℤ i) × ((i +ℤ pos n) <ℤ pos (2 ^ 63)) → n < rowids_from i
so_many_below (pos m) n few h = omega (arith, ints, h.1)
so_many_below (negsuc m) n few h = go (nat_lt m (2 ^ 63)) refl
  where
    go : (b : Bool) → nat_lt m (2 ^ 63) ≡ b → n < (if b then 2 ^ 63 else 0)
    go true is = few
    go false is = absurd (grind (arith, ints, nat_tests, is, h.0))

fewer_than_least : (n a b : ℕ) → n < a → n < b → n < min a b
fewer_than_least n a b first second = omega (arith, first, second)

below_each : (rows : List Row) (n : ℕ) → n < 2 ^ 63 → ((row : Row) → Has rows row → n < rowids_from (id_in (rowid row))) → n < room_above rows
below_each [] n few each = few
below_each (row ∷ rows) n few each = fewer_than_least n (rowids_from (id_in (rowid row))) (room_above rows) (each row (inl refl)) (below_each rows n few (λ r there. each r (inr there)))

rows_of : (rows : List Row) (n : ℕ) → HasRoom n rows → n < room_above rows
rows_of rows n room = below_each rows n room.few (λ row has. so_many_below (id_in (rowid row)) n room.few (room.below row has))

room_of : (db : Database) (n : ℕ) → HasRooms n db → n < room_in db
room_of db n room = fewer_than_least n (room_above (db.trees 1)) (room_above (db.trees 3)) (rows_of (db.trees 1) n room.0) (rows_of (db.trees 3) n room.1)

at_most_fewer : (given before after : ℕ) → ((n : ℕ) → n + given < before → n < after) → before ≤ after + given
at_most_fewer given before after h = elim (cases_lt given before) [
  | inl some ↦ omega (arith, some, h (before - (given + 1)) (omega (arith, some)))
  | inr none ↦ omega (arith, none)
]

-- so many rowids fewer are left, at most
pub room_left : (given : ℕ) (old new : Database) → LeavesRoom given old new → room_in old ≤ room_in new + given
room_left given old new leaves = at_most_fewer given (room_in old) (room_in new) (λ n less. room_of new n (leaves n (room_for old (n + given) less)))
