-- How the rows of the two tables show their rowids and keys.
use Rattle.std.proofs.Common.{◌≡◌, ℕ, true, List, bytes_eq, refl, ap, ap₂}
use Rattle.std.proofs.lemmas.Bool.{and_parts, and_from}
use Rattle.std.proofs.lemmas.Slice.Eq.{bytes_eq-Decides}
use Rattle.sqlite.specs.Order.{Row, column, bytes}
use Rattle.fv_store_tables.specs.Stands.{ObjectKey, same_place, head_row, part_row}
use Rattle.fv_store_tables.proofs.RowEdits.{Shows}

abbrev cell : ℕ → Row → List ℕ
cell at r = bytes (column r at)

pub heads : Shows head_row bytes_eq
heads = record {
  numbered = λ n k v. refl;
  keyed = λ i n k l v w e. ap (cell 1) e;
  valued = λ i n k l v w e. ap (λ r. record { form = cell 2 r; root = cell 3 r }) e;
  decides = λ k l. bytes_eq-Decides k l;
}

pub place_is : (a b : ObjectKey) → same_place a b ≡ true → a ≡ b
place_is a b h =
    let parts = and_parts (bytes_eq a.0 b.0) (bytes_eq a.1 b.1) h in
    let one = (bytes_eq-Decides a.0 b.0).0 parts.0 in
    let two = (bytes_eq-Decides a.1 b.1).0 parts.1 in
    ap₂ (λ (x y : List ℕ). (x, y)) one two

pub same_place_is : (a b : ObjectKey) → a ≡ b → same_place a b ≡ true
same_place_is a b e = and_from _ _ ((bytes_eq-Decides a.0 b.0).1 (ap (λ (p : ObjectKey). p.0) e)) ((bytes_eq-Decides a.1 b.1).1 (ap (λ (p : ObjectKey). p.1) e))

pub parts : Shows part_row same_place
parts = record {
  numbered = λ n k v. refl;
  keyed = λ i n k l v w e. ap (λ r. (cell 1 r, cell 2 r)) e;
  valued = λ i n k l v w e. ap (λ r. record { kind = cell 3 r; fields = cell 4 r }) e;
  decides = λ k l. (place_is k l, same_place_is k l);
}
