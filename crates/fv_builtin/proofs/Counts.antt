-- How many items and entries a datum has.
use Rattle.std.proofs.Common.{◌≡◌, List, [], ◌∷◌, length, Some, refl, arith}
use Rattle.fv_datum.specs.Data.{list, map}
use Rattle.fv_datum.specs.View.{items_view, entries_view}
use Rattle.fv_datum.specs.declared.datum.Datum.{Datum}
use Rattle.fv_builtin.specs.Sizes.{item_count, entry_count, size_of}

items_counted : (ds : List Datum) → item_count (items_view ds) ≡ length ds
items_counted [] = refl
items_counted (d ∷ ds) = rw (items_counted ds) (omega arith)

entries_counted : (es : List (Datum × Datum)) → entry_count (entries_view es) ≡ length es
entries_counted [] = refl
entries_counted (e ∷ es) = rw (entries_counted es) (omega arith)

pub list_size : (ds : List Datum) → size_of (list (items_view ds)) ≡ Some (length ds)
list_size ds = rw (items_counted ds) refl

pub map_size : (es : List (Datum × Datum)) → size_of (map (entries_view es)) ≡ Some (length es)
map_size es = rw (entries_counted es) refl
