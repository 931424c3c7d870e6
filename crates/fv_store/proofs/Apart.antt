-- No two objects of a bundle have one name.
use Rattle.std.proofs.Common.{◌≡◌, ℕ, List, [], ◌∷◌, false, true≢false, String, string_bytes, bytes_eq, map, refl, sym, ◌∙◌}
use Rattle.std.specs.List.{AllByRecursion, IsDistinct}
use Rattle.std.specs.Map.{keys_of}
use Rattle.std.specs.String.{string_eq}
use Rattle.std.specs.declared.alloc.Global.{Global}
use Rattle.std.proofs.lemmas.Bool.{false_from_ne_true}
use Rattle.std.proofs.lemmas.Map.Keys.{IsDistinct-head, IsDistinct-tail}
use Rattle.std.proofs.lemmas.Slice.Eq.{bytes_eq-Decides}
use Rattle.fv_bundle.specs.Views.{named_view}
use Rattle.fv_model.specs.Writing.{named_written}
use Rattle.fv_bundle.specs.declared.bundle.Object.{Object}
use Rattle.fv_store.specs.Written.{object_kept}
use Rattle.fv_store_tables.specs.Changes.{AreApart, AllTexts, has_name}

-- what the rows keep of a map's objects
abbrev pub rows_of : List (String Global × Object) → AllTexts
rows_of es = map object_kept (map named_written (map named_view es))

other_way : (a b : List ℕ) → bytes_eq a b ≡ false → bytes_eq b a ≡ false
other_way a b other = false_from_ne_true _ (λ same. true≢false (sym ((bytes_eq-Decides a b).1 (sym ((bytes_eq-Decides b a).0 same))) ∙ other))

none_named : (k : String Global) (es : List (String Global × Object)) → AllByRecursion (λ y. string_eq k y ≡ false) (keys_of es) → has_name (string_bytes k) (rows_of es) ≡ false
none_named k [] others = refl
none_named k (e ∷ es) others = rw (other_way (string_bytes k) (string_bytes e.0) others.0) (none_named k es others.1)

pub rows_apart : (es : List (String Global × Object)) → IsDistinct string_eq (keys_of es) → AreApart (rows_of es)
rows_apart [] distinct = tt
rows_apart (e ∷ es) distinct = (none_named e.0 es (IsDistinct-head string_eq e.0 (keys_of es) distinct), rows_apart es (IsDistinct-tail string_eq e.0 (keys_of es) distinct))
