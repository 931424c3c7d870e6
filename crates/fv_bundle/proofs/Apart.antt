-- Names that stand once.
use Rattle.std.proofs.Common.{◌≡◌, ◌≢◌, List, [], ◌∷◌, map, false, String, string_bytes, sym, ◌∙◌, true≢false, arith}
use Rattle.std.specs.List.{AllByRecursion, IsDistinct}
use Rattle.std.specs.Map.{keys_of}
use Rattle.std.specs.String.{string_eq}
use Rattle.std.specs.declared.alloc.Global.{Global}
use Rattle.std.proofs.lemmas.List.Elements.{All-from_recursion}
use Rattle.std.proofs.lemmas.List.Kept.{AllPairs-cons}
use Rattle.std.proofs.lemmas.Map.Keys.{IsDistinct-head, IsDistinct-tail}
use Rattle.std.proofs.lemmas.Slice.Eq.{bytes_eq-Decides}
use Rattle.fv_bundle.specs.Types.{AreApart, TextMap, fields_view, use_view}
use Rattle.fv_bundle.specs.declared.type_use.TypeUse.{TypeUse}

others_apart : (k : String Global) (es : List (String Global × TypeUse)) → AllByRecursion (λ y. string_eq k y ≡ false) (keys_of es) → AllByRecursion (λ f. string_bytes k ≢ f.0) (map use_view es)
others_apart k [] h = tt
others_apart k (e ∷ es) h =
    (λ same. true≢false (sym ((bytes_eq-Decides (string_bytes k) (string_bytes e.0)).1 same) ∙ h.0), others_apart k es h.1)

entries_apart : (es : List (String Global × TypeUse)) → IsDistinct string_eq (keys_of es) → AreApart (map use_view es)
entries_apart [] h = λ i j d lt within. absurd (omega arith)
entries_apart (e ∷ es) h =
    AllPairs-cons (λ a b. a.0 ≢ b.0) (use_view e) (map use_view es) (All-from_recursion (λ f. string_bytes e.0 ≢ f.0) (map use_view es) (others_apart e.0 es (IsDistinct-head string_eq e.0 (keys_of es) h)))
    (entries_apart es (IsDistinct-tail string_eq e.0 (keys_of es) h))

-- the keys of a map are apart
pub unique-apart : (m : TextMap TypeUse) → IsDistinct string_eq (keys_of m.entries) → AreApart (fields_view m)
unique-apart m h = entries_apart m.entries h
