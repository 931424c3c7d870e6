-- What templates become by attributes alone.
use Rattle.std.proofs.Common.{◌≡◌, ℕ, List, [], ◌∷◌, ◌++◌, map, String, string_bytes, refl, ap}
use Rattle.std.specs.List.{join_by}
use Rattle.std.specs.declared.alloc.Global.{Global}
use Rattle.std.proofs.lemmas.List.Folds.{flat_map-map}

-- a list of texts, joined
pub joined_texts : (between : List ℕ) (ts : List (String Global)) → join_by (λ t. t) between (map string_bytes ts) ≡ join_by string_bytes between ts
joined_texts between [] = refl
joined_texts between (t ∷ ts) = ap (λ rest. string_bytes t ++ rest) (flat_map-map (λ y. between ++ y) string_bytes ts)
