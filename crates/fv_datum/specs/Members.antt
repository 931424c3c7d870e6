-- The members of a JSON object and the items of an array.
use Rattle.std.specs.Prelude.{ℕ, List, [], ◌∷◌, Bool, false, Option, Some, option_map, option_and_then}
use Rattle.std.specs.List.{list_all, list_any}
use Rattle.std.specs.Option.{option_map_or}
use Rattle.std.specs.Str.{bytes_eq}
use Rattle.serde_json.specs.Data as json
use Rattle.serde_json.specs.Find.{as_object}

-- the members as a list
abbrev pub pairs : json.Members → List (List ℕ × json.Data)
pairs json.no_members = []
pairs (json.member k d ms) = (k, d) ∷ pairs ms

-- the items as a list
abbrev pub listed : json.Items → List json.Data
listed json.no_items = []
listed (json.item j js) = j ∷ listed js

-- an object, and no member has another name than these
abbrev pub has_only : List (List ℕ) → json.Data → Bool
has_only names j =
    option_map_or (λ ms. list_all (λ m. list_any (λ n. bytes_eq n m.0) names) (pairs ms)) (as_object j) false

-- a list where each is there
abbrev pub each_some : {X Y : Type 0} → (X → Option Y) → List X → Option (List Y)
each_some f [] = Some []
each_some f (x ∷ xs) = option_and_then (λ y. option_map (λ ys. y ∷ ys) (each_some f xs)) (f x)
