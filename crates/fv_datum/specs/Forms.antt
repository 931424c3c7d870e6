-- What JSON forms are made of: a form reads a JSON value as something, or as none where the value isn't of the form.
use Rattle.std.specs.Prelude.{ℕ, List, Option, Some, None, option_map, option_and_then, if◌then◌else◌}
use Rattle.std.specs.Option.{option_map_or}
use Rattle.serde_json.specs.Data as json
use Rattle.serde_json.specs.Find.{as_array, as_object, get}
use Rattle.fv_datum.specs.Members.{pairs, listed, has_only, each_some}

-- an object that has no member of another name than these, read so: it need not have them all
abbrev pub only : {X : Type 0} → List (List ℕ) → (json.Data → Option X) → json.Data → Option X
only names f j = if has_only names j then f j else None

-- what the member of a name is read as, none where there is no such member
abbrev pub required : {X : Type 0} → (json.Data → Option X) → List ℕ → json.Data → Option X
required f name j = option_and_then f (get name j)

-- the same, and this value where there is no such member
abbrev pub optional : {X : Type 0} → X → (json.Data → Option X) → List ℕ → json.Data → Option X
optional x f name j = option_map_or f (get name j) (Some x)

-- the same for a member that may be left out: what it is read as, if it is there
abbrev pub maybe : {X : Type 0} → (json.Data → Option X) → List ℕ → json.Data → Option (Option X)
maybe f = optional None (λ j. option_map (λ x. Some x) (f j))

-- what the members of an object are read as, each its name with its value: none of what is no object or where one isn't read
abbrev pub each_member : {X : Type 0} → (List ℕ × json.Data → Option X) → json.Data → Option (List X)
each_member f j = option_and_then (λ ms. each_some f (pairs ms)) (as_object j)

-- what the items of an array are read as: none of what is no array or where one isn't read
abbrev pub each_item : {X : Type 0} → (json.Data → Option X) → json.Data → Option (List X)
each_item f j = option_and_then (λ js. each_some f (listed js)) (as_array j)

-- what two values make, if both are there
abbrev pub map2 : {X Y Z : Type 0} → (X → Y → Z) → Option X → Option Y → Option Z
map2 f x y = option_and_then (λ a. option_map (f a) y) x

-- what three values make, if all are there
abbrev pub map3 : {W X Y Z : Type 0} → (W → X → Y → Z) → Option W → Option X → Option Y → Option Z
map3 f w x y = option_and_then (λ a. map2 (f a) x y) w

-- what four values make, if all are there
abbrev pub map4 : {V W X Y Z : Type 0} → (V → W → X → Y → Z) → Option V → Option W → Option X → Option Y → Option Z
map4 f v w x y = option_and_then (λ a. map3 (f a) w x y) v

-- what five values make, if all are there
abbrev pub map5 : {U V W X Y Z : Type 0} → (U → V → W → X → Y → Z) → Option U → Option V → Option W → Option X → Option Y → Option Z
map5 f u v w x y = option_and_then (λ a. map4 (f a) v w x y) u
