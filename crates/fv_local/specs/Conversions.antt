-- The group that is carried on through a place whose objects are validated ("Group conversion").
use Rattle.std.specs.Prelude.{ℕ, List, [], ◌∷◌, Bool, true, false, ◌&&◌, cond, nat_eq, filter}
use Rattle.std.specs.Cmp.Lexicographic.{pointwise}
use Rattle.std.specs.Option.{option_map_or}
use Rattle.fv_declare_schema.specs.Declarations.{Declarations}
use Rattle.fv_extract.specs.Places.{PlaceStep, element, key, value, content, FieldPlace}
use Rattle.fv_declare_schema.specs.ValidPlaces.{ValidPlace}
use Rattle.fv_bundle.specs.Bundles.{Thing}
use Rattle.fv_bundle.specs.Types.{number_of_type}

-- the group that these conversions make of a group: that of the first of exactly this group, applied once; the group itself where none is
-- of it
abbrev pub convert : List (ℕ × ℕ) → ℕ → ℕ
convert [] group = group
convert (c ∷ cs) group = cond (nat_eq c.0 group) c.1 (convert cs group)

-- the same step
abbrev pub is_same_step : PlaceStep → PlaceStep → Bool
is_same_step element element = true
is_same_step key key = true
is_same_step value value = true
is_same_step content content = true
is_same_step _ _ = false

-- the valid place is this place of its type: the field, and the same steps one after the other
abbrev pub stands_at : FieldPlace → ValidPlace → Bool
stands_at place p = nat_eq p.field place.field && pointwise is_same_step p.steps place.steps

-- the group that a group becomes at a place: by the conversions of that one of these valid places which has its field and the same steps; the
-- group itself where none of them has
abbrev pub converted_among : List ValidPlace → FieldPlace → ℕ → ℕ
converted_among [] place group = group
converted_among (p ∷ ps) place group =
    cond (nat_eq p.field place.field && pointwise is_same_step p.steps place.steps) (convert p.conversions group) (converted_among ps place group)

-- the places of a type whose objects are validated
abbrev pub valid_places_of : Declarations → ℕ → List ValidPlace
valid_places_of ds type = filter (λ p. nat_eq p.type type) ds.valid_places

-- the places of an object's type whose objects are validated; none where its type isn't declared
abbrev pub valid_places_at : Declarations → Thing → List ValidPlace
valid_places_at ds object = option_map_or (λ type. filter (λ p. nat_eq p.type type) ds.valid_places) (number_of_type ds.types object.type_name) []
