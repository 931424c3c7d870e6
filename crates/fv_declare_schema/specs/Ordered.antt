-- The order of declarations.
use Rattle.std.specs.Prelude.{◌≡◌, ℕ, ◌+◌, ◌<◌, ◌≤◌, ◌⊎◌, List, [], ◌∷◌, map, length, true, slice_get, IfSome, Option, Some, None, option_map, option_and_then}
use Rattle.std.specs.List.{AllByRecursion}
use Rattle.fv_datum.specs.Name.{names}
use Rattle.fv_datum.specs.declared.kind.Kind.TheVariants as kind
use Rattle.fv_declare_schema.specs.ValidPlaces.{ValidPlace}
use Rattle.fv_declare_schema.specs.Groups.{Groups}
use Rattle.fv_datum.specs.Ascending.{IsAscending}
use Rattle.fv_extract.specs.Places.{PlaceStep, element, key, value, content}
use Rattle.fv_bundle.specs.Types.{TypeUse, texts, lists, maps, optionals, DeclaredFields, Declared, kind_of}
use Rattle.fv_declare_schema.specs.Declarations.{Placed, Declarations, count_nodes, AreNumbered}
use Rattle.fv_declare_schema.specs.Places.{Place, whole, field}

-- where a use stands in its type: at the object first, then in the fields
abbrev pub place_number : Place → ℕ
place_number whole = 0
place_number (field number steps kind) = number + 1

-- in an earlier type, or in the same type and at no later place
abbrev pub Precedes : Placed → Placed → Type 0
Precedes u v = (u.type < v.type) ⊎ ((u.type ≡ v.type) × (place_number u.place ≤ place_number v.place))

-- each use precedes those after it
abbrev pub IsRising : List Placed → Type 0
IsRising [] = Unit {0}
IsRising (u ∷ us) = AllByRecursion (Precedes u) us × IsRising us

-- what a type use holds one step inside: the keys of a map are texts
abbrev pub held_after : PlaceStep → TypeUse → Option TypeUse
held_after element (lists held) = Some held
held_after key (maps held) = Some texts
held_after value (maps held) = Some held
held_after content (optionals held) = Some held
held_after _ _ = None

-- what it holds these steps inside
abbrev pub held_inside : List PlaceStep → TypeUse → Option TypeUse
held_inside [] type = Some type
held_inside (step ∷ steps) type = option_and_then (held_inside steps) (held_after step type)

-- among a type's fields, the one of that number is there, and the steps lead in it to data of the kind
abbrev pub IsAmong : DeclaredFields → Place → Type 0
IsAmong fs whole = Unit {0}
IsAmong fs (field number steps kind) =
    (f : List ℕ × TypeUse) × (slice_get fs number ≡ Some f) × (option_map kind_of (held_inside steps f.1) ≡ Some kind)

-- the type of that number is declared, and the place is there among its fields
abbrev pub IsPlaced : Declared → Placed → Type 0
IsPlaced ts u = (t : List ℕ × DeclaredFields) × (slice_get ts u.type ≡ Some t) × IsAmong t.1 u.place

-- the type of that number is declared, the field of that number is there among its fields, and the steps lead in it to references
abbrev pub IsValidIn : Declared → ValidPlace → Type 0
IsValidIn ts p = (t : List ℕ × DeclaredFields) × (slice_get ts p.type ≡ Some t) × IsAmong t.1 (field p.field p.steps kind.Ref)

-- in an earlier type, or in the same type in an earlier field, or in the same field fewer steps inside
abbrev pub PrecedesPlace : ValidPlace → ValidPlace → Type 0
PrecedesPlace p q =
    (p.type < q.type)
    ⊎ ((p.type ≡ q.type) × ((p.field < q.field) ⊎ ((p.field ≡ q.field) × (length p.steps < length q.steps))))

-- each place precedes those after it
abbrev pub ArePlacesRising : List ValidPlace → Type 0
ArePlacesRising [] = Unit {0}
ArePlacesRising (p ∷ ps) = AllByRecursion (PrecedesPlace p) ps × ArePlacesRising ps

-- each is the number of a group
abbrev pub AreGroups : Groups → List ℕ → Type 0
AreGroups gs groups = AllByRecursion (λ g. g < length gs) groups

-- each leads from a group to a group
abbrev pub AreConversions : Groups → List (ℕ × ℕ) → Type 0
AreConversions gs conversions = AllByRecursion (λ c. (c.0 < length gs) × (c.1 < length gs)) conversions

-- the groups of uses, forms, types' sequences and conversions are declared, and there is one
pub record AreGrouped (d : Declarations) : Type 0 where
  pub some : 0 < length d.groups
  pub uses : AllByRecursion (λ u. AreGroups d.groups u.groups) d.occurrences
  pub forms : AllByRecursion (λ f. AreGroups d.groups f.1) d.form_groups
  pub sequences : AllByRecursion (λ s. IfSome s (AreGroups d.groups)) d.sequences
  pub conversions : AllByRecursion (λ p. AreConversions d.groups p.conversions) d.valid_places

-- types, forms and the fields of each type ascend by their names, fields are named as names, and the uses ascend by their types, in a type
-- by their fields, behind those at the object itself, and their places are there; the numbers of the nodes, of which there are at most
-- 1,024, run on through all trees; where objects are validated there are references, and these places ascend by their types, in a type by
-- their fields, in a field by how many steps lead to them; and groups are declared
pub record AreOrdered (d : Declarations) : Type 0 where
  pub types : IsAscending (map (λ t. t.0) d.types)
  pub forms : IsAscending (map (λ f. f.0) d.forms)
  pub fields : AllByRecursion (λ t. IsAscending (map (λ f. f.0) t.1)) d.types
  pub named : AllByRecursion (λ t. AllByRecursion (λ f. names f.0 ≡ true) t.1) d.types
  pub uses : IsRising d.occurrences
  pub there : AllByRecursion (IsPlaced d.types) d.occurrences
  pub numbered : AreNumbered 0 d.occurrences
  pub few : count_nodes (map (λ o. o.tree) d.occurrences) ≤ 1024
  pub valid : AllByRecursion (IsValidIn d.types) d.valid_places
  pub cascading : ArePlacesRising d.valid_places
  pub grouped : AreGrouped d
