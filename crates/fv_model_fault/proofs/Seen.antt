-- The objects that are given, with the names of their types.
use Rattle.std.proofs.Common.{◌≡◌, ℕ, List, [], ◌∷◌, map, Box, Global, refl, sym, ap, subst, ◌∙◌, rules}
use Rattle.std.specs.Map.{keys_of}
use Rattle.serde_json.specs.Data as json
use Rattle.fv_bundle.specs.Bundles.{Thing}
use Rattle.fv_datum.specs.Ascending.{IsAscending}
use Rattle.fv_bundle.specs.Names.{ObjectTypes}
use Rattle.fv_bundle.specs.Types.{maps, type_use_view}
use Rattle.fv_bundle.specs.declared.type_use.TypeUse.{TypeUse, the_lemmas}
use Rattle.fv_bundle.specs.declared.type_use.TypeUse.TheVariants.{Map as map_use}
use Rattle.fv_model_fault.specs.Given.{objects_in, type_in, types_in}

types_named : (os : List (List ℕ × json.Data)) → keys_of os ≡ keys_of (map (λ o. (o.0, type_in o.1)) os)
types_named [] = refl
types_named (o ∷ os) = ap (λ ns. o.0 ∷ ns) (types_named os)

-- the names of objects ascend, with those of their types beside them too
pub types_ascend : (os : List (List ℕ × json.Data)) → IsAscending (keys_of os) → IsAscending (keys_of (map (λ o. (o.0, type_in o.1)) os))
types_ascend os ascending = subst (λ (ns : List (List ℕ)). IsAscending ns) (types_named os) ascending

-- the names of the types of the objects that are given
pub types_given : (j : json.Data) (os : List (List ℕ × json.Data)) (types : ObjectTypes) → objects_in j ≡ os → types ≡ map (λ o. (o.0, type_in o.1)) os → types_in j ≡ types
types_given j os types same is = ap (λ (xs : List (List ℕ × json.Data)). map (λ o. (o.0, type_in o.1)) xs) same ∙ sym is

-- the names of objects, each with the name of its type
abbrev pub types_of_all : List (List ℕ × Thing) → ObjectTypes
types_of_all = map (λ o. (o.0, o.1.type_name))

-- a map, level by level
pub map_view : (b : Box TypeUse Global) → type_use_view (map_use b) ≡ maps (type_use_view b.value)
map_view b = search (rules, the_lemmas)
