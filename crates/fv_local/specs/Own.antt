-- What fails of an object's own constraints, by groups.
use Rattle.std.specs.Prelude.{ℕ, ℤ, List, [], ◌∷◌, map, cond, nat_eq, option_and_then, slice_get}
use Rattle.std.specs.Option.{option_map_or}
use Rattle.fv_declare_schema.specs.Declarations.{Declarations}
use Rattle.fv_bundle.specs.Bundles.{Thing}
use Rattle.fv_local.specs.Below.{below}
use Rattle.fv_registry.specs.Meanings.{Meanings}
use Rattle.fv_walk_traces.specs.Requests.{Own, Plain, InRanks}
use Rattle.fv_bundle.specs.Types.{number_of_type}
use Rattle.fv_local.specs.Failures.{failures_in}

-- what fails in the ranks of a type's sequence. The type's own name is 0 there, the number of `Default`, and has the constraints in
-- `Default`; another rank has those in the groups that it stands for
abbrev pub own_ranked : Meanings → Declarations → ℤ → Thing → ℕ → List ℕ → Own
own_ranked m ds now object type ranks = InRanks (map (λ r. failures_in m ds now object type (below ds.groups r)) ranks)

-- what fails in a group at an object of the type of that number: by ranks where the group is `Default` and the type has a sequence
-- ("Redefining the Default group for a class")
abbrev pub own_at : Meanings → Declarations → ℤ → Thing → ℕ → ℕ → Own
own_at m ds now object type h =
    let plain = Plain (failures_in m ds now object type (h ∷ [])) in
    cond (nat_eq h 0) (option_map_or (own_ranked m ds now object type) (option_and_then (λ ranks. ranks) (slice_get ds.sequences type)) plain) plain

-- what fails of an object's own constraints in a group; nothing where its type isn't declared
abbrev pub own_in : Meanings → Declarations → ℤ → Thing → ℕ → Own
own_in m ds now object h = option_map_or (λ type. own_at m ds now object type h) (number_of_type ds.types object.type_name) (Plain [])
