-- What fails of the uses of constraints at an object.
use Rattle.std.specs.Prelude.{ℕ, ℤ, List, [], ◌∷◌, map, filter, nat_eq, ◌&&◌}
use Rattle.std.specs.List.{flat_map, list_any}
use Rattle.fv_declare_schema.specs.Declarations.{Placed, Declarations}
use Rattle.fv_extract.specs.Parts.{parts_at}
use Rattle.fv_extract.specs.Places as object
use Rattle.fv_bundle.specs.Bundles.{Thing}
use Rattle.fv_constraint_tree.specs.Reports.{violated}
use Rattle.fv_constraint_tree.specs.Says.{Subject, of_datum, of_object}
use Rattle.fv_registry.specs.Meanings.{Meanings}
use Rattle.fv_walk_traces.specs.Turns as turn
use Rattle.fv_walk_traces.specs.Turns.{LocalFailure}
use Rattle.fv_declare_schema.specs.Places.{Place, whole, field}
use Rattle.fv_graph.specs.Graph.{mem}

-- one of those that stand at a place of an object: where in the object, and what is judged
abbrev pub Standing : Type 0
Standing = turn.Spot × Subject

-- what stands at a place, each with where in the object: the parts that the steps lead to in the field of that number, or the object itself
abbrev pub standing_at : Thing → Place → List (turn.Spot × Subject)
standing_at o whole = (turn.of_object, of_object o) ∷ []
standing_at o (field number steps kind) =
    let place : object.FieldPlace = record { field = number; steps = steps } in map (λ p. (turn.at place p.0, of_datum p.1)) (parts_at o place)

-- what fails of a use: the nodes of its tree that are reported of what stands at its place
abbrev pub failures_of : Meanings → ℤ → Thing → Placed → List LocalFailure
failures_of m now object u =
    flat_map (λ s. map (λ n. record { spot = s.0; node = n.0 }) (violated m now s.1 u.number u.tree)) (standing_at object u.place)

-- what fails of the uses at a type that are in one of these groups
abbrev pub failures_in : Meanings → Declarations → ℤ → Thing → ℕ → List ℕ → List LocalFailure
failures_in m ds now object type hs =
    flat_map (failures_of m now object) (filter (λ u. nat_eq u.type type && list_any (mem hs) u.groups) ds.occurrences)
