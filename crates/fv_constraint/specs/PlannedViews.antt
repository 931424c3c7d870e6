-- The constraints of a tree that contracts see.
use Rattle.std.specs.Prelude.{ℕ, option_map}
use Rattle.fv_graph.specs.declared.flatten.Spot.{Spot}
use Rattle.fv_constraint.specs.Composed as spec
use Rattle.fv_constraint.specs.MeantView.{meant_view}
use Rattle.fv_constraint.specs.declared.planning.Planned.{Planned}

-- a constraint in a tree
abbrev pub planned_view : Planned → spec.Planned
planned_view p = record { constraint = p.constraint.now; meant = meant_view p.meant; own = option_map (λ t. t.now) p.own; given = p.with }

-- a constraint in a tree with the number of those below it
abbrev pub planned_entry : Spot Planned → spec.Planned × ℕ
planned_entry s = (planned_view s.value, s.below)
