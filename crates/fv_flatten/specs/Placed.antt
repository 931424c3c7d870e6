-- The planned trees of uses, each with the place where it is read.
use Rattle.std.specs.Prelude.{◌≡◌, List, [], ◌∷◌, map, Bool, Option, Some, option_map}
use Rattle.std.specs.List.{list_any}
use Rattle.std.specs.Option.{option_or}
use Rattle.fv_constraint.specs.Composed.{Planned, IsTreeOf}
use Rattle.fv_declare_definition.specs.Definitions.{Definitions}
use Rattle.fv_constraint.specs.PlannedViews.{planned_view, planned_entry}
use Rattle.fv_flatten.specs.Flattening.{Use}
use Rattle.fv_constraint_tree.specs.TargetViews.{target_view}
use Rattle.fv_flatten.specs.Read.{IsReadTree, refuses_its_given, refuses_at}
use Rattle.fv_constraint.specs.Whereabouts.{unknown_rule_at, bad_definition_at}
use Rattle.fv_flatten.specs.Whereabouts.{IsUnbuiltIn}
use Rattle.fv_constraint.specs.declared.at.ConstraintAt.{ConstraintAt}
use Rattle.fv_constraint.specs.declared.at.ConstraintAt.TheVariants as at
use Rattle.fv_flatten.specs.declared.fault.FlattenFault.{FlattenFault}
use Rattle.fv_flatten.specs.declared.fault.FlattenFault.TheVariants.{UnknownRule, Attribute, UnexpectedType}
use Rattle.fv_flatten.specs.declared.fault.PlacedFlattenFault.{PlacedFlattenFault}
use Rattle.fv_flatten.specs.declared.placed.PlacedTree.{PlacedTree}
use Rattle.fv_first.specs.First.{first_in, first_where, first_of, IsFirstIn}
use Rattle.fv_constraint_tree.specs.Nodes.{Node}
use Rattle.fv_constraint_tree.specs.Preorder.{preorder}
use Rattle.fv_constraint_tree.specs.Trees.{Tree}
use Rattle.fv_registry.specs.Rules.{Known}

-- the constraints of a placed tree
abbrev pub planned_in : PlacedTree → List Planned
planned_in p = map (λ s. planned_view s.value) p.spots.items

-- a placed tree stands at a use's place, and is the preorder of the use's tree
abbrev pub IsPlannedFor : Definitions → Use → PlacedTree → Type 0
IsPlannedFor ds u p =
    (target_view p.place ≡ u.place) × ((t : Tree Planned) × IsTreeOf ds u.constraint u.message u.given t × (map planned_entry p.spots.items ≡ preorder t))

-- a constraint in it refuses the attributes that it gets
abbrev pub gets_refused : PlacedTree → Bool
gets_refused p = list_any refuses_its_given (planned_in p)

-- the own test of a constraint in it isn't on what stands at the place
abbrev pub is_misplaced : Known → PlacedTree → Bool
is_misplaced k p = list_any (refuses_at k (target_view p.place)) (planned_in p)

-- the first constraint in placed trees that refuses the attributes that it gets
abbrev pub refused_in : List PlacedTree → Option ConstraintAt
refused_in ps = first_in (λ n p. option_map (at.Node n) (first_where refuses_its_given (planned_in p))) ps

-- the first constraint in placed trees whose own test isn't on what stands at the place
abbrev pub misplaced_in : Known → List PlacedTree → Option ConstraintAt
misplaced_in k ps = first_in (λ n p. option_map (at.Node n) (first_where (refuses_at k (target_view p.place)) (planned_in p))) ps

-- what is refused first of definitions, else of placed trees
abbrev pub bad_attribute_in : Definitions → List PlacedTree → Option ConstraintAt
bad_attribute_in ds ps = option_or (bad_definition_at ds) (refused_in ps)

-- a fault at a place
abbrev pub fault_at : FlattenFault → ConstraintAt → PlacedFlattenFault
fault_at fault place = record { fault = fault; at = Some place }

-- the first fault of definitions and of placed trees, in the order in which it is answered
abbrev pub first_fault : Known → Definitions → List PlacedTree → Option PlacedFlattenFault
first_fault k ds ps = first_of (
    option_map (fault_at UnknownRule) (unknown_rule_at k ds)
    ∷ option_map (fault_at Attribute) (bad_attribute_in ds ps)
    ∷ option_map (fault_at UnexpectedType) (misplaced_in k ps)
    ∷ [])

-- a placed tree is read as a tree of the same shape
abbrev pub IsReadFrom : PlacedTree → Tree Node → Type 0
IsReadFrom p o = (t : Tree Planned) → preorder t ≡ map planned_entry p.spots.items → IsReadTree (target_view p.place) t o

-- the first constraint in placed trees whose pattern isn't built, where all before it are read
abbrev pub IsUnbuilt : List PlacedTree → Option ConstraintAt → Type 0
IsUnbuilt ps found = IsFirstIn (λ n p. IsUnbuiltIn (target_view p.place) (planned_in p) n) ps found
