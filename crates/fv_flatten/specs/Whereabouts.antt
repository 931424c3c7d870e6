-- Where uses of constraints have a fault, by their trees.
use Rattle.std.specs.Prelude.{◌≡◌, ℕ, List, IsTrue, Option, None, option_map, is_some, MatchOption, Err}
use Rattle.std.specs.List.{zip}
use Rattle.std.specs.Option.{option_or}
use Rattle.fv_builtin.specs.declared.fault.BuiltinFault.TheVariants.{BadPattern}
use Rattle.fv_constraint.specs.Composed.{Planned}
use Rattle.fv_constraint.specs.Whereabouts.{empty_definition, unknown_rule_at, bad_definition_at}
use Rattle.fv_constraint.specs.declared.at.ConstraintAt.{ConstraintAt}
use Rattle.fv_constraint.specs.declared.at.ConstraintAt.TheVariants as at
use Rattle.fv_constraint_tree.specs.Nodes.{Node}
use Rattle.fv_constraint_tree.specs.Preorder.{nodes}
use Rattle.fv_constraint_tree.specs.Targets.{Target}
use Rattle.fv_constraint_tree.specs.Trees.{Tree}
use Rattle.fv_declare_definition.specs.Definitions.{Definitions}
use Rattle.fv_first.specs.First.{first_in, first_where, IsFirstIn}
use Rattle.fv_flatten.specs.Flattening.{Use}
use Rattle.fv_flatten.specs.Read.{IsNode, IsReadAs, refuses_its_given, refuses_at}
use Rattle.fv_flatten.specs.declared.fault.FlattenFault.{FlattenFault}
use Rattle.fv_flatten.specs.declared.fault.FlattenFault.TheVariants.{EmptyConstraint, UnknownRule, Attribute, UnexpectedType}
use Rattle.fv_flatten.specs.declared.fault.FlattenFault.TheVariants as fault
use Rattle.fv_registry.specs.Rules.{Known}

-- ---- attributes

-- the first constraint in the trees of uses that refuses the attributes that it gets
abbrev pub refused_node : List (Tree Planned) → Option ConstraintAt
refused_node ts = first_in (λ n t. option_map (at.Node n) (first_where refuses_its_given (nodes t))) ts

-- what is refused first of definitions, else of the trees of uses
abbrev pub bad_attribute_at : Definitions → List (Tree Planned) → Option ConstraintAt
bad_attribute_at ds ts = option_or (bad_definition_at ds) (refused_node ts)

-- ---- places

-- the first constraint in the trees of uses whose own test isn't on what stands at the use's place
abbrev pub unexpected_at : Known → List Use → List (Tree Planned) → Option ConstraintAt
unexpected_at k us ts = first_in (λ n u. option_map (at.Node n) (first_where (refuses_at k u.0.place) (nodes u.1))) (zip us ts)

-- whether a constraint's pattern isn't built at a place, told by its number; else the constraint is read there
abbrev pub IsUnbuiltAt : Target → ℕ → Planned → Option ℕ → Type 0
IsUnbuiltAt place n p found = MatchOption found ((m : Node) × IsNode place p m) (λ k. (k ≡ n) × IsReadAs place p (Err BadPattern))

-- the first such constraint in a tree of that number, where all before it are read
abbrev pub IsUnbuiltIn : Target → List Planned → ℕ → Option ConstraintAt → Type 0
IsUnbuiltIn place ps n found = (k : Option ℕ) × IsFirstIn (IsUnbuiltAt place) ps k × (found ≡ option_map (at.Node n) k)

-- the first such constraint in the trees of uses, where all before it are read
abbrev pub IsUnbuiltOf : List Use → List (Tree Planned) → Option ConstraintAt → Type 0
IsUnbuiltOf us ts found = IsFirstIn (λ n u. IsUnbuiltIn u.0.place (nodes u.1) n) (zip us ts) found

-- where uses have a fault, by their trees: the first place in the words of that fault's condition. The others have no place
abbrev pub IsAt : Known → Definitions → List Use → List (Tree Planned) → FlattenFault → Option ConstraintAt → Type 0
IsAt k ds us ts EmptyConstraint found = (found ≡ option_map at.Definition (empty_definition ds)) × IsTrue (is_some found)
IsAt k ds us ts UnknownRule found = (found ≡ unknown_rule_at k ds) × IsTrue (is_some found)
IsAt k ds us ts Attribute found = (found ≡ bad_attribute_at ds ts) × IsTrue (is_some found)
IsAt k ds us ts UnexpectedType found = (found ≡ unexpected_at k us ts) × IsTrue (is_some found)
IsAt k ds us ts fault.BadPattern found = IsUnbuiltOf us ts found × IsTrue (is_some found)
IsAt k ds us ts _ found = found ≡ None
