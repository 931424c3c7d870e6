-- What the uses of constraints are flattened to, or the first fault.
use Rattle.std.specs.Prelude.{◌≡◌, ◌⊎◌, ℕ, ◌||◌, List, [], ◌∷◌, Bool, not, nat_lt, Option, Some, None, is_some, Result, Ok, Err}
use Rattle.std.specs.List.{list_any, zip, AllZip}
use Rattle.fv_builtin.specs.declared.fault.BuiltinFault.TheVariants as builtin
use Rattle.fv_constraint.specs.Composed.{Planned, IsTreeOf, ComposesItself}
use Rattle.fv_declare_definition.specs.Definitions.{Definitions}
use Rattle.fv_constraint.specs.Meanings.{meant_by}
use Rattle.fv_datum.specs.Attributes.{Attributes}
use Rattle.fv_datum.specs.Outcomes.{first}
use Rattle.fv_flatten.specs.Read.{IsReadTree, IsReadAs, refuses_its_given, refuses_at}
use Rattle.fv_constraint_tree.specs.Targets.{Target}
use Rattle.fv_constraint.specs.Refusals.{is_empty_in, unknown_rule, bad_definition}
use Rattle.fv_flatten.specs.declared.fault.FlattenFault.{FlattenFault}
use Rattle.fv_flatten.specs.declared.fault.FlattenFault.TheVariants.{CyclicComposition, EmptyConstraint, TooLarge, UnknownRule, Attribute, UnexpectedType, BadPattern}
use Rattle.fv_graph.specs.Graph.{IsIn}
use Rattle.fv_constraint_tree.specs.Nodes.{Node}
use Rattle.fv_constraint_tree.specs.Preorder.{nodes}
use Rattle.fv_constraint_tree.specs.Trees.{Tree, size}
use Rattle.fv_registry.specs.Rules.{Known}

-- a use of a constraint: its name, the template of its message, if it has one of its own, the attributes that are given, and where it stands
pub record Use : Type 0 where
  pub constraint : List ℕ
  pub message : Option (List ℕ)
  pub given : Attributes
  pub place : Target

-- the trees of uses, in their order
abbrev pub AreTreesOfUses : Definitions → List Use → List (Tree Planned) → Type 0
AreTreesOfUses ds us ts = AllZip (λ u t. IsTreeOf ds u.constraint u.message u.given t) us ts

-- a use's constraint is neither built in nor declared
abbrev pub uses_unknown : Definitions → List Use → Bool
uses_unknown ds us = list_any (λ u. not (is_some (meant_by ds u.constraint))) us

-- ---- what can be wrong

-- a bad definition, or a constraint in one of the trees that refuses the attributes that it gets
abbrev pub bad_attribute : Definitions → List (Tree Planned) → Bool
bad_attribute ds ts = bad_definition ds || list_any (λ t. list_any refuses_its_given (nodes t)) ts

-- the own test of a constraint in a use's tree isn't on what stands at the use's place
abbrev pub unexpected_type : Known → List Use → List (Tree Planned) → Bool
unexpected_type k us ts = list_any (λ u. list_any (refuses_at k u.0.place) (nodes u.1)) (zip us ts)

-- what can be wrong where trees are made, in the order in which it is answered, but for patterns
abbrev pub tree_conditions : Known → Definitions → List Use → List (Tree Planned) → List (Bool × FlattenFault)
tree_conditions k ds us ts =
    (unknown_rule k ds, UnknownRule)
    ∷ (bad_attribute ds ts, Attribute)
    ∷ (unexpected_type k us ts, UnexpectedType)
    ∷ []

-- a pattern that isn't built, in the tree of a use. Which of those of the right syntax are built is the regex crate's to answer
pub record HasBadPattern (us : List Use) (ts : List (Tree Planned)) : Type 0 where
  pub used : Use
  pub composed : Tree Planned
  pub planned : Planned
  pub among : IsIn (zip us ts) (used, composed)
  pub within : IsIn (nodes composed) planned
  pub refused : IsReadAs used.place planned (Err builtin.BadPattern)

-- ---- the answer

-- the answer where nothing is wrong but perhaps a pattern: each tree read at its use's place
abbrev pub AreRead : List Use → List (Tree Planned) → Result (List (Tree Node)) FlattenFault → Type 0
AreRead us ts (Ok os) = AllZip (λ u o. IsReadTree u.0.place u.1 o) (zip us ts) os
AreRead us ts (Err BadPattern) = HasBadPattern us ts
AreRead us ts (Err _) = ⊥

-- the answer by the first fault, if there is one
abbrev pub IsDecided : Option FlattenFault → List Use → List (Tree Planned) → Result (List (Tree Node)) FlattenFault → Type 0
IsDecided (Some fault) us ts answer = answer ≡ Err fault
IsDecided None us ts answer = AreRead us ts answer

-- what uses are flattened to, where no constraint is composed of itself: by their trees
abbrev pub FlattensAll : Known → Definitions → List Use → Result (List (Tree Node)) FlattenFault → Type 0
FlattensAll k ds us answer =
    (ts : List (Tree Planned)) × AreTreesOfUses ds us ts × IsDecided (first (tree_conditions k ds us ts)) us ts answer

-- ---- one use by itself

-- what can be wrong with one use, in the order in which it is answered, but for patterns; t is its tree
abbrev pub conditions : Known → Definitions → Use → Tree Planned → List (Bool × FlattenFault)
conditions k ds u t = (is_empty_in ds, EmptyConstraint) ∷ (nat_lt 1024 (size t), TooLarge) ∷ tree_conditions k ds (u ∷ []) (t ∷ [])

-- the answer to one use as that to a list of one
abbrev pub alone : Result (Tree Node) FlattenFault → Result (List (Tree Node)) FlattenFault
alone (Ok o) = Ok (o ∷ [])
alone (Err fault) = Err fault

-- what a use is flattened to: a constraint that is composed of itself comes first, the rest is by the use's tree
abbrev pub Flattens : Known → Definitions → Use → Result (Tree Node) FlattenFault → Type 0
Flattens k ds u answer =
    (ComposesItself ds × (answer ≡ Err CyclicComposition))
    ⊎ ((ComposesItself ds → ⊥)
    × ((t : Tree Planned) × IsTreeOf ds u.constraint u.message u.given t × IsDecided (first (conditions k ds u t)) (u ∷ []) (t ∷ []) (alone answer)))
