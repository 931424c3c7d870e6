-- The trees that declared constraints are composed to.
use Rattle.std.specs.Prelude.{◌≡◌, ℕ, zero, suc, List, [], ◌∷◌, map, Option, Some}
use Rattle.std.specs.Option.{option_map_or}
use Rattle.fv_graph.specs.Graph.{IsIn}
use Rattle.fv_datum.specs.Maps.{IsMapOf}
use Rattle.fv_datum.specs.Attributes.{AttributeValue, Attributes}
use Rattle.fv_declare_definition.specs.Definitions.{Composing, Definitions}
use Rattle.fv_constraint.specs.Meanings.{Meant, meant_by, meant_composing}
use Rattle.fv_constraint.specs.Effect.{effective, handed}
use Rattle.fv_constraint_tree.specs.Trees.{Tree, tree, Trees, none, more}

-- a constraint in a tree: its name, what it stands for, the template of its message, if it has one of its own, and the attributes that it is given
pub record Planned : Type 0 where
  pub constraint : List ℕ
  pub meant : Meant
  pub own : Option (List ℕ)
  pub given : Attributes

abbrev mutual
  -- the tree of a constraint with its own message and the attributes that it is given: below it stand the trees of the constraints that it is composed of
  pub IsTreeOf : Definitions → List ℕ → Option (List ℕ) → Attributes → Tree Planned → Type 0
  IsTreeOf ds name own given (tree p below) =
      (p.constraint ≡ name) × (meant_by ds name ≡ Some p.meant) × (p.own ≡ own) × (p.given ≡ given)
      × AreTreesOf ds (meant_composing p.meant) (effective p.meant given) below

  -- the trees of composing constraints, in order, by the values in effect of the constraint that they compose: each has its own message and
  -- is given the one map of the values that it is handed
  pub AreTreesOf : Definitions → List Composing → (List ℕ → Option AttributeValue) → Trees Planned → Type 0
  AreTreesOf ds [] above none = Unit {0}
  AreTreesOf ds (c ∷ cs) above (more t ts) =
      ((given : Attributes) × IsMapOf (handed c above) given × IsTreeOf ds c.constraint c.message given t) × AreTreesOf ds cs above ts
  AreTreesOf ds _ above _ = ⊥

-- the names of the constraints that a constraint is composed of
abbrev pub composed_of : Definitions → List ℕ → List (List ℕ)
composed_of ds name = map (λ c. c.constraint) (option_map_or meant_composing (meant_by ds name) [])

-- a chain of so many constraints after the first, each composed of the next
abbrev pub ComposesIn : Definitions → ℕ → List ℕ → List ℕ → Type 0
ComposesIn ds zero a b = IsIn (composed_of ds a) b
ComposesIn ds (suc further) a b = (c : List ℕ) × IsIn (composed_of ds a) c × ComposesIn ds further c b

-- a constraint is composed of itself, directly or through others
abbrev pub ComposesItself : Definitions → Type 0
ComposesItself ds = (name : List ℕ) × (further : ℕ) × ComposesIn ds further name name
