-- What declarations declare.
use Rattle.std.specs.Prelude.{◌≡◌, ℕ, ◌+◌, List, [], ◌∷◌, Option}
use Rattle.fv_bundle.specs.Types.{Declared}
use Rattle.fv_declare_schema.specs.ValidPlaces.{ValidPlace}
use Rattle.fv_declare_schema.specs.Groups.{Groups}
use Rattle.fv_message.specs.Table.{Messages}
use Rattle.fv_constraint_tree.specs.Nodes.{Node}
use Rattle.fv_constraint_tree.specs.Trees.{Tree, size}
use Rattle.fv_declare_schema.specs.Places.{Place}

-- a use of a constraint where it stands: the number of its type, its place there, the numbers of its groups, its tree, and the number of
-- the tree's root over the whole declarations, from which the numbers of the nodes run on in preorder
pub record Placed : Type 0 where
  pub type : ℕ
  pub place : Place
  pub number : ℕ
  pub groups : List ℕ
  pub tree : Tree Node

-- the types, the uses of constraints where they stand, the forms by their names, each with its root's type, the groups in the order of
-- their numbers, the numbers of each form's groups, for each type the ranks of the sequence that redefines `Default` for it, if there is
-- one, the places whose objects are validated, and all messages by their keys
pub record Declarations : Type 0 where
  pub types : Declared
  pub occurrences : List Placed
  pub forms : List (List ℕ × List ℕ)
  pub groups : Groups
  pub form_groups : List (List ℕ × List ℕ)
  pub sequences : List (Option (List ℕ))
  pub valid_places : List ValidPlace
  pub messages : Messages

-- how many nodes trees have
abbrev pub count_nodes : {N : Type 0} → List (Tree N) → ℕ
count_nodes [] = 0
count_nodes (t ∷ ts) = size t + count_nodes ts

-- the first has this number, and each other the number behind the last node of the one before it
abbrev pub AreNumbered : ℕ → List Placed → Type 0
AreNumbered n [] = Unit {0}
AreNumbered n (o ∷ os) = (o.number ≡ n) × AreNumbered (n + size o.tree) os
