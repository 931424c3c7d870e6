-- The lines of the constraints of a tree.
use Rattle.std.proofs.Common.{◌≡◌, ◌+◌, ◌∙◌, ℕ, List, Option, Some, option_map, slice_get, ap, refl, sym, subst}
use Rattle.std.proofs.lemmas.Option.{slice_get-map}
use Rattle.std.specs.Prelude.{unwrap_or}
use Rattle.fv_constraint_tree.specs.Nodes.{Node}
use Rattle.fv_constraint_tree.specs.Preorder.{preorder, nodes}
use Rattle.fv_constraint_tree.specs.Trees.{Tree, tree, root}
use Rattle.fv_datum.specs.Attributes.{Attributes}
use Rattle.fv_declare_schema.specs.Declarations.{Placed}
use Rattle.fv_declare_schema.specs.Groups.{Groups}
use Rattle.fv_explain.specs.Explained.{IsPartLine, IsShown, IsUseLine, group_names}
use Rattle.fv_explain.specs.Lines.{part_text, reported_as, use_text}

-- the first in preorder is the root
pub root_first : (t : Tree Node) (n : Node) (below : ℕ) → Some (n, below) ≡ slice_get (preorder t) 0 → n ≡ root t
root_first (tree m ts) n below is = ap (λ (o : Option (Node × ℕ)). (unwrap_or o (n, below)).0) is

-- one of the preorder is one of the nodes
pub node_there : (t : Tree Node) (k : ℕ) (n : Node) (below : ℕ) → Some (n, below) ≡ slice_get (preorder t) k → slice_get (nodes t) k ≡ Some n
node_there t k n below is =
    slice_get-map (λ (e : Node × ℕ). e.0) (preorder t) k ∙ ap (option_map (λ (e : Node × ℕ). e.0)) (sym is)

-- the line of a use from what it is made of
pub use_is : (gs : Groups) (u : Placed) (n : Node) (number : ℕ) (place constraint message : List ℕ) (attributes : Attributes)
    (names : List (List ℕ)) → n ≡ root u.tree → number ≡ u.number → constraint ≡ n.constraint → attributes ≡ n.attributes
    → names ≡ group_names gs u.groups → IsShown n.message message
    → IsUseLine gs u (use_text number place constraint attributes names message)
use_is gs u n number place constraint message attributes names is number_is constraint_is attributes_are names_are shows = (
  place,
  message,
  subst (λ (m : Node). IsShown m.message message) is shows,
  rw (number_is, constraint_is, attributes_are, names_are)
      (ap (λ (m : Node). use_text u.number place m.constraint m.attributes (group_names gs u.groups) message) is),
)

-- the line of a constraint behind a use from what it is made of
pub part_is : (u : Placed) (k : ℕ) (n : Node) (number : ℕ) (constraint name message : List ℕ) (attributes : Attributes) (other : Option ℕ)
    → slice_get (nodes u.tree) k ≡ Some n → number ≡ u.number + k → constraint ≡ n.constraint → attributes ≡ n.attributes → IsShown n.message message
    → IsPartLine u k (part_text number constraint attributes (reported_as number other name message))
part_is u k n number constraint name message attributes other is number_is constraint_is attributes_are shows =
    (n, is, (other, name, message, shows, rw (number_is, constraint_is, attributes_are) refl))
