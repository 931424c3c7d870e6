-- What texts begin with, for the clauses of the functions that read a path's nodes.
use Rattle.std.specs.Prelude.{◌≡◌, ℕ, List, [], ◌∷◌, ◌++◌, Bool, true, not, Option, MatchOption}
use Rattle.std.specs.Borrow.{Bor}
use Rattle.fv_datum.specs.Name.{continues_name}
use Rattle.fv_path.specs.Nodes.{PathNode, field, is_node}
use Rattle.fv_path.specs.Texts.{node_text}
use Rattle.fv_path.specs.Views.{node_view}
use Rattle.fv_path.specs.declared.node.Node.{Node}

-- a name doesn't go on with this text
abbrev pub stops : List ℕ → Bool
stops [] = true
stops (b ∷ _) = not (continues_name b)

-- the node ends where this text begins: all but a field do by themselves
abbrev pub closes : PathNode → List ℕ → Bool
closes (field _) rest = stops rest
closes _ rest = true

-- the text begins with the node, and the rest stands behind it
pub record Begins (text : List ℕ) (n : PathNode) (rest : List ℕ) : Type 0 where
  pub node : is_node n ≡ true
  pub split : text ≡ node_text n ++ rest
  pub closed : closes n rest ≡ true

-- the text begins with no node of a kind
abbrev pub BeginsWithNone : (PathNode → Bool) → List ℕ → Type 0
BeginsWithNone kind text = (n : PathNode) (rest : List ℕ) → kind n ≡ true → Begins text n rest → ⊥

-- the node is of the kind, and the text begins with it
abbrev pub BeginsWith : (PathNode → Bool) → List ℕ → Node × Bor (List ℕ) → Type 0
BeginsWith kind text p = (kind (node_view p.0) ≡ true) × Begins text (node_view p.0) p.1.now

-- the node of the kind that the text begins with and what stands behind it, where there is one
abbrev pub FindsNode : (PathNode → Bool) → List ℕ → Option (Node × Bor (List ℕ)) → Type 0
FindsNode kind text o = MatchOption o (BeginsWithNone kind text) (BeginsWith kind text)
