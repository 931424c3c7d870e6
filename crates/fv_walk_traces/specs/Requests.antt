-- A request, as far as its traces and violations are decided by it.
use Rattle.std.specs.Prelude.{ℕ, List, Bool}
use Rattle.fv_datum.specs.Data.{Data}
use Rattle.fv_extract.specs.Places.{FieldPlace}
use Rattle.fv_extract.specs.Parts.{Locus}
use Rattle.fv_path.specs.Nodes.{PathNode}
use Rattle.fv_walk_traces.specs.Turns.{LocalFailure, Way}

-- what fails of an object's constraints in a group: all of it, or where the group is `Default` and the type has a sequence, what fails
-- in each of its ranks
pub data Own : Type 0 where
  Plain : List LocalFailure → Own
  InRanks : List (List LocalFailure) → Own

-- Objects, groups and a failure's node are numbers; the nodes of a path are not.
pub record GraphRequest : Type 0 where
  -- the groups that are asked for, and the object that it begins at
  pub asked : List ℕ
  pub root : ℕ
  -- whether a group is a sequence, and its ranks, which are plain groups
  pub is_sequence : ℕ → Bool
  pub ranks : ℕ → List ℕ
  -- the references that an object holds at the places of its type that are valid
  pub ways : ℕ → List Way
  -- the group that is carried on from a place of an object, by the group that is carried to the object
  pub converted : ℕ → FieldPlace → ℕ → ℕ
  -- the groups that a plain group stands for: itself and those that it inherits
  pub below : ℕ → List ℕ
  -- what fails of an object's constraints in a group
  pub own : ℕ → ℕ → Own
  -- the nodes of the path from an object to a part of it, the datum there, and the object's name
  pub nodes : ℕ → FieldPlace → Locus → List PathNode
  pub datum : ℕ → FieldPlace → Locus → Data
  pub name : ℕ → List ℕ
