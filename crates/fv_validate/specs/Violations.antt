-- The violations of a bundle's declared constraints, as they are reported.
use Rattle.std.specs.Prelude.{◌≡◌, ◌⊎◌, ◌<◌, ℕ, ℤ, List, [], ◌∷◌, Option, Some, None, slice_get, true}
use Rattle.std.specs.List.{AllByRecursion, flat_map}
use Rattle.std.specs.Option.{option_map_or}
use Rattle.std.specs.Ordering.{nat_cmp, is_lt}
use Rattle.std.specs.Cmp.Lexicographic.{slice_cmp}
use Rattle.fv_datum.specs.Data.{Data}
use Rattle.fv_declare_schema.specs.Declarations.{Placed, Declarations}
use Rattle.fv_graph.specs.Graph.{IsIn}
use Rattle.fv_message.specs.Full.{IsTextOf}
use Rattle.fv_message.specs.Table.{Messages}
use Rattle.fv_bundle.specs.Bundles.{Thing, Bundled}
use Rattle.fv_constraint_tree.specs.Nodes.{Node}
use Rattle.fv_constraint_tree.specs.Preorder.{nodes}
use Rattle.fv_path.specs.Texts.{path_text_of}
use Rattle.fv_walk.specs.Properties.{IsViolationIn}
use Rattle.fv_registry.specs.Meanings.{Meanings}
use Rattle.fv_walk_traces.specs.Violations.{Violation, IsViolation}
use Rattle.fv_local.specs.Requests.{request_of}

-- a reported constraint: the path of the value, the constraint's name, its number over the whole declarations, the message and the value
pub record Reported : Type 0 where
  pub path : List ℕ
  pub constraint : List ℕ
  pub occurrence : ℕ
  pub message : List ℕ
  pub value : Data

-- a record by its id, with its violations
abbrev pub Judged : Type 0
Judged = List ℕ × List Reported

-- the constraints in the trees of uses, in the order of their numbers
abbrev pub nodes_in : List Placed → List Node
nodes_in us = flat_map (λ u. nodes u.tree) us

-- what a constraint's message becomes, by the messages and the constraint's attributes ("Message interpolation"); nothing without a constraint
abbrev pub IsMessageOf : Messages → Option Node → List ℕ → Type 0
IsMessageOf ms None message = message ≡ []
IsMessageOf ms (Some n) message = IsTextOf ms n.attributes n.message message

-- a violation is reported so: with the text of its path, and the name and the message of the constraint of its number ("ConstraintViolation")
pub record IsReport (us : List Placed) (ms : Messages) (v : Violation) (r : Reported) : Type 0 where
  pub path : r.path ≡ path_text_of v.path
  pub constraint : r.constraint ≡ option_map_or (λ n. n.constraint) (slice_get (nodes_in us) v.node) []
  pub occurrence : r.occurrence ≡ v.node
  pub message : IsMessageOf ms (slice_get (nodes_in us) v.node) r.message
  pub value : r.value ≡ v.value

-- it reports one of some violations
abbrev pub IsReportOf : List Placed → Messages → (Violation → Type 0) → Reported → Type 0
IsReportOf us ms IsOne r = (v : Violation) × IsOne v × IsReport us ms v r

-- by the bytes of the path, then by the number of the constraint
abbrev pub Precedes : Reported → Reported → Type 0
Precedes v w = (is_lt (slice_cmp nat_cmp v.path w.path) ≡ true) ⊎ ((v.path ≡ w.path) × (v.occurrence < w.occurrence))

-- each violation precedes those after it, by the bytes of the path, then by the number of the constraint
abbrev pub AreInOrder : List Reported → Type 0
AreInOrder [] = Unit {0}
AreInOrder (v ∷ vs) =
    AllByRecursion (λ w. (is_lt (slice_cmp nat_cmp v.path w.path) ≡ true) ⊎ ((v.path ≡ w.path) × (v.occurrence < w.occurrence))) vs × AreInOrder vs

-- all of some violations, each once, in order
pub record AreListed (us : List Placed) (ms : Messages) (IsOne : Violation → Type 0) (vs : List Reported) : Type 0 where
  pub sound : AllByRecursion (λ r. (v : Violation) × IsOne v × IsReport us ms v r) vs
  pub complete : (v : Violation) → IsOne v → (r : Reported) × IsIn vs r × IsReport us ms v r
  pub ascending : AreInOrder vs

-- the violations of the request that judges a bundle for these groups at a moment
abbrev pub IsListing : Meanings → Declarations → ℤ → Bundled → List ℕ → List Reported → Type 0
IsListing m ds now b asked vs = AreListed ds.occurrences ds.messages (IsViolation (request_of m ds now b asked)) vs

-- those in the field of that name of an object
abbrev pub IsListingOfField : Meanings → Declarations → ℤ → Thing → List ℕ → List ℕ → List Reported → Type 0
IsListingOfField m ds now object name asked vs = AreListed ds.occurrences ds.messages (IsViolationIn m ds now object name asked) vs
