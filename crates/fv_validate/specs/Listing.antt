-- What is listed on the way to a listing, for private clauses.
use Rattle.std.specs.Prelude.{◌≡◌, ℕ, List, [], slice_get}
use Rattle.std.specs.Option.{option_map_or}
use Rattle.std.specs.Ordering.{nat_cmp, ordering_then}
use Rattle.std.specs.Cmp.Lexicographic.{slice_cmp}
use Rattle.std.specs.declared.cmp.Ordering.{Ordering}
use Rattle.fv_graph.specs.Graph.{IsIn}
use Rattle.fv_declare_schema.specs.Declarations.{Placed}
use Rattle.fv_message.specs.Evaluated.{full_text}
use Rattle.fv_message.specs.Table.{Messages}
use Rattle.fv_path.specs.Texts.{path_text_of}
use Rattle.fv_walk_traces.specs.Violations.{Violation}
use Rattle.fv_validate.specs.Violations.{Reported, nodes_in, IsReport}

-- the report of a violation, with the message that a function makes
abbrev pub made_by : List Placed → Messages → Violation → Reported
made_by us ms v =
    let node = slice_get (nodes_in us) v.node in
    record {
      path = path_text_of v.path;
      constraint = option_map_or (λ n. n.constraint) node [];
      occurrence = v.node;
      message = option_map_or (λ n. full_text ms n.attributes n.message) node [];
      value = v.value;
    }

-- the function makes a violation's report
abbrev pub IsMade : List Placed → Messages → Violation → Type 0
IsMade us ms v = IsReport us ms v (made_by us ms v)

-- what tells a report from the others: its path and its number
abbrev pub key_of : Reported → List ℕ × ℕ
key_of v = (v.path, v.occurrence)

-- two with one path and one number are the same
abbrev pub AreToldApart : List Reported → Type 0
AreToldApart vs = (v w : Reported) → IsIn vs v → IsIn vs w → key_of v ≡ key_of w → v ≡ w

-- by the bytes of the path, then by the number of the constraint
abbrev pub order : Reported → Reported → Ordering
order v w = ordering_then (slice_cmp nat_cmp v.path w.path) (nat_cmp v.occurrence w.occurrence)
