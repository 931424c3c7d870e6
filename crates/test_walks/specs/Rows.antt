-- Requests that stand for worked examples: objects, groups and fields are numbers, by tables.
use Rattle.std.specs.Prelude.{◌↔◌, ℕ, ◌+◌, List, [], ◌∷◌, Bool, true, false, cond, nat_lt, nat_eq, codes, slice_index_or}
use Rattle.fv_datum.specs.Data.{null, reference}
use Rattle.fv_extract.specs.Places.{FieldPlace, element}
use Rattle.fv_extract.specs.Places as place
use Rattle.fv_extract.specs.Parts.{Locus, at_index}
use Rattle.fv_graph.specs.Graph.{IsIn}
use Rattle.fv_path.specs.Nodes.{PathNode, field, index, list_element}
use Rattle.fv_walk_traces.specs.Turns.{of_object, at, LocalFailure, Way}
use Rattle.fv_walk_traces.specs.Requests.{Own, Plain, InRanks, GraphRequest}
use Rattle.fv_walk_traces.specs.Violations.{Violation, IsViolation}
use Rattle.fv_walk_traces.specs.OneField.{IsViolationOfField}

-- the violation of a node at a path, where the datum is null
abbrev pub null_at : List PathNode → ℕ → Violation
null_at path node = record { path = path; node = node; value = null }

-- the violation of a node that refuses the object of a name, at a path
abbrev pub refused_at : List PathNode → ℕ → List ℕ → Violation
refused_at path node name = record { path = path; node = node; value = reference name }

-- the violations of a request are these
abbrev pub AreViolations : GraphRequest → List Violation → Type 0
AreViolations request vs = (v : Violation) → IsIn vs v ↔ IsViolation request v

-- the violations of a request for one field are these
abbrev pub AreViolationsOfField : GraphRequest → ℕ → List Violation → Type 0
AreViolationsOfField request f vs = (v : Violation) → IsIn vs v ↔ IsViolationOfField request f v

-- the place that is a field
abbrev pub whole : ℕ → FieldPlace
whole f = record { field = f; steps = [] }

-- the place of the elements of the list in a field
abbrev pub elements : ℕ → FieldPlace
elements f = record { field = f; steps = element ∷ [] }

-- a constraint's node refuses a field
abbrev pub refused : ℕ → ℕ → LocalFailure
refused f node = record { spot = at (whole f) []; node = node }

-- a constraint's node refuses an object
abbrev pub object_refused : ℕ → LocalFailure
object_refused node = record { spot = of_object; node = node }

-- a field refers to an object
abbrev pub refers : ℕ → ℕ → Way
refers f target = record { place = whole f; locus = []; target = target }

-- an element of the list in a field does
abbrev pub element_refers : ℕ → ℕ → ℕ → Way
element_refers f i target = record { place = elements f; locus = at_index i ∷ []; target = target }

-- the nodes behind a field's name
abbrev pub behind : List place.PlaceStep → Locus → List PathNode
behind (element ∷ steps) (at_index i ∷ l) = index i ∷ list_element ∷ behind steps l
behind _ _ = []

-- what stands in a row and a column of a table
abbrev pub cell : {X : Type 0} → List (List X) → ℕ → ℕ → X → X
cell table row column other = slice_index_or (slice_index_or table row []) column other

-- The tables of an example: the ranks of each group, none of a plain one; the groups that each stands for; what a group is converted to,
-- where an object is stepped on from; the names of each object's fields, its references, and what it fails in each group.
pub record Tables : Type 0 where
  pub ranks : List (List ℕ)
  pub below : List (List ℕ)
  pub converted : List ℕ
  pub fields : List (List (List ℕ))
  pub ways : List (List Way)
  pub own : List (List Own)

-- there is a first one
abbrev pub is_some : {X : Type 0} → List X → Bool
is_some [] = false
is_some (x ∷ xs) = true

-- a request from such tables, for these groups. It begins at the first object, and all data are null
abbrev pub row : Tables → List ℕ → GraphRequest
row tables asked = record {
  asked = asked;
  root = 0;
  is_sequence = λ g. is_some (slice_index_or tables.ranks g []);
  ranks = λ g. slice_index_or tables.ranks g [];
  ways = λ object. slice_index_or tables.ways object [];
  converted = λ object place g. slice_index_or tables.converted g g;
  below = λ g. slice_index_or tables.below g [];
  own = λ object g. cell tables.own object g (Plain []);
  nodes = λ object place locus. field (cell tables.fields object place.field []) ∷ behind place.steps locus;
  datum = λ object place locus. null;
  name = λ object. [];
}

-- Node: self, left, right and code. The root refers to itself and twice to another; both codes are null.
abbrev pub two_nodes : Tables
two_nodes = record {
  ranks = [];
  below = (0 ∷ []) ∷ [];
  converted = [];
  fields = node_fields ∷ node_fields ∷ [];
  ways = (refers 0 0 ∷ refers 1 1 ∷ refers 2 1 ∷ []) ∷ [] ∷ [];
  own = (Plain (refused 3 0 ∷ []) ∷ []) ∷ (Plain (refused 3 0 ∷ []) ∷ []) ∷ [];
}
  where
    node_fields : List (List ℕ)
    node_fields = codes "self" ∷ codes "left" ∷ codes "right" ∷ codes "code" ∷ []

-- Acct, with the sequence [Acct, Strict]: x, y in Strict, and sub. Groups: Default, Strict. The root fails as it is said, in Default's ranks
-- and in Strict; its sub has y alone.
abbrev pub accounts : Own → Own → Tables
accounts in_default in_strict = record {
  ranks = [];
  below = (0 ∷ []) ∷ (1 ∷ []) ∷ [];
  converted = [];
  fields = acct_fields ∷ acct_fields ∷ [];
  ways = (refers 2 1 ∷ []) ∷ [] ∷ [];
  own = (in_default ∷ in_strict ∷ []) ∷ (InRanks ((refused 0 0 ∷ []) ∷ [] ∷ []) ∷ Plain [] ∷ []) ∷ [];
}
  where
    acct_fields : List (List ℕ)
    acct_fields = codes "x" ∷ codes "y" ∷ codes "sub" ∷ []

-- the root has neither x nor y
abbrev pub unset_account : Tables
unset_account = accounts (InRanks ((refused 0 0 ∷ []) ∷ (refused 1 1 ∷ []) ∷ [])) (Plain (refused 1 1 ∷ []))

-- the root has no y
abbrev pub half_account : Tables
half_account = accounts (InRanks ([] ∷ (refused 1 1 ∷ []) ∷ [])) (Plain (refused 1 1 ∷ []))

-- Parent: kids, converting Default to Steps, the sequence [A, B]. Child: a in A, b in B. Groups: Default, A, B, Steps. The first child's a
-- and b are null, and the second's b.
abbrev pub family : Tables
family = record {
  ranks = [] ∷ [] ∷ [] ∷ (1 ∷ 2 ∷ []) ∷ [];
  below = (0 ∷ []) ∷ (1 ∷ []) ∷ (2 ∷ []) ∷ [];
  converted = 3 ∷ [];
  fields = (codes "kids" ∷ []) ∷ child_fields ∷ child_fields ∷ [];
  ways = (element_refers 0 0 1 ∷ element_refers 0 1 2 ∷ []) ∷ [] ∷ [] ∷ [];
  own =
      []
      ∷ (Plain [] ∷ Plain (refused 0 0 ∷ []) ∷ Plain (refused 1 1 ∷ []) ∷ [])
      ∷ (Plain [] ∷ Plain [] ∷ Plain (refused 1 1 ∷ []) ∷ [])
      ∷ [];
}
  where
    child_fields : List (List ℕ)
    child_fields = codes "a" ∷ codes "b" ∷ []

-- Full inherits Default. The root's c, converting Default to Other and Other to Full, refers to a Kid: d, and o in Other, both null.
-- Groups: Default, Full, Other.
abbrev pub kid : Tables
kid = record {
  ranks = [];
  below = (0 ∷ []) ∷ (1 ∷ 0 ∷ []) ∷ (2 ∷ []) ∷ [];
  converted = 2 ∷ 1 ∷ 1 ∷ [];
  fields = (codes "c" ∷ []) ∷ (codes "d" ∷ codes "o" ∷ []) ∷ [];
  ways = (refers 0 1 ∷ []) ∷ [] ∷ [];
  own = [] ∷ (Plain (refused 0 0 ∷ []) ∷ Plain [] ∷ Plain (refused 1 1 ∷ []) ∷ []) ∷ [];
}

-- Link: next, converting Default, A and B to S, the sequence [A, B]. Groups: Default, A, B, S. A chain of n objects.
abbrev pub chain : ℕ → GraphRequest
chain n = record {
  asked = 0 ∷ [];
  root = 0;
  is_sequence = λ g. nat_eq g 3;
  ranks = λ g. 1 ∷ 2 ∷ [];
  ways = λ object. cond (nat_lt (object + 1) n) (refers 0 (object + 1) ∷ []) [];
  converted = λ object place g. 3;
  below = λ g. g ∷ [];
  own = λ object g. Plain [];
  nodes = λ object place locus. field (codes "next") ∷ [];
  datum = λ object place locus. null;
  name = λ object. [];
}

-- Trip: legs. The second Leg, which is named b2, is refused as an object. The request begins at an object: 0 is the trip, 2 the
-- second leg.
abbrev pub trip : ℕ → GraphRequest
trip root = record {
  asked = 0 ∷ [];
  root = root;
  is_sequence = λ g. false;
  ranks = λ g. [];
  ways = λ object. slice_index_or ((element_refers 0 0 1 ∷ element_refers 0 1 2 ∷ []) ∷ []) object [];
  converted = λ object place g. g;
  below = λ g. g ∷ [];
  own = λ object g. cond (nat_eq object 2) (Plain (object_refused 0 ∷ [])) (Plain []);
  nodes = λ object place locus. field (codes "legs") ∷ behind place.steps locus;
  datum = λ object place locus. null;
  name = λ object. cond (nat_eq object 2) (codes "b2") [];
}
