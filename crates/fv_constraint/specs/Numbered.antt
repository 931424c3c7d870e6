-- Definitions as a graph: the nodes are the definitions in order, and one more that stands for all other constraints.
use Rattle.std.specs.Prelude.{◌≡◌, ℕ, suc, List, [], ◌∷◌, ◌++◌, map, length, cond, false, min, slice_index, Option, Some, None}
use Rattle.std.specs.BTreeMap.{insert_entry}
use Rattle.std.specs.Borrow.{Bor}
use Rattle.std.specs.Cmp.Lexicographic.{slice_cmp}
use Rattle.std.specs.Map.{keys_of}
use Rattle.std.specs.Option.{unwrap_or}
use Rattle.std.specs.Ordering.{nat_cmp}
use Rattle.std.specs.Str.{bytes_eq}
use Rattle.fv_datum.specs.Attributes.{AttributeValue, Attributes}
use Rattle.fv_builtin.specs.Names.{is_builtin}
use Rattle.fv_constraint.specs.Composed.{Planned, IsTreeOf, ComposesItself}
use Rattle.fv_declare_definition.specs.Definitions.{Composing, Definitions}
use Rattle.fv_constraint.specs.Meanings.{meant_by, composes_unknown}
use Rattle.fv_constraint.specs.Effect.{effective, handed}
use Rattle.fv_constraint_tree.specs.Trees.{Tree, size}

-- how many definitions stand before the one of that name
abbrev pub place_of : List ℕ → Definitions → ℕ
place_of name [] = 0
place_of name (d ∷ ds) = cond (bytes_eq name d.0) 0 (suc (place_of name ds))

-- the node of a constraint
abbrev pub number_of : Definitions → List ℕ → ℕ
number_of ds name = cond (is_builtin name) (length ds) (place_of name ds)

-- the names of definitions, each with its place, counted from a number on
abbrev pub placed : ℕ → Definitions → List (List ℕ × ℕ)
placed first [] = []
placed first (d ∷ ds) = (d.0, first) ∷ placed (suc first) ds

-- a name with its place, as the code keeps it
abbrev pub place_entry : Bor (List ℕ) × ℕ → List ℕ × ℕ
place_entry e = (e.0.now, e.1)

-- the nodes of composing constraints
abbrev pub numbers_of : Definitions → List Composing → List ℕ
numbers_of ds cs = map (λ c. number_of ds c.constraint) cs

-- the nodes that each node's edges lead to
abbrev pub edges_of : Definitions → List (List ℕ)
edges_of ds = map (λ d. numbers_of ds d.1.composing) ds ++ [] ∷ []

-- a table has the size of each constraint's tree, or the limit where it is larger
abbrev pub AreSizes : Definitions → ℕ → List ℕ → Type 0
AreSizes ds limit sizes =
    (name : List ℕ) (own : Option (List ℕ)) (given : Attributes) (t : Tree Planned) → IsTreeOf ds name own given t
    → slice_index sizes (number_of ds name) ≡ min limit (size t)

-- the definitions are a graph without cycles: the nodes that each node's edges lead to, and the sizes up to the limit
pub record IsNumbered (ds : Definitions) (edges : List (List ℕ)) (sizes : List ℕ) : Type 0 where
  pub known : composes_unknown ds ≡ false
  pub acyclic : ComposesItself ds → ⊥
  pub edges_are : edges ≡ edges_of ds
  pub each : length sizes ≡ length edges
  pub sized : AreSizes ds 1025 sizes

-- attributes with a value put in at a name, where there is one
abbrev pub with_value : List ℕ → Option AttributeValue → Attributes → Attributes
with_value name None attributes = attributes
with_value name (Some v) attributes = insert_entry (slice_cmp nat_cmp) attributes name v

-- the map of the values that there are at these names
abbrev pub tabulated : (List ℕ → Option AttributeValue) → List (List ℕ) → Attributes
tabulated value [] = []
tabulated value (n ∷ ns) = with_value n (value n) (tabulated value ns)

-- the map of the values that a composing constraint is handed: it has them at the names that are given or overridden
abbrev pub handed_map : Composing → (List ℕ → Option AttributeValue) → Attributes
handed_map c above = tabulated (handed c above) (keys_of c.given ++ keys_of c.overrides)

-- what stands below a constraint at a composing constraint
abbrev pub composing_at : Definitions → Planned → Option Composing → Planned
composing_at ds p None = record { constraint = p.constraint; meant = p.meant; own = None; given = [] }
composing_at ds p (Some c) = record {
  constraint = c.constraint;
  meant = unwrap_or (meant_by ds c.constraint) p.meant;
  own = c.message;
  given = handed_map c (effective p.meant p.given);
}
