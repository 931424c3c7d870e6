-- Which limit declarations pass.
use Rattle.std.specs.Prelude.{ℕ, suc, ◌+◌, List, [], ◌∷◌, length, nat_lt, if◌then◌else◌, Option, Some, None, option_map, Result, Ok, Err}
use Rattle.fv_constraint.specs.Composed.{Planned}
use Rattle.fv_constraint_tree.specs.Trees.{Tree, size}
use Rattle.fv_declare_draft.specs.Drafts.{Drafted}
use Rattle.fv_declare_groups.specs.Grouping.{groups_in, is_long_sequence}
use Rattle.fv_first.specs.First.{first_where, first_of}
use Rattle.fv_declare_schema.specs.Whereabouts.{passed_limit}
use Rattle.fv_bundle.specs.Types.{Declared, too_many}
use Rattle.fv_bundle.specs.Whereabouts.{large_at}
use Rattle.fv_bundle.specs.declared.fault.TypesAt.{TypesAt}
use Rattle.fv_declare_judging.specs.declared.placed.LimitAt.{LimitAt}
use Rattle.fv_declare_judging.specs.declared.placed.LimitAt.TheVariants as at
use Rattle.fv_declare_judging.specs.declared.placed.WordingAt.{WordingAt}

-- which limit of types is passed, if one is
abbrev pub types_limit : Declared → Option TypesAt
types_limit ts = if too_many ts then large_at ts else None

-- too many forms, declared constraints or groups, else a group with too many names, else a type whose sequence has too many members
abbrev pub declared_limit : Drafted → Option LimitAt
declared_limit d = first_of (
    (if nat_lt 256 (length d.forms) then Some at.Forms else None)
    ∷ (if nat_lt 256 (length d.definitions) then Some at.Definitions else None)
    ∷ option_map at.Groups (passed_limit (groups_in d))
    ∷ option_map at.Sequence (first_where is_long_sequence d.types)
    ∷ [])

-- the number of the first tree with which there are more than 1,024 nodes, where there are some before the first one
abbrev pub crowded_from : ℕ → ℕ → List (Tree Planned) → Option ℕ
crowded_from count n [] = None
crowded_from count n (t ∷ ts) = if nat_lt 1024 (count + size t) then Some n else crowded_from (count + size t) (suc n) ts

-- the first limit that is passed: of types, of what else is declared, of the wording, of nodes
abbrev pub first_limit : Option TypesAt → Drafted → Option WordingAt → List (Tree Planned) → Option LimitAt
first_limit types d wording ts =
    first_of (option_map at.Types types ∷ declared_limit d ∷ option_map at.Wording wording ∷ option_map at.Use (crowded_from 0 0 ts) ∷ [])

-- the limit of types that is told, if one is
abbrev pub types_told : {T : Type 0} → Result T TypesAt → Option TypesAt
types_told (Ok types) = None
types_told (Err at) = Some at
