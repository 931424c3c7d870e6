-- What can be wrong with the names, the limits and the patterns of declarations.
use Rattle.std.specs.Prelude.{◌||◌, List, length, map, zip, Bool, not, nat_lt, is_some}
use Rattle.std.specs.List.{list_any, AllZip}
use Rattle.fv_datum.specs.Lookup.{at_name}
use Rattle.fv_bundle.specs.Types.{Declared, has_unknown_type, too_many}
use Rattle.fv_constraint.specs.Composed.{Planned}
use Rattle.fv_flatten.specs.Flattening as flat
use Rattle.fv_constraint.specs.Meanings.{composes_unknown, meant_by}
use Rattle.fv_flatten.specs.Read.{IsReadTree}
use Rattle.fv_constraint_tree.specs.Nodes.{Node}
use Rattle.fv_constraint_tree.specs.Trees.{Tree}
use Rattle.fv_declare_draft.specs.AllUses.{uses_in}
use Rattle.fv_declare_draft.specs.Drafts.{FormDraft, Drafted}
use Rattle.fv_declare_groups.specs.Grouping.{groups_in, is_long_sequence}
use Rattle.fv_declare_schema.specs.Declarations.{count_nodes}
use Rattle.fv_declare_schema.specs.Judged.{are_too_large}
use Rattle.fv_declare_judging.specs.Types.{types_declared}
use Rattle.fv_declare_judging.specs.Used.{used}

-- a use of a constraint that is neither built in nor declared
abbrev pub unknown_constraint : Drafted → Bool
unknown_constraint d = list_any (λ u. not (is_some (meant_by d.definitions u.draft.constraint))) (uses_in d.types)

-- a form's root is none of the types
abbrev pub unknown_root : Declared → List FormDraft → Bool
unknown_root ts = list_any (λ f. not (is_some (at_name f.root ts)))

-- a constraint that is neither built in nor declared, used or composed of, or a type that isn't declared
unfoldable pub unknown_name : Drafted → Bool
unknown_name d = unknown_constraint d || composes_unknown d.definitions || has_unknown_type (types_declared d) || unknown_root (types_declared d) d.forms

-- what is used, in order, each of what it judges
abbrev pub used_in : Drafted → List flat.Use
used_in d = map used (uses_in d.types)

-- more than 256 forms, declared constraints or groups (with `Default`), more than 32 that a group inherits directly, or more than 32 members of a sequence
abbrev pub has_many : Drafted → Bool
has_many d =
    nat_lt 256 (length d.forms) || nat_lt 256 (length d.definitions) || are_too_large (groups_in d) || list_any is_long_sequence d.types

-- the same, or more than 256 types or fields of a type, more than four containers one in another, or more than 1,024 nodes of all trees
unfoldable pub too_large : Drafted → List (Tree Planned) → Bool
too_large d ts = too_many (types_declared d) || has_many d || nat_lt 1024 (count_nodes ts)

-- each constraint of the trees is read where it is used, its pattern built
abbrev pub AreBuilt : Drafted → List (Tree Planned) → Type 0
AreBuilt d ts = (os : List (Tree Node)) × AllZip (λ u o. IsReadTree u.0.place u.1 o) (zip (used_in d) ts) os
