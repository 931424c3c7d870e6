-- Where the groups of declarations have a fault.
use Rattle.std.specs.Prelude.{◌≡◌, ℕ, ◌&&◌, List, [], ◌∷◌, IsTrue, length, nat_eq, not, if◌then◌else◌, Option, Some, None, option_map, is_some, MatchOption}
use Rattle.std.specs.Option.{option_or}
use Rattle.fv_declare_draft.specs.AllCascades.{Cascade, cascades_in}
use Rattle.fv_declare_draft.specs.AllUses.{DraftUse, uses_in}
use Rattle.fv_declare_draft.specs.Drafts.{TypeDraft, FormDraft, Drafted}
use Rattle.fv_declare_schema.specs.Groups.{Groups}
use Rattle.fv_declare_schema.specs.Judged.{sequence_in}
use Rattle.fv_first.specs.First.{first_in, first_where, first_of, IsFirstIn}
use Rattle.fv_declare_schema.specs.Whereabouts.{first_unknown, first_sequence, unknown_name, inherited_sequence}
use Rattle.fv_declare_schema.specs.declared.fault.NameAt.{NameAt}
use Rattle.fv_declare_groups.specs.Grouping.{groups_in, sequence_members, member_unknown, conversion_unknown, lacks_type, MemberMeets, is_reference}
use Rattle.fv_declare_groups.specs.declared.at.CascadeAt.{CascadeAt}
use Rattle.fv_declare_groups.specs.declared.at.CascadeAt.TheVariants.{Valid, Convert, Conversion}
use Rattle.fv_declare_groups.specs.declared.at.GroupingAt.{GroupingAt}
use Rattle.fv_declare_groups.specs.declared.at.GroupingAt.TheVariants as at
use Rattle.fv_declare_groups.specs.declared.fault.GroupingFault.{GroupingFault}
use Rattle.fv_declare_groups.specs.declared.fault.GroupingFault.TheVariants.{UnknownGroup, SequenceMisused, SequenceLacksType, DefaultInTypeSequence, ConversionMisplaced}

-- a name that a group is declared with
abbrev pub group_at : NameAt → GroupingAt
group_at name = at.Group name.group name.name

-- ---- a group that isn't declared

-- the first use that names one
abbrev pub unknown_use : Groups → List DraftUse → Option GroupingAt
unknown_use gs us = first_in (λ n u. option_map (at.Use n) (first_unknown gs u.draft.groups)) us

-- the first type whose sequence has one as a member
abbrev pub unknown_member : Groups → List TypeDraft → Option GroupingAt
unknown_member gs ts = first_in (λ n t. option_map (at.Member n) (first_where (member_unknown gs t.name) (sequence_members t))) ts

-- the first cascade with a conversion of or to one
abbrev pub unknown_conversion : Groups → List Cascade → Option GroupingAt
unknown_conversion gs cs = first_in (λ n c. option_map (λ k. at.Cascade n (Conversion k)) (first_where (conversion_unknown gs) c.placed.cascade.conversions)) cs

-- the first form that names one
abbrev pub unknown_form : Groups → List FormDraft → Option GroupingAt
unknown_form gs fs = first_in (λ n f. option_map (at.Form n) (first_unknown gs f.groups)) fs

-- the first of these, in this order
abbrev pub unknown_in : Groups → List DraftUse → List TypeDraft → List Cascade → List FormDraft → Option GroupingAt
unknown_in gs us ts cs fs = first_of (unknown_use gs us ∷ unknown_member gs ts ∷ unknown_conversion gs cs ∷ unknown_form gs fs ∷ [])

-- the first of these, else the first group that names one
abbrev pub unknown_at : Groups → List DraftUse → List TypeDraft → List Cascade → List FormDraft → Option GroupingAt
unknown_at gs us ts cs fs = option_or (unknown_in gs us ts cs fs) (option_map group_at (unknown_name gs))

-- ---- sequences

-- the first use in a sequence
abbrev pub misused_in : Groups → List DraftUse → Option GroupingAt
misused_in gs us = first_in (λ n u. option_map (at.Use n) (first_sequence gs u.draft.groups)) us

-- the first group that inherits a sequence, else the first use in one
abbrev pub misused_at : Groups → List DraftUse → Option GroupingAt
misused_at gs us = option_or (option_map group_at (inherited_sequence gs)) (misused_in gs us)

-- the first type whose sequence lacks it
abbrev pub lacking_in : List TypeDraft → Option GroupingAt
lacking_in ts = first_in (λ n t. if lacks_type t then Some (at.Sequence n) else None) ts

-- whether a member meets `Default`, told by its number
abbrev pub IsMetAt : Groups → List ℕ → ℕ → List ℕ → Option ℕ → Type 0
IsMetAt gs type n name found = MatchOption found (MemberMeets gs type name → ⊥) (λ k. (k ≡ n) × MemberMeets gs type name)

-- the first member of a type's sequence that meets `Default`
abbrev pub IsMetIn : Groups → ℕ → TypeDraft → Option GroupingAt → Type 0
IsMetIn gs n t found = (k : Option ℕ) × IsFirstIn (IsMetAt gs t.name) (sequence_members t) k × (found ≡ option_map (at.Member n) k)

-- ---- conversions and what is validated

-- what is misplaced at a cascade
abbrev pub misplaced_at : Groups → Cascade → Option CascadeAt
misplaced_at gs c =
    let cascade = c.placed.cascade in
    if cascade.valid && not (is_reference c.placed.kind) then Some Valid
    else if not cascade.valid && not (nat_eq (length cascade.conversions) 0) then Some Convert
    else option_map Conversion (first_where (λ r. sequence_in gs (r.from ∷ [])) cascade.conversions)

-- the first cascade where something is
abbrev pub misplaced_in : Groups → List Cascade → Option GroupingAt
misplaced_in gs cs = first_in (λ n c. option_map (at.Cascade n) (misplaced_at gs c)) cs

-- ---- the places

-- where a draft has a fault of its groups: the first place in the order of these definitions. A cycle has no place here
abbrev pub IsAt : Drafted → GroupingFault → Option GroupingAt → Type 0
IsAt d UnknownGroup found =
    (found ≡ unknown_at (groups_in d) (uses_in d.types) d.types (cascades_in d.types) d.forms) × IsTrue (is_some found)
IsAt d SequenceMisused found = (found ≡ misused_at (groups_in d) (uses_in d.types)) × IsTrue (is_some found)
IsAt d SequenceLacksType found = (found ≡ lacking_in d.types) × IsTrue (is_some found)
IsAt d DefaultInTypeSequence found = IsFirstIn (IsMetIn (groups_in d)) d.types found × IsTrue (is_some found)
IsAt d ConversionMisplaced found = (found ≡ misplaced_in (groups_in d) (cascades_in d.types)) × IsTrue (is_some found)
IsAt d _ found = found ≡ None

-- the same of a fault of groups by themselves; for a private clause
abbrev pub IsAtGroup : Groups → GroupingFault → Option GroupingAt → Type 0
IsAtGroup gs UnknownGroup found = found ≡ option_map group_at (unknown_name gs)
IsAtGroup gs SequenceMisused found = found ≡ option_map group_at (inherited_sequence gs)
IsAtGroup gs _ found = found ≡ None
