-- Where groups have a fault.
use Rattle.std.specs.Prelude.{◌≡◌, ℕ, List, length, nat_lt, not, false, if◌then◌else◌, Option, Some, None, option_map, is_some}
use Rattle.std.specs.Option.{option_map_or}
use Rattle.fv_first.specs.First.{first_in, first_where}
use Rattle.fv_declare_schema.specs.Groups.{Groups, group_names_of, inherited_by, group_number, is_sequence}
use Rattle.fv_declare_schema.specs.declared.fault.GroupFault.{GroupFault}
use Rattle.fv_declare_schema.specs.declared.fault.GroupFault.TheVariants.{UnknownGroup, SequenceMisused}
use Rattle.fv_declare_schema.specs.Judged.{most_groups, most_names}
use Rattle.fv_declare_schema.specs.declared.fault.GroupLimit.{GroupLimit}
use Rattle.fv_declare_schema.specs.declared.fault.GroupLimit.TheVariants as limit
use Rattle.fv_declare_schema.specs.declared.fault.NameAt.{NameAt}

-- a group by its number, and a name that it is declared with by its own
abbrev pub name_in : ℕ → ℕ → NameAt
name_in group name = record { group = group; name = name }

-- the first of these names that is no group's
abbrev pub first_unknown : Groups → List (List ℕ) → Option ℕ
first_unknown gs names = first_where (λ name. not (is_some (group_number gs name))) names

-- the first of these names that is a sequence's
abbrev pub first_sequence : Groups → List (List ℕ) → Option ℕ
first_sequence gs names = first_where (λ name. option_map_or (is_sequence gs) (group_number gs name) false) names

-- the first group that inherits, or has as a member, one that isn't declared
abbrev pub unknown_name : Groups → Option NameAt
unknown_name gs = first_in (λ n g. option_map (name_in n) (first_unknown gs (group_names_of g.1))) gs

-- the first group that inherits a sequence
abbrev pub inherited_sequence : Groups → Option NameAt
inherited_sequence gs = first_in (λ n g. option_map (name_in n) (first_sequence gs (inherited_by g.1))) gs

-- the first group that is declared with too many names
abbrev pub first_large : Groups → Option ℕ
first_large gs = first_where (λ g. nat_lt most_names (length (group_names_of g.1))) gs

-- the limit that is passed, how many groups there are asked first
abbrev pub passed_limit : Groups → Option GroupLimit
passed_limit gs = if nat_lt most_groups (length gs) then Some limit.Groups else option_map limit.Group (first_large gs)

-- where groups have a fault, in the words of that fault's condition; the others have no such place
abbrev pub IsAt : Groups → GroupFault → Option NameAt → Type 0
IsAt gs UnknownGroup found = found ≡ unknown_name gs
IsAt gs SequenceMisused found = found ≡ inherited_sequence gs
IsAt gs _ found = found ≡ None
