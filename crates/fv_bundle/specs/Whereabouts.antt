-- Where declared types have a fault, by numbers in their order.
use Rattle.std.specs.Prelude.{ℕ, length, nat_lt, if◌then◌else◌, Option, Some, None, option_map}
use Rattle.fv_first.specs.First.{first_in, first_where}
use Rattle.fv_bundle.specs.TypeLimits.{most_types, most_fields, most_nested}
use Rattle.fv_bundle.specs.Types.{DeclaredFields, Declared, nested, is_unknown}
use Rattle.fv_bundle.specs.declared.fault.TypesAt.{TypesAt}
use Rattle.fv_bundle.specs.declared.fault.TypesAt.TheVariants as at
use Rattle.fv_bundle.specs.declared.fault.TypesFault.{TypesFault}
use Rattle.fv_bundle.specs.declared.fault.TypesFault.TheVariants.{UnknownType, TooLarge, Memory}

-- the first of the fields that refers to a type that isn't declared
abbrev pub unknown_field : Declared → DeclaredFields → Option ℕ
unknown_field ts fields = first_where (λ f. is_unknown ts f.1) fields

-- the first type with such a field, and its first
abbrev pub unknown_reference_at : Declared → Option TypesAt
unknown_reference_at ts = first_in (λ n t. option_map (at.Field n) (unknown_field ts t.1)) ts

-- the first of the fields that holds more than four containers one in another
abbrev pub deep_field : DeclaredFields → Option ℕ
deep_field fields = first_where (λ f. nat_lt most_nested (nested f.1)) fields

-- of a type by its number: itself where it has more than 256 fields, else its first field that holds too many containers
abbrev pub large_in : ℕ → DeclaredFields → Option TypesAt
large_in n fields = if nat_lt most_fields (length fields) then Some (at.Type n) else option_map (at.Field n) (deep_field fields)

-- the same of the first type of which it finds something
abbrev pub large_type_at : Declared → Option TypesAt
large_type_at ts = first_in (λ n t. large_in n t.1) ts

-- the types as a whole where there are more than 256, else the first of them that is too large
abbrev pub large_at : Declared → Option TypesAt
large_at ts = if nat_lt most_types (length ts) then Some at.Types else large_type_at ts

-- where declared types have a fault, in the words of that fault's condition; want of memory has no place
abbrev pub types_fault_at : Declared → TypesFault → Option TypesAt
types_fault_at ts UnknownType = unknown_reference_at ts
types_fault_at ts TooLarge = large_at ts
types_fault_at ts Memory = None
