-- The data that JSON spells.
use Rattle.std.specs.Prelude.{◌^◌, ℕ, ℤ, List, pos, negsuc, nat_lt, Bool, true, false, Option, Some, None, Result, option_map, option_and_then, if◌then◌else◌}
use Rattle.std.specs.Option.{ok_or}
use Rattle.serde_json.specs.Data as json
use Rattle.serde_json.specs.Find.{as_str, as_bool, as_number, as_integer}
use Rattle.fv_datum.specs.Data.{Data, null, text, integer, decimal, boolean, date, instant, reference}
use Rattle.fv_datum.specs.Days.{is_date}
use Rattle.fv_datum.specs.Decimals.{is_decimal}
use Rattle.fv_datum.specs.Moments.{is_moment}
use Rattle.fv_datum.specs.Name.{names}
use Rattle.fv_datum.specs.declared.kind.Kind.{Kind}
use Rattle.fv_datum.specs.declared.kind.Kind.TheVariants.{Text, Integer, Decimal, Boolean, Date, Instant, Ref}
use Rattle.fv_datum.specs.declared.fault.DatumFault.{DatumFault}
use Rattle.fv_datum.specs.declared.fault.DatumFault.TheVariants.{WrongKind}

-- the JSON value is `null`
abbrev pub is_null_json : json.Data → Bool
is_null_json json.null = true
is_null_json _ = false

-- from -2^63 to 2^63 - 1
abbrev pub is_of_64_bits : ℤ → Bool
is_of_64_bits (pos n) = nat_lt n (2 ^ 63)
is_of_64_bits (negsuc n) = nat_lt n (2 ^ 63)

-- the value, where it passes a test
abbrev pub passing : {X : Type 0} → (X → Bool) → X → Option X
passing test x = if test x then Some x else None

-- the whole number of 64 bits that a JSON number is: one with a fraction or an exponent is none, and so is `-0`
abbrev pub whole_of : json.Num → Option ℤ
whole_of n = option_and_then (passing is_of_64_bits) (as_integer n)

-- a string that passes a test
abbrev pub string_of : (List ℕ → Bool) → json.Data → Option (List ℕ)
string_of test j = option_and_then (passing test) (as_str j)

-- the whole number of 64 bits that a JSON value is
abbrev pub integer_of : json.Data → Option ℤ
integer_of j = option_and_then whole_of (as_number j)

-- the datum of a kind that a JSON value other than null spells. Decimals, dates and references are strings of the
-- kind's form, an instant is a whole number of seconds in the range of moments
abbrev pub plain : Kind → json.Data → Option Data
plain Text j = option_map text (as_str j)
plain Integer j = option_map integer (integer_of j)
plain Decimal j = option_map decimal (string_of is_decimal j)
plain Boolean j = option_map boolean (as_bool j)
plain Date j = option_map date (string_of is_date j)
plain Instant j = option_map instant (option_and_then (passing is_moment) (integer_of j))
plain Ref j = option_map reference (string_of names j)
plain _ j = None

-- the datum of a kind that a JSON value spells: null is null in every kind
abbrev pub spelled : Kind → json.Data → Option Data
spelled k j = if is_null_json j then Some null else plain k j

-- the same, or that it is of another kind
abbrev pub datum_read : Kind → json.Data → Result Data DatumFault
datum_read k j = ok_or (spelled k j) WrongKind
