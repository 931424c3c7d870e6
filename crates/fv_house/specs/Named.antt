-- The dates and integers that stand in fields.
use Rattle.std.specs.Prelude.{ℕ, ℤ, List, Option, Some, None, option_and_then}
use Rattle.fv_datum.specs.Data.{Data, date, integer}

-- the text of the date that a datum is
abbrev pub as_date : Data → Option (List ℕ)
as_date (date t) = Some t
as_date _ = None

-- the integer that a datum is
abbrev pub as_integer : Data → Option ℤ
as_integer (integer n) = Some n
as_integer _ = None

-- the date that stands there, if one does
abbrev pub date_of : Option Data → Option (List ℕ)
date_of o = option_and_then as_date o

-- the integer that stands there, if one does
abbrev pub integer_of : Option Data → Option ℤ
integer_of o = option_and_then as_integer o
