-- What the rules of tests mean.
use Rattle.std.specs.Prelude.{ℕ, ℤ, pos, Bool, true, false, length, nat_le, int_le, if◌then◌else◌, ◌==◌}
use Rattle.fv_datum.specs.Attributes.{Attributes}
use Rattle.fv_datum.specs.Data.{Data, null, text, integer}

-- null, or an integer of at least that number
abbrev pub at_least : ℤ → Data → Bool
at_least least null = true
at_least least (integer n) = int_le least n
at_least least _ = false

-- null, or a text of at most 3 bytes
abbrev pub short : Data → Bool
short null = true
short (text t) = nat_le (length t) 3
short _ = false

-- rules of data: 100 has the number 18
abbrev pub trial : ℕ → Data → Attributes → Bool
trial rule d attrs = if rule == 100 then at_least (pos 18) d else (if rule == 200 then short d else true)
