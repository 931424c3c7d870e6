-- How a date or an instant stands to the present.
use Rattle.std.specs.Prelude.{ℤ, Option, Some, None, option_map}
use Rattle.std.specs.Ordering.{int_cmp}
use Rattle.std.specs.declared.cmp.Ordering.{Ordering}
use Rattle.fv_datum.specs.Data.{Data, date, instant}
use Rattle.fv_datum.specs.Days.{day_of, day_at}

-- before, at or after the present: an instant against the moment now, a date against the day of now in UTC. Other data
-- have no such place
abbrev pub order_of : ℤ → Data → Option Ordering
order_of now (date s) = option_map (λ day. int_cmp day (day_at now)) (day_of s)
order_of now (instant seconds) = Some (int_cmp seconds now)
order_of now _ = None
