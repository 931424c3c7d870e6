use Rattle.std.proofs.Common.{◌≡◌, true, drop, rules}
use Rattle.fv_datum.specs.Days.{has_date_form}
use Rattle.fv_datum.proofs.DayLemmas.{month_day, short}
use Rattle.fv_datum.proofs.day.day_of.Goals as goal

pub digits_value-day-requires-clause-digits : goal.digits_value-day-requires-clause-digits
digits_value-day-requires-clause-digits c =
    let form : has_date_form c.as_bytes-bytes.result.now ≡ true = search rules in
    month_day c.as_bytes-bytes.result.now form

pub calendar_day-requires-clause-year : goal.calendar_day-requires-clause-year
calendar_day-requires-clause-year c = short c.digits_value-year.result 4 c.as_bytes-bytes.result.now c.digits_value-year.ensures.small

pub calendar_day-requires-clause-month : goal.calendar_day-requires-clause-month
calendar_day-requires-clause-month c = short c.digits_value-month.result 2 (drop 5 c.as_bytes-bytes.result.now) c.digits_value-month.ensures.small

pub calendar_day-requires-clause-day : goal.calendar_day-requires-clause-day
calendar_day-requires-clause-day c = short c.digits_value-day.result 2 (drop 8 c.as_bytes-bytes.result.now) c.digits_value-day.ensures.small
