use Rattle.std.proofs.Common.{w64, ◌∙◌}
use Rattle.std.proofs.lemmas.Int.{to_z-of_z}
use Rattle.jiff.proofs.SpanFacts.{date_add-days, can_add-days}
use Rattle.fv_datum.proofs.DayLemmas.{day_ok}
use Rattle.fv_datum.proofs.day.today.Goals as goal

pub unwrap-requires : goal.unwrap-requires
unwrap-requires c =
    let day = rw (to_z-of_z w64 c.args.now c.ranges.now) at c.div_euclid-days.ensures in
    let ok = day_ok c.args.now c.div_euclid-days.result c.date.result c.requires day c.date.ensures in
    let only = rw (to_z-of_z w64 c.div_euclid-days.result ok.fits) at c.days.ensures in
    let can = can_add-days c.date.result c.div_euclid-days.result c.days.result only in
    c.checked_add.ensures.succeeds.1 (can.1 ok.range)

pub returns : goal.returns
returns c =
    let day = rw (to_z-of_z w64 c.args.now c.ranges.now) at c.div_euclid-days.ensures in
    let ok = day_ok c.args.now c.div_euclid-days.result c.date.result c.requires day c.date.ensures in
    let only = rw (to_z-of_z w64 c.div_euclid-days.result ok.fits) at c.days.ensures in
    let added = date_add-days c.date.result c.div_euclid-days.result c.days.result only in
    let value = rw c.unwrap.ensures at c.checked_add.ensures.value in
    value ∙ added ∙ ok.counted ∙ day
