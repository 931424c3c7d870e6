use Rattle.std.proofs.Common.{◌≡◌, ap, ◌∙◌, rules}
use Rattle.fv_datum.specs.Data.{map}
use Rattle.fv_datum.specs.View.{view, entries_view}
use Rattle.fv_datum.specs.Written.{datum_written}
use Rattle.fv_datum.specs.declared.datum.Datum.{the_lemmas}
use Rattle.fv_datum.proofs.Unfit.{unfit}
use Rattle.fv_datum.proofs.writing.+write.Goals as goal

pub write_datum-returns-then-not-keys_fit : goal.write_datum-returns-then-not-keys_fit
write_datum-returns-then-not-keys_fit t c _ =
    let v = c.in-Map.entries in
    let seen : view c.args.datum.now ≡ map (entries_view v.items) = search (rules, the_lemmas, c.in-Map.is) in
    ap datum_written seen ∙ unfit (entries_view v.items) (search (rules, c.keys_fit.ensures, c.if-not-keys_fit.true))
