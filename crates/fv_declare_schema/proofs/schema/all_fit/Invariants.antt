use Rattle.std.proofs.Common.{◌≡◌, map, drop}
use Rattle.std.specs.List.{list_all}
use Rattle.fv_declare_schema.specs.Fits.{placed_fits}
use Rattle.fv_declare_schema.specs.PlacedView.{placed_view}
use Rattle.fv_declare_schema.proofs.schema.all_fit.Given as goal

abbrev pub invariant-loop-placed : goal.invariant-loop-placed
invariant-loop-placed g l =
    list_all (placed_fits (g.R.RuleSet.known l.rules)) (map placed_view (drop l.placed-index l.occurrences))
    ≡ list_all (placed_fits (g.R.RuleSet.known l.rules)) (map placed_view l.occurrences)
