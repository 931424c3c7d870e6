use Rattle.std.proofs.Common.{map, take}
use Rattle.std.specs.List.{All}
use Rattle.fv_declare_schema.specs.PlacedView.{placed_view}
use Rattle.fv_local.specs.Told.{picked}
use Rattle.fv_local.proofs.Passing.{Passes}
use Rattle.fv_local.proofs.judge.Judge.passes_all.Given as goal

abbrev pub invariant-loop-index : goal.invariant-loop-index
invariant-loop-index g l =
    All (Passes g.R.RuleSet.meaning l.self.moment (picked (map placed_view l.self.occurrences.now) (take l.index-index l.self.asked.now))) l.data
