use Rattle.std.proofs.Common.{◌≡◌, map, take}
use Rattle.fv_declare_schema.specs.PlacedView.{placed_view}
use Rattle.fv_local.specs.Told.{picked, numbers_of}
use Rattle.fv_bundle.specs.Views.{object_view}
use Rattle.fv_constraint_tree.specs.Says.{of_object}
use Rattle.fv_local.proofs.judge.Judge.object_numbers.Given as goal

abbrev pub invariant-loop-index : goal.invariant-loop-index
invariant-loop-index g l = l.numbers.items
    ≡ numbers_of g.R.RuleSet.meaning l.self.moment (of_object (object_view l.object)) (picked (map placed_view l.self.occurrences.now) (take l.index-index l.self.asked.now))
