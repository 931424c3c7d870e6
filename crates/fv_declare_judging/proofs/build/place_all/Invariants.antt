use Rattle.std.proofs.Common.{◌≡◌, ◌≤◌, ◌+◌, ◌++◌, map, drop, length}
use Rattle.std.specs.Vec.Iter.{into_iter_items}
use Rattle.fv_declare_schema.specs.Declarations.{count_nodes}
use Rattle.fv_declare_judging.specs.Judging.{placed_from}
use Rattle.fv_declare_schema.specs.PlacedView.{placed_view}
use Rattle.fv_declare_draft.specs.UseViews.{use_view}
use Rattle.fv_declare_judging.proofs.build.place_all.Given as goal

abbrev pub invariant-loop-given : goal.invariant-loop-given
invariant-loop-given l = record {
  made : map placed_view l.placed.items ++ placed_from l.groups l.number (map use_view (drop l.given-index l.uses)) (into_iter_items l.rest) ≡ placed_from l.groups 0 (map use_view l.uses) l.fn.trees.items;
  each : length (into_iter_items l.rest) ≡ length (drop l.given-index l.uses);
  few : l.number + count_nodes (into_iter_items l.rest) ≤ 1024;
}
