use Rattle.std.proofs.Common.{◌≡◌, ◌++◌, map, drop}
use Rattle.fv_model.specs.Views.{object_types_view, part_view}
use Rattle.fv_model.specs.Reading.{object_types}
use Rattle.fv_model.proofs.draft.object_types_of.Given as goal

abbrev pub invariant-loop-part : goal.invariant-loop-part
invariant-loop-part l = object_types_view l.out ++ object_types (map part_view (drop l.part-index l.parts)) ≡ object_types (map part_view l.parts)
