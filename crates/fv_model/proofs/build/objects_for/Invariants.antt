use Rattle.std.proofs.Common.{◌≡◌, ◌++◌, map, drop, false}
use Rattle.std.specs.List.{list_any}
use Rattle.fv_model.specs.Views.{types_view, objects_view, part_view}
use Rattle.fv_model.specs.Reading.{object_of}
use Rattle.fv_model.specs.Fitting.{part_misfits}
use Rattle.fv_model.proofs.Conditions.{unknown_type}
use Rattle.fv_model.proofs.build.objects_for.Given as goal

abbrev pub invariant-loop-part : goal.invariant-loop-part
invariant-loop-part l = record {
  declared : unknown_type (types_view l.types) (map part_view (drop l.part-index l.parts)) ≡ false;
  fit : list_any (part_misfits (types_view l.types)) (map part_view (drop l.part-index l.parts)) ≡ list_any (part_misfits (types_view l.types)) (map part_view l.parts);
  made : objects_view l.out ++ map (object_of (types_view l.types)) (map part_view (drop l.part-index l.parts)) ≡ map (object_of (types_view l.types)) (map part_view l.parts);
}
