use Rattle.std.proofs.Common.{map, drop}
use Rattle.std.specs.List.{AllByRecursion}
use Rattle.fv_model.specs.Ascents.{Ascends}
use Rattle.fv_model.specs.Views.{types_view, part_view}
use Rattle.fv_model.specs.Reading.{object_types}
use Rattle.fv_model.proofs.Conditions.{some_flawed}
use Rattle.fv_bundle.proofs.Telling.{Telling}
use Rattle.fv_model.proofs.faults.draft_flaws.Given as goal

abbrev pub invariant-loop-part : goal.invariant-loop-part
invariant-loop-part l = record {
  told : Telling l.flaws (object_types (map part_view l.draft.objects.items)) (λ flaw. some_flawed flaw (types_view l.types) (map part_view (drop l.part-index l.part-items))) (λ flaw. some_flawed flaw (types_view l.types) (map part_view l.part-items));
  ascending : AllByRecursion (Ascends (types_view l.types)) (map part_view (drop l.part-index l.part-items)) → AllByRecursion (Ascends (types_view l.types)) (map part_view l.part-items);
}
