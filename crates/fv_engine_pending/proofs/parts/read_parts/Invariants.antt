use Rattle.std.proofs.Common.{◌≡◌, ◌++◌, map, drop}
use Rattle.std.specs.List.{AllByRecursion}
use Rattle.fv_engine_command.specs.CommandView.{part_view}
use Rattle.fv_engine_pending.specs.Parts.{are_misshapen}
use Rattle.fv_engine_pending.specs.Steps.{StepFits, staged, step_view}
use Rattle.fv_engine_pending.proofs.parts.read_parts.Given as goal

abbrev pub invariant-loop-part : goal.invariant-loop-part
invariant-loop-part l = record {
  read : map step_view l.steps.items ++ map (staged l.schema.types l.schema.forms) (map part_view (drop l.part-index l.parts)) ≡ map (staged l.schema.types l.schema.forms) (map part_view l.parts);
  shaped : are_misshapen l.schema.types l.schema.forms (map part_view (drop l.part-index l.parts)) ≡ are_misshapen l.schema.types l.schema.forms (map part_view l.parts);
  fits : AllByRecursion (StepFits l.schema.types l.schema.forms) (map step_view l.steps.items);
}
