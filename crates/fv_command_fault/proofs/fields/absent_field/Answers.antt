use Rattle.std.proofs.Common.{option_map, map, ap}
use Rattle.fv_bundle.specs.Views.{bundle_view}
use Rattle.fv_engine_command.specs.CommandView.{command_view}
use Rattle.fv_bundle.specs.TypesView.{types_view}
use Rattle.fv_command_fault.proofs.Told.{checked_told}
use Rattle.fv_command_fault.proofs.fields.absent_field.Goals as goal

pub returns-in_ok-stored-in-CheckField-clause-placed : goal.returns-in_ok-stored-in-CheckField-clause-placed
returns-in_ok-stored-in-CheckField-clause-placed c = λ m kept.
    checked_told c.args.schema.now m (command_view c.args.command.now) (types_view c.types.result.now) c.types.ensures c.absent_in_bundle.result
    c.in-CheckField.at.id.now c.in-CheckField.at.object.now c.in-CheckField.at.field.now (map (λ n. n.now) c.in-CheckField.groups.items)
    (option_map (λ b. bundle_view b.now) c.args.stored) (bundle_view c.in_ok-stored-in-CheckField.field-0.now)
    (ap command_view c.in-CheckField.is) (ap (option_map (λ b. bundle_view b.now)) c.in_ok-stored-in-CheckField.was) c.absent_in_bundle.ensures kept
