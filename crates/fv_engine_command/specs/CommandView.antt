-- The request that a command is.
use Rattle.std.specs.Prelude.{map, option_map}
use Rattle.serde_json.specs.View.{view as json_view}
use Rattle.fv_engine_command.specs.declared.command.Command.{Command}
use Rattle.fv_engine_command.specs.declared.command.Command.TheVariants.{Alone, Batch, Get, Check, CheckField, CheckValue, List}
use Rattle.fv_engine_command.specs.declared.part.Part.{Part}
use Rattle.fv_engine_command.specs.declared.part.Part.TheVariants.{Put, Set, Remove}
use Rattle.fv_engine_command.specs.Commands as spec

-- the part that a part of the code is
abbrev pub part_view : Part → spec.Part
part_view (Put id form bundle) = spec.put id.now form.now (json_view bundle.now)
part_view (Set id object field value) = spec.set id.now object.now field.now (json_view value.now)
part_view (Remove id) = spec.remove id.now

-- the request that a command is
abbrev pub command_view : Command → spec.Request
command_view (Alone part) = spec.alone (part_view part)
command_view (Batch parts) = spec.batch (map part_view parts.items)
command_view (Get id) = spec.get id.now
command_view (Check id groups) = spec.check id.now (map (λ n. n.now) groups.items)
command_view (CheckField at groups) = spec.check_field at.id.now at.object.now at.field.now (map (λ n. n.now) groups.items)
command_view (CheckValue at value groups) = spec.check_value at.type_name.now at.field.now (json_view value.now) (map (λ n. n.now) groups.items)
command_view (List form after limit) = spec.list form.now (option_map (λ s. s.now) after) limit
