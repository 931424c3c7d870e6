-- What each form asks of JSON.
use Rattle.std.specs.Prelude.{Bool, true, false, ◌&&◌, is_some, nat_le, nat_lt}
use Rattle.serde_json.specs.Data as json
use Rattle.serde_json.specs.Find.{as_bool, as_str}
use Rattle.fv_declare_definition.specs.Written.{attribute_kind_of, rule_of}
use Rattle.fv_engine_command.specs.Commands.{id_in, limit_in}
use Rattle.fv_form.specs.Commands.{of_bundle, of_object, is_named, is_command_name, is_part_name, command_form, part_form, counted_form}
use Rattle.fv_form.specs.Declarations.{declarations, of_type, of_form, of_definition, of_attribute, of_composing, of_place, of_use, value_form, group_form, sequence_form, held_form}
use Rattle.fv_form.specs.Entries.{leaf}
use Rattle.fv_form.specs.Misfits.{Form, fits, items, members, object}
use Rattle.fv_form.specs.declared.form_name.FormName.{FormName}
use Rattle.fv_form.specs.declared.form_name.FormName.TheVariants as part

-- what each form asks
abbrev pub asked : FormName → json.Data → Form FormName
asked part.Declarations j = object declarations
asked part.Types j = members part.Type
asked part.Type j = object of_type
asked part.Fields j = members part.Place
asked part.Forms j = members part.Form
asked part.Form j = object of_form
asked part.Groups j = members part.Group
asked part.Group j = group_form j
asked part.Sequence j = sequence_form j
asked part.Definitions j = members part.Definition
asked part.Definition j = object of_definition
asked part.Attributes j = members part.Attribute
asked part.Attribute j = object of_attribute
asked part.AttributeKind j = leaf (is_some (attribute_kind_of j))
asked part.Rule j = leaf (is_some (rule_of j))
asked part.Compose j = items part.Composing
asked part.Composing j = object of_composing
asked part.Override j = members part.Text
asked part.Messages j = members part.Text
asked part.Place j = object of_place
asked part.Held j = held_form j
asked part.Uses j = items part.Use
asked part.Use j = object of_use
asked part.With j = members part.Value
asked part.Value j = value_form j
asked part.Convert j = members part.Text
asked part.Names j = items part.Text
asked part.Text j = leaf (is_some (as_str j))
asked part.Flag j = leaf (is_some (as_bool j))
asked part.Command j = command_form j
asked part.CommandName j = leaf (is_named is_command_name j)
asked part.Part j = part_form j
asked part.PartName j = leaf (is_named is_part_name j)
asked part.Parts j = counted_form (λ n. nat_lt 0 n && nat_le n 64) part.Part j
asked part.AskedGroups j = counted_form (λ n. nat_le n 32) part.Text j
asked part.Id j = leaf (is_some (id_in j))
asked part.Limit j = leaf (is_some (limit_in j))
asked part.Bundle j = object of_bundle
asked part.Objects j = members part.Object
asked part.Object j = object of_object
asked part.Given j = members part.Any
asked part.Any j = fits

-- the form asks the same of any JSON
abbrev pub is_fixed : FormName → Bool
is_fixed part.Group = false
is_fixed part.Sequence = false
is_fixed part.AttributeKind = false
is_fixed part.Rule = false
is_fixed part.Held = false
is_fixed part.Value = false
is_fixed part.Text = false
is_fixed part.Flag = false
is_fixed part.Command = false
is_fixed part.CommandName = false
is_fixed part.Part = false
is_fixed part.PartName = false
is_fixed part.Parts = false
is_fixed part.AskedGroups = false
is_fixed part.Id = false
is_fixed part.Limit = false
is_fixed _ = true
