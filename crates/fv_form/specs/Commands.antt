-- What the forms of commands ask of JSON.
use Rattle.std.specs.Prelude.{ℕ, List, [], ◌∷◌, length, Bool, true, false, ◌||◌, if◌then◌else◌, Option, Some, option_and_then, is_some, unwrap_or, codes}
use Rattle.std.specs.List.{list_all}
use Rattle.std.specs.Option.{option_map_or}
use Rattle.serde_json.specs.Data as json
use Rattle.serde_json.specs.Find.{as_str}
use Rattle.fv_datum.specs.Forms.{required}
use Rattle.fv_datum.specs.Lookup.{at_name}
use Rattle.fv_datum.specs.Members.{listed}
use Rattle.fv_engine_command.specs.Commands as command
use Rattle.fv_model.specs.Draft as bundle
use Rattle.fv_form.specs.Entries.{must, may}
use Rattle.fv_form.specs.Misfits.{Entry, Form, unfit, items, object}
use Rattle.fv_form.specs.declared.form_name.FormName.{FormName}
use Rattle.fv_form.specs.declared.form_name.FormName.TheVariants as part

-- ---- the members of each command, in their order

-- the name of a command
abbrev pub named : Entry FormName
named = must (codes "do") part.CommandName

-- of a put
abbrev pub of_put : List (Entry FormName)
of_put = named ∷ must (codes "id") part.Id ∷ must (codes "form") part.Text ∷ must (codes "bundle") part.Bundle ∷ []

-- of a set
abbrev pub of_set : List (Entry FormName)
of_set =
    named ∷ must (codes "id") part.Id ∷ must (codes "object") part.Text ∷ must (codes "field") part.Text
    ∷ must (codes "value") part.Any ∷ []

-- of a remove and of a get
abbrev pub of_id : List (Entry FormName)
of_id = named ∷ must (codes "id") part.Id ∷ []

-- of a batch
abbrev pub of_batch : List (Entry FormName)
of_batch = named ∷ must (codes "parts") part.Parts ∷ []

-- of a check
abbrev pub of_check : List (Entry FormName)
of_check = named ∷ must (codes "id") part.Id ∷ may (codes "groups") part.AskedGroups ∷ []

-- of a checkfield
abbrev pub of_check_field : List (Entry FormName)
of_check_field =
    named ∷ must (codes "id") part.Id ∷ must (codes "object") part.Text ∷ must (codes "field") part.Text
    ∷ may (codes "groups") part.AskedGroups ∷ []

-- of a checkvalue
abbrev pub of_check_value : List (Entry FormName)
of_check_value =
    named ∷ must (codes "type") part.Text ∷ must (codes "field") part.Text ∷ must (codes "value") part.Any
    ∷ may (codes "groups") part.AskedGroups ∷ []

-- of a list
abbrev pub of_list : List (Entry FormName)
of_list = named ∷ must (codes "form") part.Text ∷ may (codes "after") part.Id ∷ may (codes "limit") part.Limit ∷ []

-- of a redeclare
abbrev pub of_redeclare : List (Entry FormName)
of_redeclare = named ∷ must (codes "text") part.Text ∷ []

-- all that any command has beside its name
abbrev pub of_any : List (Entry FormName)
of_any =
    may (codes "id") part.Any ∷ may (codes "form") part.Any ∷ may (codes "bundle") part.Any ∷ may (codes "object") part.Any
    ∷ may (codes "field") part.Any ∷ may (codes "value") part.Any ∷ may (codes "parts") part.Any ∷ may (codes "groups") part.Any
    ∷ may (codes "type") part.Any ∷ may (codes "after") part.Any ∷ may (codes "limit") part.Any ∷ may (codes "text") part.Any ∷ []

-- of what hasn't a name of this form at `do`, of which it isn't known what it is to be
abbrev pub of_unnamed : FormName → List (Entry FormName)
of_unnamed name = must (codes "do") name ∷ of_any

-- of a bundle
abbrev pub of_bundle : List (Entry FormName)
of_bundle = must (codes "root") part.Text ∷ must (codes "objects") part.Objects ∷ []

-- of an object of a bundle
abbrev pub of_object : List (Entry FormName)
of_object = must (codes "type") part.Text ∷ may (codes "fields") part.Given ∷ []

-- ---- what is asked by what is written

-- the parts by their names
abbrev pub parts : List (List ℕ × List (Entry FormName))
parts = (codes "put", of_put) ∷ (codes "set", of_set) ∷ (codes "remove", of_id) ∷ []

-- the commands that ask for records, by their names
abbrev pub record_commands : List (List ℕ × List (Entry FormName))
record_commands =
    (codes "put", of_put) ∷ (codes "set", of_set) ∷ (codes "remove", of_id) ∷ (codes "batch", of_batch) ∷ (codes "get", of_id)
    ∷ (codes "check", of_check) ∷ (codes "checkfield", of_check_field) ∷ (codes "checkvalue", of_check_value)
    ∷ (codes "list", of_list) ∷ []

-- all commands by their names
abbrev pub commands : List (List ℕ × List (Entry FormName))
commands = (codes "redeclare", of_redeclare) ∷ record_commands

-- the name is a part's
abbrev pub is_part_name : List ℕ → Bool
is_part_name name = is_some (at_name name parts)

-- the name is a command's
abbrev pub is_command_name : List ℕ → Bool
is_command_name name = is_some (at_name name commands)

-- a text that passes a test
abbrev pub is_named : (List ℕ → Bool) → json.Data → Bool
is_named test j = option_map_or test (as_str j) false

-- of an object by the name at its member `do`: the members at that name, or others where there is none
abbrev pub form_by : List (List ℕ × List (Entry FormName)) → List (Entry FormName) → Option (List ℕ) → Form FormName
form_by table others o = object (unwrap_or (option_and_then (λ name. at_name name table) o) others)

-- of a command
abbrev pub command_form : json.Data → Form FormName
command_form j = form_by commands (of_unnamed part.CommandName) (required as_str (codes "do") j)

-- of a part
abbrev pub part_form : json.Data → Form FormName
part_form j = form_by parts (of_unnamed part.PartName) (required as_str (codes "do") j)

-- of an array whose number of items passes a test: that they are of a form
abbrev pub counted_form : (ℕ → Bool) → FormName → json.Data → Form FormName
counted_form test h (json.array js) = if test (length (listed js)) then items h else unfit
counted_form test h j = items h

-- ---- what is read

-- the bundle of a put is of the form of one
abbrev pub is_drafted : command.Part → Bool
is_drafted (command.put id form j) = is_some (bundle.bundle_draft_of j)
is_drafted _ = true

-- a request is of a command's form, and each bundle in it of the form of one
abbrev pub is_shaped : command.Request → Bool
is_shaped command.shape = false
is_shaped (command.alone p) = is_drafted p
is_shaped (command.batch ps) = list_all is_drafted ps
is_shaped _ = true

-- a JSON value is a command, its bundles included, or a redeclare
abbrev pub is_command : json.Data → Bool
is_command j = is_shaped (command.of_json (Some j)) || is_some (command.redeclare_of j)
