-- The declarations that a schema stands for.
use Rattle.std.specs.Prelude.{ℕ, List, map, String, string_bytes}
use Rattle.std.specs.declared.alloc.Global.{Global}
use Rattle.fv_bundle.specs.Types.{Declared, TextMap, name_at}
use Rattle.fv_bundle.specs.TypesView.{types_view}
use Rattle.fv_declare_schema.specs.NumberViews.{sequences_view, valid_place_view}
use Rattle.fv_declare_schema.specs.Groups.{Groups}
use Rattle.fv_declare_schema.specs.Tables.{indices}
use Rattle.fv_message.specs.Table.{Messages}
use Rattle.fv_bundle.specs.declared.types.Types.{Types}
use Rattle.fv_declare_schema.specs.Declarations.{Declarations}
use Rattle.fv_declare_schema.specs.PlacedView.{placed_view}
use Rattle.fv_declare_schema.specs.declared.schema.Form.{Form}
use Rattle.fv_declare_schema.specs.declared.schema.NumberedParts.{NumberedParts}

-- a form's name and its root's type by name
abbrev pub form_entry : Declared → String Global × Form → List ℕ × List ℕ
form_entry ts e = (string_bytes e.0, name_at ts e.1.root.index)

-- the forms by their names, each with its root's type by name
abbrev pub forms_view : Declared → TextMap Form → List (List ℕ × List ℕ)
forms_view ts m = map (form_entry ts) m.entries

-- a form's name and the numbers of its groups
abbrev pub form_groups_entry : String Global × Form → List ℕ × List ℕ
form_groups_entry e = (string_bytes e.0, indices e.1.groups.items)

-- the forms by their names, each with the numbers of its groups
abbrev pub form_groups_view : TextMap Form → List (List ℕ × List ℕ)
form_groups_view m = map form_groups_entry m.entries

-- the declarations by the types, the groups, the messages and the parts that name types and groups by their numbers
abbrev pub declared_by : Types → Groups → Messages → NumberedParts → Declarations
declared_by types groups messages n = record {
  types = types_view types;
  occurrences = map placed_view n.occurrences.items;
  forms = forms_view (types_view types) n.forms;
  groups = groups;
  form_groups = form_groups_view n.forms;
  sequences = sequences_view n.sequences.items;
  valid_places = map valid_place_view n.valid_places.items;
  messages = messages;
}
