-- The row of an object, its fields read as JSON.
use Rattle.std.specs.Prelude.{ℕ, List, Option, option_map, option_and_then, unwrap_or}
use Rattle.serde_json.specs.Data as json
use Rattle.serde_json.specs.Find.{as_object}
use Rattle.serde_json.specs.Read.{read}
use Rattle.serde_json.specs.View.{view as json_view}
use Rattle.fv_store.specs.declared.stored.ReadRow.{ReadRow}
use Rattle.fv_store_tables.specs.Changes.{NamedTexts}

-- the object's name, its type's name and its fields' JSON; none where their text isn't that of a JSON object
abbrev pub row_read : NamedTexts → Option (List ℕ × (List ℕ × json.Members))
row_read o = option_map (λ fields. (o.0, (o.1.kind, fields))) (option_and_then as_object (read o.1.fields))

-- as the code has it
abbrev pub read_view : ReadRow → List ℕ × (List ℕ × json.Members)
read_view r = (r.row.now.name.now, (r.row.now.kind.now, unwrap_or (as_object (json_view r.fields)) json.no_members))
