-- What is written of records, and the rows that keep it.
use Rattle.std.specs.Prelude.{ℕ, List, Option, map, option_map}
use Rattle.serde_json.specs.Data as json
use Rattle.serde_json.specs.Written.{compact_text}
use Rattle.fv_model.specs.Writing.{named_written}
use Rattle.fv_store_tables.specs.Stands.{ObjectTexts, Entry, TableEntries}
use Rattle.fv_store.specs.Records.{Kept, Records}

-- what is written of a record: its form, its root's name, and its objects by their names, each with its type's name and its fields' JSON
pub record Written : Type 0 where
  pub form : List ℕ
  pub root : List ℕ
  pub objects : List (List ℕ × (List ℕ × json.Members))

-- what is written of a record
abbrev pub written_of : Kept → Written
written_of k = record { form = k.form; root = k.bundle.root; objects = map named_written k.bundle.objects }

-- what is written of the record of each id, where there is one
abbrev pub Writings : Type 0
Writings = List ℕ → Option Written

-- what is written of each of these records
abbrev pub writings : Records → Writings
writings m id = option_map written_of (m id)

-- ---- the rows

-- the text that an object's fields are kept as: their JSON with no space
unfoldable pub fields_text : json.Members → List ℕ
fields_text fields = compact_text (json.object fields)

-- what the row of an object keeps beside its record's id: its name, its type's name and its fields' text
abbrev pub object_kept : List ℕ × (List ℕ × json.Members) → List ℕ × ObjectTexts
object_kept o = (o.0, record { kind = o.1.0; fields = fields_text o.1.1 })

-- what the rows of a record keep beside its id
abbrev pub entry_of : Written → Entry
entry_of w = record { form = w.form; root = w.root; objects = map object_kept w.objects }

-- the same of each record
abbrev pub entries : Writings → TableEntries
entries ws id = option_map entry_of (ws id)
