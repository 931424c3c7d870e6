-- What changes make of the records.
use Rattle.std.specs.Prelude.{◌≡◌, List, [], ◌∷◌, Some, string_bytes}
use Rattle.fv_bundle.specs.Types.{Declared}
use Rattle.fv_bundle.specs.Views.{object_view}
use Rattle.fv_store.specs.declared.changes.Change.{Change}
use Rattle.fv_store.specs.declared.changes.Change.TheVariants.{Put, Object, Remove}
use Rattle.fv_store.specs.Stored.{stored_view}
use Rattle.fv_store.specs.Records.{Kept, Records, Roots, RecordFits, Contents, with_record, without_record, with_thing, with_object, with_records}

-- after one change: what is put is the record of its id, an object stands in the place of that of its name in its record, and what is removed is gone
abbrev pub after : Change → Records → Records
after (Put id s) m = with_record (string_bytes id) (stored_view s) m
after (Object id name object) m = with_object (string_bytes id) (string_bytes name) (object_view object) m
after (Remove id) m = without_record (string_bytes id) m

-- the changes in order
abbrev pub after_all : List Change → Records → Records
after_all [] m = m
after_all (c ∷ cs) m = after_all cs (after c m)

-- the same, made of what a store keeps
abbrev pub changed : List Change → Contents → Contents
changed cs c = with_records (after_all cs c.records) c

-- what is put fits, and so does the record with an object in it
abbrev pub ChangeFits : Declared → Roots → Change → Records → Type 0
ChangeFits types roots (Put id s) m = RecordFits types roots (stored_view s)
ChangeFits types roots (Object id name object) m =
    (k : Kept) → m (string_bytes id) ≡ Some k → RecordFits types roots (with_thing (string_bytes name) (object_view object) k)
ChangeFits types roots (Remove id) m = Unit {0}

-- the same of each change, made of the records that those before it leave
abbrev pub ChangesFit : Declared → Roots → List Change → Records → Type 0
ChangesFit types roots [] m = Unit {0}
ChangesFit types roots (c ∷ cs) m = ChangeFits types roots c m × ChangesFit types roots cs (after c m)
