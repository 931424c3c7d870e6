-- At which member of a command, or of a part of a batch, what it names isn't there.
use Rattle.std.specs.Prelude.{◌≡◌, ℕ, List, Some, None}
use Rattle.fv_bundle.specs.Bundles.{Thing}
use Rattle.fv_command_fault.specs.Named.{field_in, form_of, id_of, names_of}
use Rattle.fv_command_fault.specs.declared.place.Absence.{Absence}
use Rattle.fv_command_fault.specs.declared.place.Absence.TheVariants as absence
use Rattle.fv_command_fault.specs.declared.place.CommandPlace.{CommandPlace}
use Rattle.fv_command_fault.specs.declared.place.CommandPlace.TheVariants.{Form, Id, Group, «Type», Object, Field}
use Rattle.fv_datum.specs.Lookup.{at_name}
use Rattle.fv_declare_schema.specs.Declarations.{Declarations}
use Rattle.fv_engine_command.specs.Commands.{Request, check_field, check_value}
use Rattle.fv_declare_schema.specs.Whereabouts.{first_unknown}
use Rattle.fv_bundle.specs.Types.{DeclaredFields}
use Rattle.fv_store.specs.Records.{Kept, Records}

-- a request has a form, which isn't declared
abbrev pub LacksForm : Declarations → Request → Type 0
LacksForm ds r = (form : List ℕ) × (form_of r ≡ Some form) × (at_name form ds.forms ≡ None)

-- a request needs a record at its id, and there is none
abbrev pub LacksRecord : Records → Request → Type 0
LacksRecord m r = (id : List ℕ) × (id_of r ≡ Some id) × (m id ≡ None)

-- a checkfield whose record has no object of that name
abbrev pub LacksObject : Records → Request → Type 0
LacksObject m (check_field id object field names) = (k : Kept) × (m id ≡ Some k) × (at_name object k.bundle.objects ≡ None)
LacksObject m _ = ⊥

-- a checkvalue whose type isn't declared
abbrev pub LacksType : Declarations → Request → Type 0
LacksType ds (check_value type field j names) = at_name type ds.types ≡ None
LacksType ds _ = ⊥

-- a checkfield whose record has an object of that name, and a checkvalue whose type is declared, without such a field
abbrev pub LacksField : Declarations → Records → Request → Type 0
LacksField ds m (check_field id object field names) =
    (k : Kept) × (o : Thing) × (m id ≡ Some k) × (at_name object k.bundle.objects ≡ Some o) × (field_in ds.types o.type_name field ≡ None)
LacksField ds m (check_value type field j names) =
    (fields : DeclaredFields) × (at_name type ds.types ≡ Some fields) × (at_name field fields ≡ None)
LacksField ds m _ = ⊥

-- a request that is asked of records names at a member what isn't there. At no other member does it
abbrev pub IsAt : Declarations → Records → Request → Absence → CommandPlace → Type 0
IsAt ds m r absence.Form Form = LacksForm ds r  -- C4
IsAt ds m r absence.Record Id = LacksRecord m r  -- C6
IsAt ds m r absence.Group (Group n) = first_unknown ds.groups (names_of r) ≡ Some n  -- C7: the first that isn't declared
IsAt ds m r absence.Field Object = LacksObject m r  -- C8 of a checkfield
IsAt ds m r absence.Field «Type» = LacksType ds r  -- C8 of a checkvalue
IsAt ds m r absence.Field Field = LacksField ds m r  -- C8 of either
IsAt ds m r _ _ = ⊥
