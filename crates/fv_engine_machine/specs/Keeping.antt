-- For private clauses: what a request is replied, and what a command that changes records and a check do on their way.
use Rattle.std.specs.Prelude.{◌≡◌, ◌≢◌, ◌<◌, ◌+◌, ◌*◌, ◌≤◌, ◌⊎◌, ℕ, ℤ, IsTrue, List, [], ◌∷◌, length, true, false, Option, Some, None, IsSome, option_map, Ok, Err, string_bytes}
use Rattle.std.specs.List.{list_any}
use Rattle.sqlite.specs.Disk.{MoreFaults}
use Rattle.serde_json.specs.Data as json
use Rattle.fv_datum.specs.Data.{Data}
use Rattle.fv_declare_schema.specs.Declarations.{Declarations}
use Rattle.fv_engine_machine.specs.Causes.{StoreHasFailed, Handles}
use Rattle.fv_engine_machine.specs.Machines.{Machine, contents, over, with_map}
use Rattle.fv_engine_command.specs.Commands.{Part, set, Request}
use Rattle.fv_engine_machine.specs.Refusals.{first_of, is_too_long, made, batch_parts, refusal, told_fault, when}
use Rattle.fv_engine_machine.specs.Step.{Changes, Checked, FieldChecked, LooksUp, Serves}
use Rattle.fv_engine_pending.specs.Judging.{AreListingsOf, IsStanding, OneIsOverAmong}
use Rattle.fv_engine_machine.specs.Redeclaring.{misfit}
use Rattle.fv_engine_pending.specs.declared.rejudging.RejudgeFault.{RejudgeFault}
use Rattle.fv_engine_pending.specs.declared.rejudging.RejudgeFault.TheVariants as rejudge
use Rattle.fv_engine_pending.specs.Altering.{IsOneObject, most_rows}
use Rattle.fv_engine_pending.specs.Fits.{AreFitting, AreShort}
use Rattle.fv_engine_pending.specs.Parts.{are_misshapen}
use Rattle.fv_engine_pending.specs.Touched.{needs_record}
use Rattle.fv_engine_pending.specs.Ways.{Way, overlay, standing}
use Rattle.fv_declare_schema.specs.Groups.{numbers_of}
use Rattle.fv_declare_schema.specs.Judged.{unknown_group_in}
use Rattle.fv_bundle.specs.Bundles.{Thing, Bundled}
use Rattle.fv_model.specs.Reading.{value_read}
use Rattle.fv_bundle.specs.WellTyped.{AnyName}
use Rattle.fv_bundle.specs.Fits.{Fits}
use Rattle.fv_bundle.specs.Types.{TypeUse, Declared}
use Rattle.fv_validate.specs.Values.{field_use, valued}
use Rattle.fv_model.specs.declared.fault.BundleFault.{BundleFault}
use Rattle.fv_model.specs.declared.fault.BundleFault.TheVariants as fault
use Rattle.fv_registry.specs.Meanings.{Meanings}
use Rattle.fv_engine_reply.specs.Answers.{Answer, done, violated, unfit, refused, part_refused}
use Rattle.fv_validate.specs.Violations.{Judged, Reported}
use Rattle.fv_engine_reply.specs.declared.answer.Done.{Done}
use Rattle.fv_engine_reply.specs.declared.answer.Done.TheVariants as what
use Rattle.fv_engine_reply.specs.declared.answer.Refusal.{Refusal}
use Rattle.fv_engine_reply.specs.declared.answer.Refusal.TheVariants.{Shape, Bundle, UnknownGroup, NoSuchField, TooManyVisits, Store, Memory}
use Rattle.fv_walk.specs.Properties.{field_number}
use Rattle.fv_store.specs.Records.{Contents, Records}
use Rattle.fv_store.specs.Stands.{HoldsRecords}
use Rattle.sqlite.specs.State.{State, HasCleanDisk}
use Rattle.fv_validate.specs.declared.fault.ValidateFault.{ValidateFault}
use Rattle.fv_validate.specs.declared.fault.ValidateFault.TheVariants as validate

-- Nothing has changed, but that a failure may have shut the connection; else as much room is left. No fault is forgotten.
pub record Unchanged (old new : Machine Records) : Type 0 where
  pub declared : new.declared ≡ old.declared
  pub records : new.records ≡ old.records
  pub was_open : IsTrue new.is_open → IsTrue old.is_open
  pub counts : old.faults ≤ new.faults
  pub closes : IsTrue old.is_open → IsTrue new.is_open ⊎ MoreFaults old.faults new.faults
  pub room : IsTrue new.is_open → new.room ≡ old.room

-- These are the records now, and what is declared is as before; the connection was open and still is. So many rowids were given out, at most.
pub record Takes (m : Records) (given : ℕ) (old new : Machine Records) : Type 0 where
  pub declared : new.declared ≡ old.declared
  pub records : new.records ≡ m
  pub was_open : IsTrue old.is_open
  pub is_open : IsTrue new.is_open
  pub counts : old.faults ≤ new.faults
  pub room : old.room ≤ new.room + given

-- want of memory refuses, or the store, with its cause
abbrev pub Fails : Refusal → Type 0 → Type 0
Fails Memory cause = Unit {0}
Fails Store cause = cause
Fails _ cause = ⊥

-- The old database becomes the new one, where it stands for these records under declarations of these bytes: the new one stands for records
-- that are in the relation with them.
abbrev pub Moves : {H : Type 0} → (H → State) → Declarations → List ℕ → Records → H → H → (Machine Records → Machine Records → Type 0) → Type 0
Moves held ds bytes m old new relation = HasCleanDisk (held new) → HoldsRecords (held old) (contents bytes ds m)
    → (n : Records) × relation (with_map held (over held ds old) m) (with_map held (over held ds new) n) × HoldsRecords (held new) (contents bytes ds n)

-- what stands on the way fits, where an open database holds these records
abbrev pub FitsWhereHeld : State → Contents → Way → Type 0
FitsWhereHeld s c way = HasCleanDisk s → IsTrue s.is_open → HoldsRecords s c → AreFitting c.types c.roots way

-- how many rowids what stands on the way takes in a table, at most: none where one object is set
abbrev pub rows_on : Option (List ℕ) → Way → ℕ
rows_on None way = most_rows * length (standing way)
rows_on (Some object) way = 0

-- the database has room for what stands on the way, which takes so many rowids at most
abbrev pub HasRoomOn : ℕ → Way → Machine Records → Type 0
HasRoomOn given way old = (given < old.room) × AreShort way

-- the name of the object that is set, where the parts are one set
abbrev pub set_object : List Part → Option (List ℕ)
set_object (set id object field j ∷ []) = Some object
set_object _ = None

-- where there is a name, one object of that name was set in the records, and nothing else stands on the way
abbrev pub IsOneSet : Option (List ℕ) → Way → Records → Type 0
IsOneSet None way m = Unit {0}
IsOneSet (Some object) way m = (id : List ℕ) × IsOneObject id object way m

-- what stands on the way is stored; it takes so many rowids at most
abbrev pub Keeps : ℕ → Way → Done → Machine Records → Answer → Machine Records → Type 0
Keeps given way what old answer new =
    ((answer ≡ done what) × Takes (overlay way old.records) given old new)
    ⊎ ((why : Refusal) × Fails why (HasRoomOn given way old → StoreHasFailed old new) × (answer ≡ refused why) × Unchanged old new)

-- where these are no records, those that have violations, the others are the records, with so many rowids given out at most, and else these are told
abbrev pub TakesOrTells : Done → ℕ → List Judged → Records → Machine Records → Answer → Machine Records → Type 0
TakesOrTells what given [] m old answer new = (answer ≡ done what) × Takes m given old new
TakesOrTells what given (l ∷ ls) m old answer new = (answer ≡ violated (l ∷ ls)) × Unchanged old new

-- what stands on the way is judged, and stored where nothing of it has a violation
abbrev pub Settles : Meanings → ℤ → ℕ → Way → Done → Machine Records → Answer → Machine Records → Type 0
Settles means now given way what old answer new =
    (OneIsOverAmong old.declared (IsStanding way) × (answer ≡ refused TooManyVisits) × Unchanged old new)
    ⊎ (((ls : List Judged) × AreListingsOf means old.declared now (IsStanding way) ls × TakesOrTells what given ls (overlay way old.records) old answer new)
    ⊎ ((why : Refusal) × Fails why (AreListingsOf means old.declared now (IsStanding way) [] × (HasRoomOn given way old → StoreHasFailed old new))
    × (answer ≡ refused why) × Unchanged old new))

-- how the refusal of a part is told: in a batch with its number
abbrev pub told_part : Done → ℕ → Refusal → Answer
told_part what.Batch n why = part_refused n why
told_part _ n why = refused why

-- A request is a command of these parts, told so: it is refused where one of them is misshapen or can't be done, and else they are made; it
-- looks something up where one of them needs a record.
pub record IsCommand (r : Request) (parts : List Part) (what : Done) : Type 0 where
  pub short : is_too_long r ≡ false
  pub parts_are : batch_parts r ≡ parts
  pub refusal_is : (ds : Declarations) (m : Records) → refusal ds m r
      ≡ first_of (when (are_misshapen ds.types ds.forms parts) Shape ∷ told_fault (told_part what) (made ds parts m) ∷ [])
  pub serves : (means : Meanings) (ds : Declarations) (now : ℤ) (old : Records) (answer : Answer) (new : Records)
      → Changes means ds now parts what old answer new → Serves means ds now r old answer new
  pub needs : (ds : Declarations) → LooksUp ds r → (are_misshapen ds.types ds.forms parts ≡ false) × IsTrue (list_any needs_record parts)
  pub looks : (ds : Declarations) → are_misshapen ds.types ds.forms parts ≡ false → IsTrue (list_any needs_record parts) → LooksUp ds r

-- a command of these parts is handled so
abbrev pub ChangesSo : Meanings → ℤ → List Part → Done → Machine Records → Answer → Machine Records → Type 0
ChangesSo means now parts what old answer new = (r : Request) → IsCommand r parts what → Handles means now r old answer new

-- the refusal of a value that has a fault
abbrev pub misread : BundleFault → Refusal
misread fault.Memory = Memory
misread fault = Bundle fault

-- the refusal of a bundle, or of a field of an object, that isn't validated
abbrev pub unjudged : ValidateFault → Refusal
unjudged validate.UnknownGroup = UnknownGroup
unjudged validate.NoSuchField = NoSuchField
unjudged validate.TooManyVisits = TooManyVisits
unjudged validate.Memory = Memory

-- a bundle is checked for the groups of these names, unless one of them is no group's, or memory is refused
abbrev pub Checks : Meanings → Declarations → ℤ → Bundled → List (List ℕ) → Answer → Type 0
Checks means ds now b names answer =
    ((unknown_group_in ds.groups names ≡ true) × (answer ≡ refused UnknownGroup))
    ⊎ (((unknown_group_in ds.groups names ≡ false) × Checked means ds now b (numbers_of ds.groups names) answer) ⊎ (answer ≡ refused Memory))

-- the number of the field of that name in an object's type; none where the type has no such field
abbrev pub field_in : Declared → List ℕ → Thing → Option ℕ
field_in ts field object = field_number ts object.type_name field

-- the field of that name of an object is checked, or the type has no such field or there is no such object
abbrev pub FieldAnswers : Meanings → Declarations → ℤ → Option Thing → List ℕ → List (List ℕ) → (List Reported → Answer) → Answer → Type 0
FieldAnswers means ds now None field names lists answer = answer ≡ refused NoSuchField
FieldAnswers means ds now (Some o) field names lists answer =
    ((field_in ds.types field o ≡ None) × (answer ≡ refused NoSuchField))
    ⊎ (IsSome (field_in ds.types field o) × FieldChecked means ds now o field (numbers_of ds.groups names) lists answer)

-- the field of that name of an object is checked for the groups of these names, and its violations are told so, unless a name is no group's, or
-- then there is no such object or field, or memory is refused
abbrev pub ChecksField : Meanings → Declarations → ℤ → Option Thing → List ℕ → List (List ℕ) → (List Reported → Answer) → Answer → Type 0
ChecksField means ds now o field names lists answer =
    ((unknown_group_in ds.groups names ≡ true) × (answer ≡ refused UnknownGroup))
    ⊎ (((unknown_group_in ds.groups names ≡ false) × FieldAnswers means ds now o field names lists answer) ⊎ (answer ≡ refused Memory))

-- a value's JSON is read as what the field of that name in the type of that name holds: as nothing where there is no such field, else as the
-- datum, which is of that
abbrev pub IsReadAt : Declared → List ℕ → List ℕ → json.Data → Option Data → Type 0
IsReadAt ts type field j None = field_use ts type field ≡ None
IsReadAt ts type field j (Some d) = (held : TypeUse) × (field_use ts type field ≡ Some held) × (value_read held j ≡ Ok d) × Fits AnyName held d

-- it has a fault there, memory aside
abbrev pub IsMisreadAt : Declared → List ℕ → List ℕ → json.Data → BundleFault → Type 0
IsMisreadAt ts type field j why = (held : TypeUse) × (field_use ts type field ≡ Some held) × (why ≢ fault.Memory → value_read held j ≡ Err why)

-- a datum is of what the field of that name in the type of that name holds, and the field is there
abbrev pub IsValueOf : Declared → List ℕ → List ℕ → Data → Type 0
IsValueOf ts type field d = (held : TypeUse) × (field_use ts type field ≡ Some held) × Fits AnyName held d

-- the object with a datum in a field alone, where there is a datum
abbrev pub valued_by : Declared → List ℕ → List ℕ → Option Data → Option Thing
valued_by ts type field = option_map (valued ts type field)

-- the answer where a pass over all records doesn't judge them
abbrev pub told_pass : RejudgeFault → Answer
told_pass (rejudge.Unfit id why) = unfit (string_bytes id) (misfit why)
told_pass rejudge.TooManyVisits = refused TooManyVisits
told_pass rejudge.Store = refused Store
told_pass rejudge.Memory = refused Memory
