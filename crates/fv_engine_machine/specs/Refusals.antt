-- The refusals of a request, in their order.
use Rattle.std.specs.Prelude.{ℕ, List, [], ◌∷◌, Bool, true, false, not, if◌then◌else◌, Option, Some, None, is_some, option_map, option_and_then, Result}
use Rattle.std.specs.Result.{result_err}
use Rattle.fv_datum.specs.Lookup.{at_name}
use Rattle.fv_declare_schema.specs.Declarations.{Declarations}
use Rattle.fv_engine_command.specs.Commands.{Part, Request, too_long, not_json, shape, alone, batch, get, check, check_field, check_value, list}
use Rattle.fv_declare_schema.specs.Judged.{unknown_group_in}
use Rattle.fv_bundle.specs.Bundles.{Thing}
use Rattle.fv_model.specs.Reading.{value_read}
use Rattle.fv_engine_pending.specs.Parts.{parts_made, is_misshapen}
use Rattle.fv_engine_pending.specs.declared.fault.PartFault.{PartFault}
use Rattle.fv_engine_pending.specs.declared.fault.PartFault.TheVariants as part
use Rattle.fv_walk.specs.Properties.{field_number}
use Rattle.fv_engine_reply.specs.Answers.{Answer, refused, part_refused}
use Rattle.fv_engine_reply.specs.declared.answer.Refusal.{Refusal}
use Rattle.fv_engine_reply.specs.declared.answer.Refusal.TheVariants.{LineTooLong, NotJson, Shape, UnknownForm, Bundle, NoRecord, UnknownGroup, NoSuchField, Memory}
use Rattle.fv_store.specs.Records.{Records}
use Rattle.fv_validate.specs.Values.{field_use}
use Rattle.std.specs.List.{list_any}

-- ---- the conditions

-- a line of more than 1,048,576 bytes
abbrev pub is_too_long : Request → Bool
is_too_long too_long = true
is_too_long _ = false

-- a line that is no JSON
abbrev pub is_no_json : Request → Bool
is_no_json not_json = true
is_no_json _ = false

-- the parts of a command that changes records; none of another request
abbrev pub batch_parts : Request → List Part
batch_parts (alone p) = p ∷ []
batch_parts (batch ps) = ps
batch_parts _ = []

-- no command, or one of the puts of a command has a bundle that isn't of a bundle's form
abbrev pub is_misshapen_line : Declarations → Request → Bool
is_misshapen_line ds shape = true
is_misshapen_line ds r = list_any (is_misshapen ds.types ds.forms) (batch_parts r)

-- a list whose form isn't declared
abbrev pub lacks_form : Declarations → Request → Bool
lacks_form ds (list form after limit) = not (is_some (at_name form ds.forms))
lacks_form ds _ = false

-- the fault of the value of a checkvalue whose field is there
abbrev pub value_fault : Declarations → Request → Option Answer
value_fault ds (check_value type field value names) =
    option_and_then (λ u. option_map (λ f. refused (Bundle f)) (result_err (value_read u value))) (field_use ds.types type field)
value_fault ds _ = None

-- the refusal that a part's fault is
abbrev pub part_refusal : PartFault → Refusal
part_refusal part.UnknownForm = UnknownForm
part_refusal (part.Bundle fault) = Bundle fault
part_refusal part.NoRecord = NoRecord
part_refusal part.Memory = Memory

-- the records that parts leave, made in order, or the first part that can't be done
abbrev pub made : Declarations → List Part → Records → Result Records (ℕ × PartFault)
made ds parts m = parts_made ds.types ds.forms 0 parts m

-- the first part that can't be done, told so by its number and its refusal
abbrev pub told_fault : (ℕ → Refusal → Answer) → Result Records (ℕ × PartFault) → Option Answer
told_fault tells r = option_map (λ e. tells e.0 (part_refusal e.1)) (result_err r)

-- the first part of a command that can't be done: in a batch it is told with its number
abbrev pub part_fault : Declarations → Records → Request → Option Answer
part_fault ds m (alone p) = told_fault (λ n why. refused why) (made ds (p ∷ []) m)
part_fault ds m (batch ps) = told_fault part_refused (made ds ps m)
part_fault ds m _ = None

-- a get, a check or a checkfield whose id has no record
abbrev pub lacks_record : Records → Request → Bool
lacks_record m (get id) = not (is_some (m id))
lacks_record m (check id names) = not (is_some (m id))
lacks_record m (check_field id object field names) = not (is_some (m id))
lacks_record m _ = false

-- a check of any sort that names a group that isn't declared
abbrev pub lacks_group : Declarations → Request → Bool
lacks_group ds (check id names) = unknown_group_in ds.groups names
lacks_group ds (check_field id object field names) = unknown_group_in ds.groups names
lacks_group ds (check_value type field value names) = unknown_group_in ds.groups names
lacks_group ds _ = false

-- a checkfield whose record has no such object, or whose object's type has no such field; a checkvalue whose type isn't declared or has no
-- such field
abbrev pub lacks_field : Declarations → Records → Request → Bool
lacks_field ds m (check_field id object field names) =
    not (is_some (option_and_then (λ (o : Thing). field_number ds.types o.type_name field)
    (option_and_then (λ kept. at_name object kept.bundle.objects) (m id))))
lacks_field ds m (check_value type field value names) = not (is_some (field_use ds.types type field))
lacks_field ds m _ = false

-- ---- the order

-- the refusal, where its condition holds
abbrev pub when : Bool → Refusal → Option Answer
when condition why = if condition then Some (refused why) else None

-- the first of these that is there
abbrev pub first_of : List (Option Answer) → Option Answer
first_of [] = None
first_of (Some answer ∷ rest) = Some answer
first_of (None ∷ rest) = first_of rest

-- the first refusal whose condition holds, if there is one, of those that need no judging: a fault of the form of a bundle stands before the
-- others, as it is told as Shape; the faults of a command's parts are told by the first part that has one
abbrev pub refusal : Declarations → Records → Request → Option Answer
refusal ds m r = first_of (
    when (is_too_long r) LineTooLong  -- C1
    ∷ when (is_no_json r) NotJson  -- C2
    ∷ when (is_misshapen_line ds r) Shape  -- C3
    ∷ when (lacks_form ds r) UnknownForm  -- C4 of a list
    ∷ value_fault ds r  -- C5 of a checkvalue
    ∷ part_fault ds m r  -- C4, C5 and C6 of parts
    ∷ when (lacks_record m r) NoRecord  -- C6 of a get, a check and a checkfield
    ∷ when (lacks_group ds r) UnknownGroup  -- C7
    ∷ when (lacks_field ds m r) NoSuchField  -- C8
    ∷ [])
