-- The texts of answers: each the compact text of one JSON object, its members ascending.
use Rattle.std.specs.Prelude.{◌≡◌, ◌⊎◌, ℕ, List, Option, Some, None, codes, map, [], ◌∷◌, ◌++◌}
use Rattle.std.specs.Option.{option_map_or}
use Rattle.serde_json.specs.Data as json
use Rattle.serde_json.specs.View.{items_of}
use Rattle.serde_json.specs.Written.{compact_text}
use Rattle.fv_declare_judging.specs.FaultNames.{decl_fault_code}
use Rattle.fv_model.specs.FaultNames.{bundle_fault_code}
use Rattle.fv_bundle.specs.Writing.{datum_json}
use Rattle.fv_model.specs.Writing.{bundle_json}
use Rattle.fv_validate.specs.Violations.{Judged, Reported}
use Rattle.fv_engine_reply.specs.Answers.{Answer, done, shown, violated, checked, field_checked, value_checked, ids, refused, part_refused, redeclared, misdeclared, unfit}
use Rattle.fv_engine_reply.specs.declared.answer.Done.{Done}
use Rattle.fv_engine_reply.specs.declared.answer.Done.TheVariants as what
use Rattle.fv_engine_reply.specs.declared.answer.Misfit.{Misfit}
use Rattle.fv_engine_reply.specs.declared.answer.Misfit.TheVariants as misfit
use Rattle.fv_engine_reply.specs.declared.answer.Refusal.{Refusal}
use Rattle.fv_engine_reply.specs.declared.answer.Refusal.TheVariants.{LineTooLong, NotJson, Shape, UnknownForm, Bundle, NoRecord, UnknownGroup, NoSuchField, TooManyVisits, Store, Memory}

-- ---- violations

-- the members of a JSON object: names with values
abbrev pub reply_members : List (List ℕ × json.Data) → json.Members
reply_members [] = json.no_members
reply_members (m ∷ ms) = json.member m.0 m.1 (reply_members ms)

-- a violation's JSON
abbrev pub violation_json : Reported → json.Data
violation_json v = json.object (reply_members (
    (codes "constraint", json.string v.constraint) ∷ (codes "message", json.string v.message)
    ∷ (codes "occurrence", json.number (json.unsigned v.occurrence)) ∷ (codes "path", json.string v.path) ∷ (codes "value", datum_json v.value) ∷ []))

-- the JSON of violations, in their order
abbrev pub violations_json : List Reported → json.Data
violations_json vs = json.array (items_of (map violation_json vs))

-- a record's id with its violations
abbrev pub judged_json : Judged → json.Data
judged_json r = json.object (reply_members ((codes "id", json.string r.0) ∷ (codes "violations", violations_json r.1) ∷ []))

-- ---- other refusals

-- a refusal's code and name
abbrev pub refusal_told : Refusal → List ℕ × List ℕ
refusal_told LineTooLong = (codes "C1", codes "LineTooLong")
refusal_told NotJson = (codes "C2", codes "NotJson")
refusal_told Shape = (codes "C3", codes "Shape")
refusal_told UnknownForm = (codes "C4", codes "UnknownForm")
refusal_told (Bundle fault) = (codes "C5", codes "Bundle")
refusal_told NoRecord = (codes "C6", codes "NoRecord")
refusal_told UnknownGroup = (codes "C7", codes "UnknownGroup")
refusal_told NoSuchField = (codes "C8", codes "NoSuchField")
refusal_told TooManyVisits = (codes "C9", codes "TooManyVisits")
refusal_told Store = (codes "C11", codes "Store")
refusal_told Memory = (codes "C12", codes "Memory")

-- the code of a bundle's fault, where a bundle is refused
abbrev pub fault_member : Refusal → List (List ℕ × json.Data)
fault_member (Bundle fault) = (codes "fault", json.string (bundle_fault_code fault)) ∷ []
fault_member why = []

-- the JSON of a refusal, in a batch with the number of the part
abbrev pub refused_json : Option ℕ → Refusal → json.Data
refused_json part why = json.object (reply_members (
    ((codes "error", json.string (refusal_told why).0) ∷ fault_member why)
    ++ (codes "name", json.string (refusal_told why).1) ∷ option_map_or (λ n. (codes "part", json.number (json.unsigned n)) ∷ []) part []))

-- ---- records that don't fit other declarations

-- the code that tells why a record doesn't fit
abbrev pub misfit_code : Misfit → List ℕ
misfit_code misfit.UnknownForm = codes "C4"
misfit_code (misfit.Bundle fault) = bundle_fault_code fault

-- ---- answers

-- the name of what was done
abbrev pub done_name : Done → List ℕ
done_name what.Put = codes "put"
done_name what.Set = codes "set"
done_name what.Remove = codes "remove"
done_name what.Batch = codes "batch"

-- the JSON of the violations that a check of that name lists
abbrev pub listing_json : List ℕ → List Reported → json.Data
listing_json name vs = json.object (reply_members ((codes "ok", json.string name) ∷ (codes "violations", violations_json vs) ∷ []))

-- an answer's JSON
abbrev pub answer_json : Answer → json.Data
answer_json (done what) = json.object (reply_members ((codes "ok", json.string (done_name what)) ∷ []))
answer_json (shown id form b) = json.object (reply_members (
    (codes "bundle", bundle_json b) ∷ (codes "form", json.string form) ∷ (codes "id", json.string id) ∷ (codes "ok", json.string (codes "get")) ∷ []))
answer_json (violated rs) = json.object (reply_members (
    (codes "error", json.string (codes "C10")) ∷ (codes "name", json.string (codes "Violations"))
    ∷ (codes "records", json.array (items_of (map judged_json rs))) ∷ []))
answer_json (checked vs) = listing_json (codes "check") vs
answer_json (field_checked vs) = listing_json (codes "checkfield") vs
answer_json (value_checked vs) = listing_json (codes "checkvalue") vs
answer_json (ids ts) = json.object (reply_members (
    (codes "ids", json.array (items_of (map (λ t. json.string t) ts))) ∷ (codes "ok", json.string (codes "list")) ∷ []))
answer_json (refused why) = refused_json None why
answer_json (part_refused n why) = refused_json (Some n) why
answer_json redeclared = json.object (reply_members ((codes "ok", json.string (codes "redeclare")) ∷ []))
answer_json (misdeclared fault) = json.object (reply_members (
    (codes "error", json.string (codes "C13")) ∷ (codes "fault", json.string (decl_fault_code fault))
    ∷ (codes "name", json.string (codes "Declarations")) ∷ []))
answer_json (unfit id why) = json.object (reply_members (
    (codes "error", json.string (codes "C14")) ∷ (codes "fault", json.string (misfit_code why))
    ∷ (codes "id", json.string id) ∷ (codes "name", json.string (codes "Unfit")) ∷ []))

-- its text
abbrev pub answer_text : Answer → List ℕ
answer_text a = compact_text (answer_json a)

-- ---- what may be told instead

-- an answer whose text takes memory
abbrev pub TakesMemory : Answer → Type 0
TakesMemory (done what) = ⊥
TakesMemory (refused (Bundle fault)) = Unit {0}
TakesMemory (refused why) = ⊥
TakesMemory redeclared = ⊥
TakesMemory _ = Unit {0}

-- a text tells an answer: it is the answer's, or that of want of memory, where the answer's takes some
abbrev pub Tells : List ℕ → Answer → Type 0
Tells text a = (text ≡ answer_text a) ⊎ (TakesMemory a × (text ≡ answer_text (refused Memory)))
