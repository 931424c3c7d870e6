-- No float is written of violations, of ids and of refusals.
use Rattle.std.proofs.Common.{◌≡◌, ◌||◌, ℕ, Bool, false, List, [], ◌∷◌, Option, Some, None, refl, map}
use Rattle.serde_json.specs.Data as json
use Rattle.serde_json.specs.View.{items_of}
use Rattle.serde_json.specs.Written.{has_float, items_have_float}
use Rattle.fv_bundle.specs.Writing.{datum_json}
use Rattle.fv_engine_reply.specs.Answers.{violated, ids}
use Rattle.fv_validate.specs.Violations.{Judged}
use Rattle.fv_engine_reply.specs.Texts.{violation_json, judged_json, listing_json, refused_json, answer_json}
use Rattle.fv_engine_reply.specs.declared.answer.Refusal.{Refusal}
use Rattle.fv_engine_reply.specs.declared.answer.Refusal.TheVariants.{LineTooLong, NotJson, Shape, UnknownForm, Bundle, NoRecord, UnknownGroup, NoSuchField, TooManyVisits, Store, Memory}
use Rattle.fv_model.proofs.NoFloats.{datum_json_float}
use Rattle.fv_validate.specs.Violations.{Reported}

neither : (a b : Bool) → a ≡ false → b ≡ false → (a || b) ≡ false
neither a b p q = rw (p, q) refl

violation_whole : (v : Reported) → has_float (violation_json v) ≡ false
violation_whole v = neither (has_float (datum_json v.value)) false (datum_json_float v.value) refl

violations_whole : (vs : List Reported) → items_have_float (items_of (map violation_json vs)) ≡ false
violations_whole [] = refl
violations_whole (v ∷ vs) = neither (has_float (violation_json v)) _ (violation_whole v) (violations_whole vs)

record_whole : (r : Judged) → has_float (judged_json r) ≡ false
record_whole r = let inner : items_have_float (items_of (map violation_json r.1)) ≡ false = violations_whole r.1 in rw inner refl

records_whole : (rs : List Judged) → items_have_float (items_of (map judged_json rs)) ≡ false
records_whole [] = refl
records_whole (r ∷ rs) = neither (has_float (judged_json r)) _ (record_whole r) (records_whole rs)

pub violated_whole : (rs : List Judged) → has_float (answer_json (violated rs)) ≡ false
violated_whole rs = let inner : items_have_float (items_of (map judged_json rs)) ≡ false = records_whole rs in rw inner refl

pub listing_whole : (name : List ℕ) (vs : List Reported) → has_float (listing_json name vs) ≡ false
listing_whole name vs = let inner : items_have_float (items_of (map violation_json vs)) ≡ false = violations_whole vs in rw inner refl

texts_whole : (ts : List (List ℕ)) → items_have_float (items_of (map (λ t. json.string t) ts)) ≡ false
texts_whole [] = refl
texts_whole (t ∷ ts) = texts_whole ts

pub ids_whole : (ts : List (List ℕ)) → has_float (answer_json (ids ts)) ≡ false
ids_whole ts = let inner : items_have_float (items_of (map (λ t. json.string t) ts)) ≡ false = texts_whole ts in rw inner refl

pub refused_whole : (part : Option ℕ) (why : Refusal) → has_float (refused_json part why) ≡ false
refused_whole None LineTooLong = refl
refused_whole (Some n) LineTooLong = refl
refused_whole None NotJson = refl
refused_whole (Some n) NotJson = refl
refused_whole None Shape = refl
refused_whole (Some n) Shape = refl
refused_whole None UnknownForm = refl
refused_whole (Some n) UnknownForm = refl
refused_whole None (Bundle fault) = refl
refused_whole (Some n) (Bundle fault) = refl
refused_whole None NoRecord = refl
refused_whole (Some n) NoRecord = refl
refused_whole None UnknownGroup = refl
refused_whole (Some n) UnknownGroup = refl
refused_whole None NoSuchField = refl
refused_whole (Some n) NoSuchField = refl
refused_whole None TooManyVisits = refl
refused_whole (Some n) TooManyVisits = refl
refused_whole None Store = refl
refused_whole (Some n) Store = refl
refused_whole None Memory = refl
refused_whole (Some n) Memory = refl
