-- The step of the record machine: what a line does to a map from ids to records, and the answer.
use Rattle.std.specs.Prelude.{◌≡◌, ◌≢◌, ◌⊎◌, ℕ, ℤ, IsTrue, Bool, true, false, List, [], ◌∷◌, Some, None, Ok, unwrap_or, is_some}
use Rattle.std.specs.List.{list_any}
use Rattle.fv_datum.specs.Data.{Data}
use Rattle.fv_datum.specs.Lookup.{at_name}
use Rattle.fv_declare_schema.specs.Declarations.{Declarations}
use Rattle.fv_engine_machine.specs.Refusals.{is_misshapen_line, is_too_long, lacks_form, made, batch_parts, refusal}
use Rattle.fv_engine_command.specs.Commands.{Part, put, set, remove, Request, alone, batch, get, check, check_field, check_value, list, asked}
use Rattle.fv_engine_pending.specs.Touched.{needed_id, IsTouched}
use Rattle.fv_declare_schema.specs.Groups.{numbers_of}
use Rattle.fv_bundle.specs.Bundles.{Thing, Bundled}
use Rattle.fv_model.specs.Reading.{value_read}
use Rattle.fv_engine_pending.specs.Judging.{OneIsOverAmong, AreListingsOf}
use Rattle.fv_registry.specs.Meanings.{Meanings}
use Rattle.fv_engine_reply.specs.Answers.{Answer, done, shown, violated, checked, field_checked, value_checked, ids, refused}
use Rattle.fv_validate.specs.Violations.{Judged, Reported, IsListing, IsListingOfField}
use Rattle.fv_engine_reply.specs.Texts.{answer_text}
use Rattle.fv_engine_reply.specs.declared.answer.Done.{Done}
use Rattle.fv_engine_reply.specs.declared.answer.Done.TheVariants.{Put, Set, Remove, Batch}
use Rattle.fv_engine_reply.specs.declared.answer.Refusal.TheVariants.{TooManyVisits, Store, Memory}
use Rattle.fv_store.specs.Lists.{Lists}
use Rattle.fv_store.specs.Records.{Kept, Records}
use Rattle.fv_bundle.specs.Types.{TypeUse}
use Rattle.fv_validate.specs.Values.{field_use, valued}
use Rattle.fv_walk.specs.FieldVisits.{HasTooManyVisitsAt, HasFewVisitsAt}
use Rattle.fv_walk.specs.Visits.{HasTooManyVisits, HasFewVisits}

-- what a part by itself does, as it is told
abbrev pub done_by : Part → Done
done_by (put id form j) = Put
done_by (set id object field j) = Set
done_by (remove id) = Remove

-- What the parts of a command are answered at a moment, and the new map. They are made in order in a copy of the old map, and each record that
-- they put or set there is judged. If one of these has too many visits, the parts are refused for that; if none has a violation, they are
-- taken, and the copy is the new map; else they are refused, with each record that has violations. Where they are refused the old map stays.
abbrev pub Changes : Meanings → Declarations → ℤ → List Part → Done → Records → Answer → Records → Type 0
Changes means ds now parts what old answer new = (copy : Records) × (made ds parts old ≡ Ok copy)
    × ((OneIsOverAmong ds (IsTouched parts copy) × (answer ≡ refused TooManyVisits) × (new ≡ old))
    ⊎ ((AreListingsOf means ds now (IsTouched parts copy) [] × (answer ≡ done what) × (new ≡ copy))
    ⊎ ((ls : List Judged) × AreListingsOf means ds now (IsTouched parts copy) ls × (ls ≢ []) × (answer ≡ violated ls) × (new ≡ old))))

-- a bundle is checked at a moment for groups: it has too many visits, or these are its violations
abbrev pub Checked : Meanings → Declarations → ℤ → Bundled → List ℕ → Answer → Type 0
Checked means ds now b groups answer =
    (HasTooManyVisits ds b groups × (answer ≡ refused TooManyVisits))
    ⊎ ((vs : List Reported) × HasFewVisits ds b groups × IsListing means ds now b groups vs × (answer ≡ checked vs))

-- the same for a field of an object by itself; `lists` is how its violations are told
abbrev pub FieldChecked : Meanings → Declarations → ℤ → Thing → List ℕ → List ℕ → (List Reported → Answer) → Answer → Type 0
FieldChecked means ds now object field groups lists answer =
    (HasTooManyVisitsAt ds object groups × (answer ≡ refused TooManyVisits))
    ⊎ ((vs : List Reported) × HasFewVisitsAt ds object groups × IsListingOfField means ds now object field groups vs × (answer ≡ lists vs))

-- what a request that nothing refuses does at a moment
abbrev pub Serves : Meanings → Declarations → ℤ → Request → Records → Answer → Records → Type 0
Serves means ds now (alone p) old answer new = Changes means ds now (p ∷ []) (done_by p) old answer new
Serves means ds now (batch ps) old answer new = Changes means ds now ps Batch old answer new
Serves means ds now (get id) old answer new = (kept : Kept) × (old id ≡ Some kept) × (answer ≡ shown id kept.form kept.bundle) × (new ≡ old)
Serves means ds now (check id names) old answer new =
    (kept : Kept) × (old id ≡ Some kept) × Checked means ds now kept.bundle (numbers_of ds.groups names) answer × (new ≡ old)
Serves means ds now (check_field id object field names) old answer new =
    (kept : Kept) × (old id ≡ Some kept) × ((o : Thing) × (at_name object kept.bundle.objects ≡ Some o)
    × FieldChecked means ds now o field (numbers_of ds.groups names) field_checked answer) × (new ≡ old)
Serves means ds now (check_value type field value names) old answer new =
    (held : TypeUse) × (field_use ds.types type field ≡ Some held) × ((d : Data) × (value_read held value ≡ Ok d)
    × FieldChecked means ds now (valued ds.types type field d) field (numbers_of ds.groups names) value_checked answer) × (new ≡ old)
-- above the id that is told, else above the empty text, which is below each id
Serves means ds now (list form after limit) old answer new =
    (found : List (List ℕ)) × Lists old form (unwrap_or after []) limit found × (answer ≡ ids found) × (new ≡ old)
Serves means ds now _ old answer new = ⊥

-- a request is told its first refusal, if it has one, and is else served
abbrev pub Answers : Meanings → Declarations → ℤ → Request → Records → Answer → Records → Type 0
Answers means ds now r old answer new =
    ((refusal ds old r ≡ Some answer) × (new ≡ old)) ⊎ ((refusal ds old r ≡ None) × Serves means ds now r old answer new)

-- it is a command that is taken, and these are the records then
abbrev pub IsTaken : Meanings → Declarations → ℤ → Request → Records → Records → Type 0
IsTaken means ds now r old new = (what : Done) × Answers means ds now r old (done what) new

-- a request that looks for what stands at an id, or for the ids of a form
abbrev pub looks_up : Request → Bool
looks_up (get id) = true
looks_up (check id names) = true
looks_up (check_field id object field names) = true
looks_up (list form after limit) = true
looks_up r = list_any (λ p. is_some (needed_id p)) (batch_parts r)

-- one that does so, as it isn't refused before
abbrev pub LooksUp : Declarations → Request → Type 0
LooksUp ds r = IsTrue (looks_up r) × (is_misshapen_line ds r ≡ false) × (lacks_form ds r ≡ false)

-- From the old map, the request at the moment has the answer and leaves the new one. Beside its answer, want of memory may refuse any request
-- but a line that is too long, and the store one that looks something up or would be taken; nothing changes then.
abbrev pub Step : Meanings → Declarations → Records → Request → ℤ → Answer → Records → Type 0
Step means ds old r moment answer new =
    Answers means ds moment r old answer new
    ⊎ (((answer ≡ refused Memory) × (is_too_long r ≡ false) × (new ≡ old))
    ⊎ ((answer ≡ refused Store) × (LooksUp ds r ⊎ ((copy : Records) × IsTaken means ds moment r old copy)) × (new ≡ old)))

-- the step of what a line asks for of the records (`asked`), told by the text of its answer
abbrev pub Told : Meanings → Declarations → Records → List ℕ → ℤ → List ℕ → Records → Type 0
Told means ds old line moment text new = (answer : Answer) × (text ≡ answer_text answer) × Step means ds old (asked line) moment answer new
