-- Laws of a call, in a user's words: they are told of its reply, and follow from the step.
use Rattle.std.specs.Prelude.{◌≡◌, ◌≢◌, ◌⊎◌, ℕ, ℤ, IsTrue, false, List, [], Some, Ok}
use Rattle.std.specs.List.{AllByRecursion}
use Rattle.serde_json.specs.Data as json
use Rattle.sqlite.specs.Disk.{MoreFaults}
use Rattle.fv_declare_schema.specs.Declarations.{Declarations}
use Rattle.fv_engine_machine.specs.Causes.{HasRoomFor}
use Rattle.fv_engine_machine.specs.Machines.{Machine}
use Rattle.fv_engine_command.specs.Commands.{put, Request, alone, get, check, check_field, asked, redeclare, asks}
use Rattle.fv_declare_judging.specs.Declares.{Declares}
use Rattle.fv_engine_machine.specs.Redeclaring.{Reign}
use Rattle.fv_engine_pending.specs.Rejudging.{HasFewIds}
use Rattle.fv_registry.specs.Rules.{Known}
use Rattle.fv_store.specs.Causes.{IsShortAbout}
use Rattle.fv_engine_machine.specs.Refusals.{batch_parts}
use Rattle.fv_engine_machine.specs.Step.{IsTaken, Told}
use Rattle.fv_declare_schema.specs.Groups.{numbers_of}
use Rattle.fv_declare_schema.specs.Judged.{unknown_group_in}
use Rattle.fv_bundle.specs.Bundles.{Bundled}
use Rattle.fv_engine_pending.specs.Judging.{groups_of}
use Rattle.fv_engine_pending.specs.Parts.{bundle_under}
use Rattle.fv_engine_pending.specs.Touched.{IsTouched, needed_id}
use Rattle.fv_registry.specs.Meanings.{Meanings}
use Rattle.fv_engine_reply.specs.Answers.{Answer, done, shown, violated, checked, refused, redeclared, unfit}
use Rattle.fv_engine_reply.specs.Texts.{answer_text}
use Rattle.fv_engine_reply.specs.declared.answer.Done.{Done}
use Rattle.fv_engine_reply.specs.declared.answer.Done.TheVariants.{Put}
use Rattle.fv_engine_reply.specs.declared.answer.Refusal.TheVariants.{Store, Memory}
use Rattle.fv_local.specs.Requests.{asked_groups}
use Rattle.fv_widening.specs.Widens.{Widens}
use Rattle.fv_store.specs.Records.{Kept, Records}

-- the reply tells that a command that changes records was taken
abbrev pub IsDone : Done → List ℕ → Type 0
IsDone what reply = reply ≡ answer_text (done what)

-- the reply tells that declarations were changed
abbrev pub IsRedeclared : List ℕ → Type 0
IsRedeclared reply = reply ≡ answer_text redeclared

-- the reply tells that the store or memory failed
abbrev pub IsFailure : List ℕ → Type 0
IsFailure reply = (reply ≡ answer_text (refused Store)) ⊎ (reply ≡ answer_text (refused Memory))

-- What a taken put stored is what a get of its id on the next line shows, unless that get fails.
abbrev pub ShowsWhatWasPut : Meanings → Declarations → List ℕ → List ℕ → Records → Type 0
ShowsWhatWasPut means ds line reply new = (id form : List ℕ) (bundle : json.Data) → asked line ≡ alone (put id form bundle) → IsDone Put reply
    → (b : Bundled) × (bundle_under ds.types ds.forms form bundle ≡ Ok b)
    × ((next : List ℕ) (later : ℤ) (shows : List ℕ) (last : Records) → asked next ≡ get id → Told means ds new next later shows last
    → (shows ≡ answer_text (shown id form b)) ⊎ IsFailure shows)

-- A refusal changes no get, as it changes neither a record nor the declarations; only a reply that tells of a taken command may.
abbrev pub ChangesNoGet : List ℕ → Reign → Reign → Type 0
ChangesNoGet reply old new = ((what : Done) → IsDone what reply → ⊥) → (IsRedeclared reply → ⊥) → new ≡ old

-- no refusal for violations without one, nor of a record that has none
abbrev pub HasSome : Answer → Type 0
HasSome (violated ls) = (ls ≢ []) × AllByRecursion (λ l. l.1 ≢ []) ls
HasSome _ = Unit {0}

-- A refusal for violations lists at least one record, and of each record at least one violation.
abbrev pub ListsSome : List ℕ → Type 0
ListsSome reply = (answer : Answer) × (reply ≡ answer_text answer) × HasSome answer

-- Two taken puts of different ids may change places: each is taken at its moment, and they leave the same map.
abbrev pub MayChangePlaces : Meanings → Declarations → List ℕ → ℤ → List ℕ → Records → Records → Type 0
MayChangePlaces means ds line now reply old new = (id form : List ℕ) (bundle : json.Data) → asked line ≡ alone (put id form bundle) → IsDone Put reply
    → (next : List ℕ) (later : ℤ) (other form_there : List ℕ) (there : json.Data) → asked next ≡ alone (put other form_there there) → other ≢ id
    → (last : Records) → Told means ds new next later reply last
    → (mid : Records) × Told means ds old next later reply mid × Told means ds mid line now reply last

-- a request, other than a batch, that looks for the record of this id
abbrev pub LooksFor : Request → List ℕ → Type 0
LooksFor (alone p) id = needed_id p ≡ Some id
LooksFor (get i) id = i ≡ id
LooksFor (check i names) id = i ≡ id
LooksFor (check_field i object field names) id = i ≡ id
LooksFor _ id = ⊥

-- A get, a check, a checkfield, a set and a remove fail over a connection that is shut: they tell neither what is there nor that nothing is.
abbrev pub FailsWhereShut : List ℕ → List ℕ → Machine Records → Type 0
FailsWhereShut line reply old = (id : List ℕ) → LooksFor (asked line) id → old.is_open ≡ false → IsFailure reply

-- a command that changes records would be taken, but the database has no room for what it leaves
abbrev pub LacksRoom : Meanings → List ℕ → ℤ → Machine Records → Type 0
LacksRoom means line now old =
    (m : Records) × IsTaken means old.declared now (asked line) old.records m × (HasRoomFor (batch_parts (asked line)) m old → ⊥)

-- a line asks for other declarations, and these are too long for a row, or there are more ids than are looked at
abbrev pub LacksRoomForAll : List ℕ → Machine Records → Type 0
LacksRoomForAll line old = (given : List ℕ) × (asks line ≡ redeclare given) × (IsShortAbout given → HasFewIds old.records → ⊥)

-- Over an open connection whose disk doesn't fail, the store fails a line for want of room alone, or for more ids than a redeclare looks at.
abbrev pub FailsForRoomAlone : Meanings → List ℕ → ℤ → List ℕ → Machine Records → Machine Records → Type 0
FailsForRoomAlone means line now reply old new =
    reply ≡ answer_text (refused Store) → IsTrue old.is_open → (MoreFaults old.faults new.faults → ⊥)
    → LacksRoom means line now old ⊎ LacksRoomForAll line old

-- these are names of the form's groups, in order; each counts where it stands first, and none stand for `Default`
abbrev pub AreNamesOf : Declarations → List ℕ → List (List ℕ) → Type 0
AreNamesOf ds form names = (unknown_group_in ds.groups names ≡ false) × (asked_groups (numbers_of ds.groups names) ≡ asked_groups (groups_of ds form))

-- A taken command leaves nothing to list: a check of a record that it put or set for the groups of its form, on the next line and at the same
-- moment, finds no violation, unless that check fails.
abbrev pub LeavesNothingToList : Meanings → Declarations → List ℕ → ℤ → List ℕ → Records → Type 0
LeavesNothingToList means ds line now reply new = (what : Done) → IsDone what reply
    → (id : List ℕ) (kept : Kept) → IsTouched (batch_parts (asked line)) new id kept
    → (next : List ℕ) (names : List (List ℕ)) (lists : List ℕ) (last : Records) → asked next ≡ check id names
    → AreNamesOf ds kept.form names → Told means ds new next now lists last
    → (lists ≡ answer_text (checked [])) ⊎ IsFailure lists

-- ---- changed declarations

-- A taken redeclare changes no get: a get on the next line shows what one of the same id showed before it, unless one of both fails.
abbrev pub ShowsTheSame : Meanings → List ℕ → Reign → Reign → Type 0
ShowsTheSame means reply old new = IsRedeclared reply
    → (id next : List ℕ) → asked next ≡ get id
    → (before later : ℤ) (showed shows : List ℕ) (first last : Records)
    → Told means old.declared old.records next before showed first → Told means new.declared new.records next later shows last
    → (shows ≡ showed) ⊎ (IsFailure showed ⊎ IsFailure shows)

-- A taken redeclare leaves nothing to list: a check of any record for the groups of its form, on the next line and at the same moment, finds
-- no violation, unless that check fails.
abbrev pub LeavesNothingAtAll : Meanings → ℤ → List ℕ → Reign → Type 0
LeavesNothingAtAll means now reply new = IsRedeclared reply
    → (id : List ℕ) (kept : Kept) → new.records id ≡ Some kept
    → (next : List ℕ) (names : List (List ℕ)) (lists : List ℕ) (last : Records) → asked next ≡ check id names
    → AreNamesOf new.declared kept.form names → Told means new.declared new.records next now lists last
    → (lists ≡ answer_text (checked [])) ⊎ IsFailure lists

-- declarations have each type of others, with each of its fields, and each form with the same root; they may have more
abbrev pub OnlyAdd : Declarations → Declarations → Type 0
OnlyAdd old ds = Widens old.types old.forms ds.types ds.forms

-- no record is told not to fit
abbrev pub IsNoMisfit : Answer → Type 0
IsNoMisfit (unfit id why) = ⊥
IsNoMisfit _ = Unit {0}

-- Where all that a text declares only adds to what is in force, no record is told not to fit it.
abbrev pub FitsWhereAdded : Known → List ℕ → List ℕ → Reign → Type 0
FitsWhereAdded known line reply old = (given : List ℕ) → asks line ≡ redeclare given
    → ((ds : Declarations) → Declares known given (Ok ds) → OnlyAdd old.declared ds)
    → (answer : Answer) × (reply ≡ answer_text answer) × IsNoMisfit answer
