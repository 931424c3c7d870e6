-- What is asked of the service, and its reply.
use Rattle.std.proofs.Common.{◌≡◌, ◌≢◌, ◌≤◌, ◌<◌, ℕ, ℤ, length, if◌then◌else◌, List, Bool, false, Option, None, Some, inl, inr, refl, sym, ap, subst, ◌∙◌, arith}
use Rattle.std.specs.Option.{option_map_or, unwrap_or}
use Rattle.serde_json.specs.Data as json
use Rattle.fv_datum.specs.Parsing.{json_of}
use Rattle.fv_engine_command.specs.Commands.{Asked, redeclare, of_records, Request, too_long, shape, command_of, redeclare_of, asks, asks_json}
use Rattle.fv_declare_schema.specs.Declarations.{Declarations}
use Rattle.fv_engine_machine.specs.Judges.{AnswersBare, Judges, RepliesBare, bare}
use Rattle.fv_engine_machine.specs.Redeclaring.{RedeclareStep, Refits, JudgesAll, Reign}
use Rattle.fv_engine_machine.specs.Refusals.{is_too_long}
use Rattle.fv_engine_machine.specs.Services.{Attends, Replies, Responds, Service, reign_of, text_after}
use Rattle.fv_engine_machine.proofs.Becoming.{above, out_of_memory, refused_at_once, short_command, stays_itself, told_memory, within}
use Rattle.fv_engine_reply.specs.Answers.{Answer, done, shown, violated, checked, field_checked, value_checked, ids, refused, part_refused, redeclared, misdeclared, unfit}
use Rattle.fv_engine_reply.specs.Texts.{answer_text, TakesMemory, Tells}
use Rattle.fv_engine_reply.specs.declared.answer.Refusal.TheVariants.{LineTooLong, Memory}
use Rattle.fv_declare_schema.specs.Declarations.{Declarations}
use Rattle.fv_registry.specs.Meanings.{Meanings}
use Rattle.fv_registry.specs.Rules.{Known}
use Rattle.fv_store.specs.Records.{Records}

-- ---- where declarations aren't changed, all stays

module _ (known : Known) (means : Meanings) (given : List ℕ) (now : ℤ) (old new : Reign) (answer : Answer) (other : answer ≢ redeclared) where
  judged_rests : (ds : Declarations) → JudgesAll means ds now old answer new → new ≡ old
  judged_rests ds (inl over) = over.2
  judged_rests ds (inr (inl taken)) = absurd (other taken.1)
  judged_rests ds (inr (inr told)) = told.4

  refits_rests : (ds : Declarations) → Refits means ds now old answer new → new ≡ old
  refits_rests ds (inl unfits) = unfits.4
  refits_rests ds (inr all) = judged_rests ds all.1

  pub redeclare_rests : RedeclareStep known means old given now answer new → new ≡ old
  redeclare_rests (inl (inl misdeclares)) = misdeclares.3
  redeclare_rests (inl (inr declares)) = refits_rests declares.0 declares.2
  redeclare_rests (inr (inl memory)) = memory.1
  redeclare_rests (inr (inr store)) = store.2

pub text_stays : (answer : Answer) (given text : List ℕ) → answer ≢ redeclared → text_after answer given text ≡ text
text_stays (done what) given text other = refl
text_stays (shown id form b) given text other = refl
text_stays (violated ls) given text other = refl
text_stays (checked vs) given text other = refl
text_stays (field_checked vs) given text other = refl
text_stays (value_checked vs) given text other = refl
text_stays (ids found) given text other = refl
text_stays (refused why) given text other = refl
text_stays (part_refused n why) given text other = refl
text_stays redeclared given text other = absurd (other refl)
text_stays (misdeclared fault) given text other = refl
text_stays (unfit id why) given text other = refl

-- ---- replies

-- what is asked isn't a line that is too long
abbrev pub IsShort : Asked → Type 0
IsShort (redeclare given) = Unit {0}
IsShort (of_records r) = is_too_long r ≡ false

module _ (means : Meanings) (now : ℤ) where
  memory_told : (a : Asked) → IsShort a → (x y : Service Records) (answer : Answer) → TakesMemory answer → Attends means now a x answer y → Attends means now a x (refused Memory) y
  memory_told (redeclare given) short x y answer takes (step, causes) =
      let other : answer ≢ redeclared = λ e. subst TakesMemory e takes in (
        inr (inl (refl, redeclare_rests x.known means given now (reign_of x) (reign_of y) answer other step)),
        record {
          known = causes.known;
          written = causes.written;
          text = causes.text ∙ text_stays answer given x.text other;
          counts = causes.counts;
          was_open = causes.was_open;
          closes = causes.closes;
          room = causes.room;
          live = λ of. absurd of;
          cause = λ e. cc;
        },
      )
  memory_told (of_records r) short x y answer takes (handles, text, known) = (told_memory means now r short x.machine y.machine answer takes handles, text, known)

  -- a text that tells an answer is a reply, also where memory was refused for it
  pub told_answer : (a : Asked) → IsShort a → (x y : Service Records) (answer : Answer) (text : List ℕ) → Tells text answer → Attends means now a x answer y → Replies means now a x text y
  told_answer a short x y answer text (inl is) attends = (answer, is, attends)
  told_answer a short x y answer text (inr made) attends = (refused Memory, made.1, memory_told a short x y answer made.0 attends)

  -- want of memory refuses anything but a line that is too long
  pub memory_refused : (a : Asked) → IsShort a → (x : Service Records) → Attends means now a x (refused Memory) x
  memory_refused (redeclare given) short x = (
    inr (inl (refl, refl)),
    record { known = refl; text = refl; written = refl; counts = omega arith; was_open = λ is. is; closes = λ is. inl is; room = λ is. omega arith; live = λ of. absurd of; cause = λ e. cc },
  )
  memory_refused (of_records r) short x = (out_of_memory means now r x.machine x.machine (stays_itself x.machine) short, refl, refl)

-- what a value asks for is short
short_by : (o : Option (List ℕ)) (r : Request) → is_too_long r ≡ false → IsShort (option_map_or redeclare o (of_records r))
short_by None r short = short
short_by (Some given) r short = tt

pub short_asked : (j : json.Data) → IsShort (asks_json (Some j))
short_asked j = short_by (redeclare_of j) (unwrap_or (command_of j) shape) (short_command j)

pub short_asks : (o : Option json.Data) → IsShort (asks_json o)
short_asks None = refl
short_asks (Some j) = short_asked j

-- ---- lines

asks_short : (line : List ℕ) → length line ≤ 1048576 → asks line ≡ asks_json (json_of line)
unfolding asks
asks_short line short = ap (λ (b : Bool). if b then of_records too_long else asks_json (json_of line)) (within (length line) 1048576 short)

asks_long : (line : List ℕ) → 1048576 < length line → asks line ≡ of_records too_long
unfolding asks
asks_long line long = ap (λ (b : Bool). if b then of_records too_long else asks_json (json_of line)) (above (length line) 1048576 long)

-- a line that is over the limit is told so
pub long_responds : (means : Meanings) (line : List ℕ) (moment : ℤ) (text : List ℕ) → 1048576 < length line → text ≡ answer_text (refused LineTooLong) → (x : Service Records) → Responds means x line moment text x
long_responds means line moment text long is x = (
  refused LineTooLong,
  is,
  subst (λ (a : Asked). Attends means moment a x (refused LineTooLong) x) (sym (asks_long line long)) (refused_at_once means moment too_long x.machine LineTooLong refl tt refl, refl, refl),
)

-- one that isn't, by its JSON
pub short_responds : (means : Meanings) (line : List ℕ) (moment : ℤ) (text : List ℕ) → length line ≤ 1048576 → (x y : Service Records) → Replies means moment (asks_json (json_of line)) x text y
    → Responds means x line moment text y
short_responds means line moment text short x y told = (told.0, told.1, subst (λ (a : Asked). Attends means moment a x told.0 y) (sym (asks_short line short)) told.2)

-- the same where there is no record and no store
module _ (known : Known) (means : Meanings) (ds : Declarations) (line : List ℕ) (moment : ℤ) (text : List ℕ) where
  pub long_judged : 1048576 < length line → text ≡ answer_text (refused LineTooLong) → Judges known means ds line moment text
  long_judged long is = (
    refused LineTooLong,
    is,
    subst (λ (a : Asked). AnswersBare known means ds moment a (refused LineTooLong)) (sym (asks_long line long)) (λ e. cc, (bare ds, (inl (inl (refl, refl)), refl))),
  )

  pub short_judged : length line ≤ 1048576 → RepliesBare known means ds moment (asks_json (json_of line)) text → Judges known means ds line moment text
  short_judged short told = (told.0, told.1, subst (λ (a : Asked). AnswersBare known means ds moment a told.0) (sym (asks_short line short)) told.2)
