-- A line is judged where there is no record and no store: what a service without any record answers.
use Rattle.std.specs.Prelude.{◌≡◌, ◌≢◌, ◌⊎◌, ℕ, ℤ, List, [], ◌∷◌}
use Rattle.fv_declare_schema.specs.Declarations.{Declarations}
use Rattle.fv_engine_command.specs.Commands.{Asked, Part, Request, asks}
use Rattle.fv_engine_pending.specs.Judging.{AreListingsOf, IsStanding, OneIsOverAmong}
use Rattle.fv_engine_machine.specs.Keeping.{IsCommand}
use Rattle.fv_engine_machine.specs.Redeclaring.{Reign}
use Rattle.fv_engine_machine.specs.Services.{LineTurns}
use Rattle.fv_engine_machine.specs.Step.{Step}
use Rattle.fv_engine_pending.specs.Ways.{Way}
use Rattle.fv_engine_reply.specs.Answers.{Answer, done, refused, violated}
use Rattle.fv_engine_reply.specs.Texts.{answer_text}
use Rattle.fv_engine_reply.specs.declared.answer.Done.{Done}
use Rattle.fv_engine_reply.specs.declared.answer.Refusal.TheVariants.{TooManyVisits, Store, Memory}
use Rattle.fv_registry.specs.Meanings.{Meanings}
use Rattle.fv_registry.specs.Rules.{Known}
use Rattle.fv_store.specs.Records.{Records, no_records}
use Rattle.fv_validate.specs.Violations.{Judged}

-- these declarations, with no record
abbrev pub bare : Declarations → Reign
bare ds = record { declared = ds; records = no_records }

-- What is asked is answered by a step from no records, whatever it would leave; the store refuses nothing, as there is none.
abbrev pub AnswersBare : Known → Meanings → Declarations → ℤ → Asked → Answer → Type 0
AnswersBare known means ds now what answer = (answer ≢ refused Store) × ((left : Reign) × LineTurns known means (bare ds) what now answer left)

-- the same, told by the text of the answer
abbrev pub RepliesBare : Known → Meanings → Declarations → ℤ → Asked → List ℕ → Type 0
RepliesBare known means ds now what text = (answer : Answer) × (text ≡ answer_text answer) × AnswersBare known means ds now what answer

-- the same of what a line asks for
abbrev pub Judges : Known → Meanings → Declarations → List ℕ → ℤ → List ℕ → Type 0
Judges known means ds line moment text = RepliesBare known means ds moment (asks line) text

-- ---- for private clauses

-- a request is answered so
abbrev pub ServesBare : Meanings → Declarations → ℤ → Request → Answer → Type 0
ServesBare means ds now r answer = (answer ≢ refused Store) × ((left : Records) × Step means ds no_records r now answer left)

-- a command of these parts is answered so, by its parts
abbrev pub ChangesBare : Meanings → Declarations → ℤ → List Part → Done → Answer → Type 0
ChangesBare means ds now parts what answer = (r : Request) → IsCommand r parts what → ServesBare means ds now r answer

-- where there are no listings a command is done, and else these are told
abbrev pub DoneOrTold : Done → List Judged → Answer → Type 0
DoneOrTold what [] answer = answer ≡ done what
DoneOrTold what (l ∷ ls) answer = answer ≡ violated (l ∷ ls)

-- what stands on the way is judged, unless memory is refused
abbrev pub JudgesWay : Meanings → Declarations → ℤ → Way → Done → Answer → Type 0
JudgesWay means ds now way what answer =
    (OneIsOverAmong ds (IsStanding way) × (answer ≡ refused TooManyVisits))
    ⊎ (((ls : List Judged) × AreListingsOf means ds now (IsStanding way) ls × DoneOrTold what ls answer)
    ⊎ (answer ≡ refused Memory))
