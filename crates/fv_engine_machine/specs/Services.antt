-- The service: the record machine under declarations that a command may change, and what a line does to it.
use Rattle.std.specs.Prelude.{◌≡◌, ◌⊎◌, ◌≤◌, ℕ, ℤ, IsTrue, List, Ok}
use Rattle.sqlite.specs.Disk.{MoreFaults}
use Rattle.sqlite.specs.State.{State, HasCleanDisk}
use Rattle.fv_declare_schema.specs.Declarations.{Declarations}
use Rattle.fv_declare_judging.specs.Declares.{Declares}
use Rattle.fv_engine_command.specs.Commands.{Asked, redeclare, of_records, asks}
use Rattle.fv_engine_machine.specs.Causes.{StoreHasFailed, Handles}
use Rattle.fv_engine_machine.specs.Machines.{Machine, over, with_map, contents}
use Rattle.fv_engine_machine.specs.Redeclaring.{Reign, RedeclareStep}
use Rattle.fv_engine_pending.specs.Rejudging.{HasFewIds}
use Rattle.fv_engine_machine.specs.Step.{Step}
use Rattle.fv_engine_reply.specs.Answers.{Answer, redeclared, unfit, violated, refused}
use Rattle.fv_engine_reply.specs.Texts.{answer_text}
use Rattle.fv_engine_reply.specs.declared.answer.Refusal.TheVariants.{TooManyVisits, Store}
use Rattle.fv_registry.specs.Meanings.{Meanings}
use Rattle.fv_registry.specs.Rules.{Known}
use Rattle.fv_store.specs.Causes.{IsShortAbout}
use Rattle.fv_store.specs.Records.{Records}
use Rattle.fv_store.specs.Stock.{Stock}
use Rattle.fv_store.specs.Written.{writings}
use Rattle.fv_store.specs.Stands.{HoldsRecords}

-- the rules that are there, the text of the declarations in force, and the machine under what they declare
pub record Service (R : Type 0) : Type 0 where
  pub known : Known
  pub text : List ℕ
  pub machine : Machine R

-- the service with these records; the connection says the rest
abbrev pub with_mapped : {H : Type 0} → (H → State) → Service H → Records → Service Records
with_mapped held s m = record { known = s.known; text = s.text; machine = with_map held s.machine m }

-- the service over a store
abbrev pub serving : {S : Type 0} → (Stock S → State) → Known → Declarations → Stock S → Service (Stock S)
serving held known ds s = record { known = known; text = s.text; machine = over held ds s }

-- its declarations with its records
abbrev pub reign_of : Service Records → Reign
reign_of s = record { declared = s.machine.declared; records = s.machine.records }

-- its database stands for these records, under the declarations in force
abbrev pub ServiceKeeps : {H : Type 0} → (H → State) → Service H → Records → Type 0
ServiceKeeps held s m = HoldsRecords (held s.machine.records) (contents s.text s.machine.declared m)

-- The old service goes on as the new one: the rules stay, what is declared is still what the text in force declares, and where the disk is
-- clean, the records that the old one stood for are in the relation with those that the new one stands for, each under its own declarations.
pub record GoesOn {H : Type 0} (held : H → State) (old new : Service H) (relation : Service Records → Service Records → Type 0) : Type 0 where
  pub known : new.known ≡ old.known
  pub declares : Declares old.known old.text (Ok old.machine.declared) → Declares new.known new.text (Ok new.machine.declared)
  pub clean : HasCleanDisk (held new.machine.records) → HasCleanDisk (held old.machine.records)
  pub related : HasCleanDisk (held new.machine.records) → (m : Records) → ServiceKeeps held old m
      → (n : Records) × relation (with_mapped held old m) (with_mapped held new n) × ServiceKeeps held new n

-- the text in force behind a redeclare: the new one where it was taken
abbrev pub text_after : Answer → List ℕ → List ℕ → List ℕ
text_after redeclared given text = given
text_after _ given text = text

-- the answer to a redeclare that rests on what is stored
abbrev pub TellsOfRecords : Answer → Type 0
TellsOfRecords redeclared = Unit {0}
TellsOfRecords (unfit id why) = Unit {0}
TellsOfRecords (violated ls) = Unit {0}
TellsOfRecords (refused TooManyVisits) = Unit {0}
TellsOfRecords _ = ⊥

-- What a redeclare leaves of the service: what is written of each record stays, also where it is read as something else, and no rowid is given out.
-- What is told of records is told over an open connection, which stays open. The store refuses with a cause.
pub record RedeclareCauses (given : List ℕ) (answer : Answer) (old new : Service Records) : Type 0 where
  pub known : new.known ≡ old.known
  pub text : new.text ≡ text_after answer given old.text
  pub written : writings new.machine.records ≡ writings old.machine.records
  pub counts : old.machine.faults ≤ new.machine.faults
  pub was_open : IsTrue new.machine.is_open → IsTrue old.machine.is_open
  pub closes : IsTrue old.machine.is_open → IsTrue new.machine.is_open ⊎ MoreFaults old.machine.faults new.machine.faults
  pub room : IsTrue new.machine.is_open → old.machine.room ≤ new.machine.room
  pub live : TellsOfRecords answer → IsTrue new.machine.is_open
  pub cause : answer ≡ refused Store → IsShortAbout given → HasFewIds old.machine.records → StoreHasFailed old.machine new.machine

-- what is asked of the service, its answer, and the service then: only a redeclare changes the text in force, and nothing the rules
abbrev pub Attends : Meanings → ℤ → Asked → Service Records → Answer → Service Records → Type 0
Attends means now (redeclare given) old answer new =
    RedeclareStep old.known means (reign_of old) given now answer (reign_of new) × RedeclareCauses given answer old new
Attends means now (of_records r) old answer new = Handles means now r old.machine answer new.machine × (new.text ≡ old.text) × (new.known ≡ old.known)

-- A step of the service: what a line asks for, told by the text of its answer, with its causes.
abbrev pub Responds : Meanings → Service Records → List ℕ → ℤ → List ℕ → Service Records → Type 0
Responds means old line moment text new = (answer : Answer) × (text ≡ answer_text answer) × Attends means moment (asks line) old answer new

-- the same of what is asked
abbrev pub Replies : Meanings → ℤ → Asked → Service Records → List ℕ → Service Records → Type 0
Replies means now asked old text new = (answer : Answer) × (text ≡ answer_text answer) × Attends means now asked old answer new

-- ---- the declarations and the records alone

-- the step of what is asked
abbrev pub LineTurns : Known → Meanings → Reign → Asked → ℤ → Answer → Reign → Type 0
LineTurns known means old (redeclare given) moment answer new = RedeclareStep known means old given moment answer new
LineTurns known means old (of_records r) moment answer new = Step means old.declared old.records r moment answer new.records × (new.declared ≡ old.declared)

-- what a line asks for, told by the text of its answer
abbrev pub Turned : Known → Meanings → Reign → List ℕ → ℤ → List ℕ → Reign → Type 0
Turned known means old line moment text new = (answer : Answer) × (text ≡ answer_text answer) × LineTurns known means old (asks line) moment answer new
