-- What the connection to the database, which keeps the records, has to do with a step.
use Rattle.std.specs.Prelude.{◌≡◌, ◌+◌, ◌*◌, ◌≤◌, ◌<◌, ◌⊎◌, ℕ, ℤ, IsTrue, false, List, [], ◌∷◌}
use Rattle.sqlite.specs.Disk.{MoreFaults}
use Rattle.fv_engine_machine.specs.Machines.{Machine}
use Rattle.fv_engine_machine.specs.Refusals.{batch_parts}
use Rattle.fv_engine_machine.specs.Step.{IsTaken, LooksUp, Step}
use Rattle.fv_engine_command.specs.Commands.{Part, set, Request, asked}
use Rattle.fv_engine_pending.specs.Touched.{IsTouched, count_left}
use Rattle.fv_registry.specs.Meanings.{Meanings}
use Rattle.fv_engine_reply.specs.Answers.{Answer, done, refused}
use Rattle.fv_engine_reply.specs.Texts.{answer_text}
use Rattle.fv_engine_reply.specs.declared.answer.Refusal.TheVariants.{Store, Memory}
use Rattle.fv_store.specs.Causes.{IsShort}
use Rattle.fv_store.specs.Records.{Kept, Records}
use Rattle.fv_bundle.specs.Limits.{most_objects}

-- the disk has failed more often since, or the connection was shut before
abbrev pub StoreHasFailed : Machine Records → Machine Records → Type 0
StoreHasFailed old new = MoreFaults old.faults new.faults ⊎ (old.is_open ≡ false)

-- how many rowids the parts of a command take in a table, at most: none where one field is set by itself, and else for each part that leaves a
-- record those of one with as many objects as it may have
abbrev pub rows_taken : List Part → ℕ
rows_taken (set id object field j ∷ []) = 0
rows_taken parts = (1 + most_objects) * count_left parts

-- the database has room for what parts leave: so many rowids are left, and no row is too long
abbrev pub HasRoomFor : List Part → Records → Machine Records → Type 0
HasRoomFor parts m old = (rows_taken parts < old.room) × ((id : List ℕ) (k : Kept) → IsTouched parts m id k → IsShort id k)

-- why the store refuses a request: it has failed, or that is a command that would be taken, and it has failed or the database lacks room for it
abbrev pub HasCause : Meanings → ℤ → Request → Machine Records → Machine Records → Type 0
HasCause means now r old new = StoreHasFailed old new
    ⊎ ((m : Records) × IsTaken means old.declared now r old.records m × (HasRoomFor (batch_parts r) m old → StoreHasFailed old new))

-- a taken command goes by an open connection, which stays open, and gives out as many rowids as its parts take, at most; else none is given out
abbrev pub GivesOut : Answer → List Part → Machine Records → Machine Records → Type 0
GivesOut (done what) parts old new = IsTrue old.is_open × IsTrue new.is_open × (old.room ≤ new.room + rows_taken parts)
GivesOut _ parts old new = IsTrue new.is_open → new.room ≡ old.room

-- What a step leaves of a connection, which only a failure of the disk shuts: shut, it refuses what looks something up. The store refuses with a cause.
pub record Causes (means : Meanings) (now : ℤ) (r : Request) (answer : Answer) (old new : Machine Records) : Type 0 where
  pub declared : new.declared ≡ old.declared
  pub counts : old.faults ≤ new.faults
  pub was_open : IsTrue new.is_open → IsTrue old.is_open
  pub closes : IsTrue old.is_open → IsTrue new.is_open ⊎ MoreFaults old.faults new.faults
  pub gives : GivesOut answer (batch_parts r) old new
  pub finds : LooksUp old.declared r → IsTrue old.is_open ⊎ ((answer ≡ refused Store) ⊎ (answer ≡ refused Memory))
  pub cause : answer ≡ refused Store → HasCause means now r old new

-- a step of the map, with its causes
abbrev pub Handles : Meanings → ℤ → Request → Machine Records → Answer → Machine Records → Type 0
Handles means now r old answer new = Step means old.declared old.records r now answer new.records × Causes means now r answer old new

-- the same, told by the text of the answer
abbrev pub IsReplied : Meanings → ℤ → Request → Machine Records → List ℕ → Machine Records → Type 0
IsReplied means now r old text new = (answer : Answer) × (text ≡ answer_text answer) × Handles means now r old answer new

-- the same of what a line asks for
abbrev pub Caused : Meanings → Machine Records → List ℕ → ℤ → List ℕ → Machine Records → Type 0
Caused means old line moment text new = IsReplied means moment (asked line) old text new
