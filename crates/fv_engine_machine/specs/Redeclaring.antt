-- Declarations are changed: what a text does to those in force and to the records under them.
use Rattle.std.specs.Prelude.{◌≡◌, ◌≢◌, ◌⊎◌, ℕ, ℤ, List, [], Some, Ok, Err}
use Rattle.fv_declare_judging.specs.Declares.{Declares}
use Rattle.fv_declare_judging.specs.declared.fault.DeclFault.{DeclFault}
use Rattle.fv_declare_schema.specs.Declarations.{Declarations}
use Rattle.fv_engine_pending.specs.Judging.{AreListingsOf, OneIsOverAmong}
use Rattle.fv_engine_pending.specs.Rejudging.{IsFirstUnfit}
use Rattle.fv_engine_pending.specs.Again.{AllReadAgain, again, if_read}
use Rattle.fv_engine_pending.specs.declared.fault.PartFault.{PartFault}
use Rattle.fv_engine_pending.specs.declared.fault.PartFault.TheVariants as part
use Rattle.fv_engine_reply.specs.Answers.{Answer, redeclared, misdeclared, unfit, violated, refused}
use Rattle.fv_validate.specs.Violations.{Judged}
use Rattle.fv_engine_reply.specs.declared.answer.Misfit.{Misfit}
use Rattle.fv_engine_reply.specs.declared.answer.Misfit.TheVariants.{UnknownForm, Bundle}
use Rattle.fv_engine_reply.specs.declared.answer.Refusal.TheVariants.{TooManyVisits, Store, Memory}
use Rattle.fv_registry.specs.Meanings.{Meanings}
use Rattle.fv_registry.specs.Rules.{Known}
use Rattle.fv_store.specs.Records.{Kept, Records}
use Rattle.fv_store.specs.Again.{all_read}

-- the declarations in force, and the records under them
pub record Reign : Type 0 where
  pub declared : Declarations
  pub records : Records

-- the same records, each read again under other declarations from what is written of it
abbrev pub under : Declarations → Records → Records
under ds = all_read (λ k. if_read (again ds.types ds.forms k))

-- one of the records so read
abbrev pub IsAgain : Declarations → Records → List ℕ → Kept → Type 0
IsAgain ds m id k = under ds m id ≡ Some k

-- how the fault of a record that can't be read again is told: it is never another than these two
abbrev pub misfit : PartFault → Misfit
misfit (part.Bundle fault) = Bundle fault
misfit _ = UnknownForm

-- All records, read again under other declarations, are judged at a moment for the groups of their forms: the declarations are refused where one has
-- too many visits; taken, and in force over the records so read, where none has a violation; and else refused with each record that has some.
abbrev pub JudgesAll : Meanings → Declarations → ℤ → Reign → Answer → Reign → Type 0
JudgesAll means ds now old answer new =
    (OneIsOverAmong ds (IsAgain ds old.records) × (answer ≡ refused TooManyVisits) × (new ≡ old))
    ⊎ ((AreListingsOf means ds now (IsAgain ds old.records) [] × (answer ≡ redeclared) × (new ≡ record { declared = ds; records = under ds old.records }))
    ⊎ ((ls : List Judged) × AreListingsOf means ds now (IsAgain ds old.records) ls × (ls ≢ []) × (answer ≡ violated ls) × (new ≡ old)))

-- before that, the first record by its id that can't be read again is told
abbrev pub Refits : Meanings → Declarations → ℤ → Reign → Answer → Reign → Type 0
Refits means ds now old answer new =
    ((id : List ℕ) × (why : PartFault) × IsFirstUnfit ds.types ds.forms old.records id why × (answer ≡ unfit id (misfit why)) × (new ≡ old))
    ⊎ (AllReadAgain ds.types ds.forms old.records × JudgesAll means ds now old answer new)

-- a text is told its first fault, and else what it declares is put in force so
abbrev pub Redeclares : Known → Meanings → List ℕ → ℤ → Reign → Answer → Reign → Type 0
Redeclares known means text now old answer new =
    ((fault : DeclFault) × Declares known text (Err fault) × (answer ≡ misdeclared fault) × (new ≡ old))
    ⊎ ((ds : Declarations) × Declares known text (Ok ds) × Refits means ds now old answer new)

-- Beside that answer, want of memory may refuse any text, and the store one that declares something; nothing changes then.
abbrev pub RedeclareStep : Known → Meanings → Reign → List ℕ → ℤ → Answer → Reign → Type 0
RedeclareStep known means old text moment answer new =
    Redeclares known means text moment old answer new
    ⊎ (((answer ≡ refused Memory) × (new ≡ old))
    ⊎ ((answer ≡ refused Store) × ((ds : Declarations) × Declares known text (Ok ds)) × (new ≡ old)))
