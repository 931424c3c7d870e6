-- Which declarations are in force in a database that is opened, and what a refusal leaves of it.
use Rattle.std.specs.Prelude.{◌≡◌, ◌≢◌, ◌⊎◌, ℕ, ℤ, List, Ok, Err}
use Rattle.sqlite.specs.State.{State, HasCleanDisk}
use Rattle.fv_declare_judging.specs.Declares.{Declares}
use Rattle.fv_declare_judging.specs.declared.fault.DeclFault.{DeclFault}
use Rattle.fv_declare_schema.specs.Declarations.{Declarations}
use Rattle.fv_registry.specs.Rules.{Known}
use Rattle.fv_store.specs.Records.{Contents}
use Rattle.fv_store.specs.Stands.{IsBlank, IsEither, IsTakenWith, MayBeFirst, Opens, Stays, TellsAbout}
use Rattle.fv_store.specs.Steps.{IsUpgraded}
use Rattle.fv_store.specs.declared.fault.OpenStoreFault.{OpenStoreFault}
use Rattle.fv_engine.specs.declared.engine.OpenFault.{OpenFault}
use Rattle.fv_engine.specs.declared.engine.OpenFault.TheVariants.{Store}

-- this text of declarations is in force in a database: its own, whatever its tables are, or the one handed in where it is blank
pub record IsInForce (old new : State) (given text : List ℕ) : Type 0 where
  pub opened : HasCleanDisk new → (c : Contents) → Opens old given c → text ≡ c.bytes
  pub told : HasCleanDisk new → (version : ℤ) (kept : List ℕ) → TellsAbout version kept old.now → IsEither version × (text ≡ kept)
  pub shown : HasCleanDisk new → (IsBlank old.now → ⊥) → IsTakenWith text old

-- a text declares something, where these rules are there
abbrev pub DeclaresSome : Known → List ℕ → Type 0
DeclaresSome known text = (ds : Declarations) × Declares known text (Ok ds)

-- Declarations are refused by their first fault: those handed in, and the database is as it was; or, where these declare something, those that
-- the database keeps, and one of version 1 is the migrated one.
abbrev pub IsMisdeclared : Known → State → State → List ℕ → DeclFault → Type 0
IsMisdeclared known old new given fault =
    (Declares known given (Err fault) × Stays old new)
    ⊎ (DeclaresSome known given × ((text : List ℕ) × IsInForce old new given text × Declares known text (Err fault)) × IsUpgraded old new)

-- A refusal leaves the database as it was; one that may have been of version 1 can have been migrated, only where those handed in declare something
-- and the store was opened.
abbrev pub IsLeft : Known → List ℕ → State → State → OpenFault → Type 0
IsLeft known given old new fault = Stays old new
    ⊎ (DeclaresSome known given × ((f : OpenStoreFault) → fault ≢ Store f) × (HasCleanDisk new → MayBeFirst old) × IsUpgraded old new)
