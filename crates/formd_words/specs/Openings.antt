-- Why answering isn't begun.
use Rattle.std.specs.Prelude.{◌≡◌, ℕ, false, List, Err, ⊤}
use Rattle.sqlite.specs.State.{State, HasCleanDisk}
use Rattle.fv_declare_judging.specs.Declares.{Declares}
use Rattle.fv_engine.specs.Openings.{DeclaresSome, IsLeft, IsMisdeclared}
use Rattle.fv_engine.specs.declared.engine.OpenFault.TheVariants as opening
use Rattle.fv_registry.specs.Rules.{Known}
use Rattle.fv_store.specs.Stands.{HasOtherAbout, Stays}
use Rattle.fv_store.specs.Steps.{CausesStore}
use Rattle.fv_store.specs.declared.fault.OpenStoreFault.{OpenStoreFault}
use Rattle.fv_store.specs.declared.fault.OpenStoreFault.TheVariants as stored
use Rattle.formd_words.specs.declared.failure.Failure.{Failure}
use Rattle.formd_words.specs.declared.failure.Failure.TheVariants as failure

-- The database of a connection isn't taken, by this fault: the declarations handed in declare something, and it is as it was. Another version is
-- told only where `about` shows one, and Store only with a cause.
pub record IsUntaken (known : Known) (given : List ℕ) (old new : State) (fault : OpenStoreFault) : Type 0 where
  pub declares : DeclaresSome known given
  pub stays : Stays old new
  pub other : fault ≡ stored.OtherVersion → HasCleanDisk new → HasOtherAbout old
  pub store : fault ≡ stored.Store → HasCleanDisk new → old.in_transaction ≡ false → CausesStore old new given

-- Why no engine is opened over a connection: declarations are refused, those handed in first; or the database is; or memory was refused.
abbrev pub IsUnopened : Known → List ℕ → State → State → Failure → Type 0
IsUnopened known given old new (failure.Declarations fault) = IsMisdeclared known old new given fault
IsUnopened known given old new (failure.Store fault) = IsUntaken known given old new fault
IsUnopened known given old new failure.Memory = IsLeft known given old new opening.Memory
IsUnopened known given old new _ = ⊥

-- Why no line is judged: the declarations aren't readable, or are refused by their first fault, or for want of memory.
abbrev pub IsUndeclared : Known → Failure → Type 0
IsUndeclared known failure.Unreadable = ⊤
IsUndeclared known (failure.Declarations fault) = (text : List ℕ) × Declares known text (Err fault)
IsUndeclared known failure.Memory = ⊤
IsUndeclared known _ = ⊥

-- Why no database is served: as no line is judged, by the file's declarations or those that it keeps; it isn't opened; or it isn't taken, and the
-- file's declare something.
abbrev pub IsUnstarted : Known → Failure → Type 0
IsUnstarted known failure.CannotOpen = ⊤
IsUnstarted known (failure.Store fault) = (given : List ℕ) × DeclaresSome known given
IsUnstarted known other = IsUndeclared known other
