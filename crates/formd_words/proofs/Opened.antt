-- Why no engine is opened.
use Rattle.std.proofs.Common.{◌≡◌, ℕ, List, false, Err, inl, inr, refl, ap}
use Rattle.sqlite.specs.State.{State, HasCleanDisk}
use Rattle.fv_declare_judging.specs.Declares.{Declares}
use Rattle.fv_declare_judging.specs.declared.fault.DeclFault.{DeclFault}
use Rattle.fv_engine.specs.Openings.{DeclaresSome, IsLeft, IsMisdeclared}
use Rattle.fv_engine.specs.declared.engine.OpenFault.{OpenFault}
use Rattle.fv_engine.specs.declared.engine.OpenFault.TheVariants as opening
use Rattle.fv_registry.specs.Rules.{Known}
use Rattle.fv_store.specs.Stands.{HasOtherAbout, Stays}
use Rattle.fv_store.specs.Steps.{CausesStore}
use Rattle.fv_store.specs.declared.fault.OpenStoreFault.{OpenStoreFault}
use Rattle.fv_store.specs.declared.fault.OpenStoreFault.TheVariants as stored
use Rattle.formd_words.specs.declared.failure.Failure.{Failure}
use Rattle.formd_words.specs.declared.failure.Failure.TheVariants as failure
use Rattle.formd_task.specs.declared.files.FileFault.{FileFault}
use Rattle.formd_task.specs.declared.files.FileFault.TheVariants as file
use Rattle.formd_task.specs.declared.made.NotOpened.{NotOpened}
use Rattle.formd_task.specs.declared.made.NotOpened.TheVariants as unopened
use Rattle.formd_words.specs.Failures.{IsOfOpening, IsRefused, file_failure, opening_failure}
use Rattle.formd_words.specs.Openings.{IsUndeclared, IsUnopened, IsUnstarted}

module _ (known : Known) (given : List ℕ) (old new : State) where
  left_alone : (fault : OpenStoreFault) → IsLeft known given old new (opening.Store fault) → Stays old new
  left_alone fault (inl stays) = stays
  left_alone fault (inr other) = absurd (other.1 fault refl)

  left_for_memory : (fault : OpenFault) → IsLeft known given old new fault → IsLeft known given old new opening.Memory
  left_for_memory fault (inl stays) = inl stays
  left_for_memory fault (inr other) = inr (other.0, (λ f same. cc), other.2, other.3)

  -- by the clauses of an opening, each fault is told as its failure
  pub by_clauses : (fault : OpenFault) (told : Failure) → IsOfOpening fault told
      → ((f : OpenStoreFault) → fault ≡ opening.Store f → DeclaresSome known given)
      → ((f : DeclFault) → fault ≡ opening.Declarations f → IsMisdeclared known old new given f)
      → (fault ≡ opening.Store stored.OtherVersion → HasCleanDisk new → HasOtherAbout old)
      → (fault ≡ opening.Store stored.Store → HasCleanDisk new → old.in_transaction ≡ false → CausesStore old new given)
      → IsLeft known given old new fault
      → IsUnopened known given old new told
  by_clauses (opening.Declarations f) told (inl memory) some declared other store left = rw memory.1 (left_for_memory (opening.Declarations f) left)
  by_clauses (opening.Declarations f) told (inr is) some declared other store left = rw is.1 (declared f refl)
  by_clauses (opening.Store f) told is some declared other store left = rw is (record {
    declares = some f refl;
    stays = left_alone f left;
    other = λ e. other (ap opening.Store e);
    store = λ e. store (ap opening.Store e);
  })
  by_clauses opening.Memory told is some declared other store left = rw is left

  -- the same of no text and no database that is named
  pub unstarted : (told : Failure) → IsUnopened known given old new told → IsUnstarted known told
  unstarted (failure.Declarations f) (inl so) = (given, so.0)
  unstarted (failure.Declarations f) (inr so) = (so.1.0, so.1.2)
  unstarted (failure.Store f) so = (given, so.declares)
  unstarted failure.Memory so = tt
  unstarted failure.Write so = absurd so
  unstarted failure.NotUtf8 so = absurd so
  unstarted failure.Unreadable so = absurd so
  unstarted failure.CannotOpen so = absurd so
  unstarted failure.UnknownForm so = absurd so
  unstarted failure.Read so = absurd so

module _ (known : Known) where
  -- a file that isn't read
  pub unread : (f : FileFault) (told : Failure) → told ≡ file_failure f → IsUndeclared known told
  unread file.Unreadable told is = rw is tt
  unread file.Memory told is = rw is tt

  pub unread_start : (f : FileFault) (told : Failure) → told ≡ file_failure f → IsUnstarted known told
  unread_start file.Unreadable told is = rw is tt
  unread_start file.Memory told is = rw is tt

  -- a database that isn't opened
  pub closed_start : (f : NotOpened) (told : Failure) → told ≡ opening_failure f → IsUnstarted known told
  closed_start unopened.Memory told is = rw is tt
  closed_start unopened.Refused told is = rw is tt

  -- declarations that are refused
  pub undeclared : (text : List ℕ) (told : Failure) → IsRefused (λ f. Declares known text (Err f)) ⊥ told → IsUndeclared known told
  undeclared text (failure.Declarations f) so = (text, so)
  undeclared text failure.Memory so = tt
  undeclared text failure.Write so = absurd so
  undeclared text failure.NotUtf8 so = absurd so
  undeclared text failure.Unreadable so = absurd so
  undeclared text failure.CannotOpen so = absurd so
  undeclared text failure.UnknownForm so = absurd so
  undeclared text (failure.Store f) so = absurd so
  undeclared text failure.Read so = absurd so
