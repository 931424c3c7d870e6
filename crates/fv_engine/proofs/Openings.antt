-- The fault of an engine that isn't opened.
use Rattle.std.proofs.Common.{◌≡◌, ◌≢◌, ◌⊎◌, ℕ, List, Bool, true, false, bytes_eq, inl, inr, refl, sym, subst, ◌∙◌}
use Rattle.std.proofs.lemmas.Slice.Eq.{bytes_eq-Decides}
use Rattle.fv_declare_judging.specs.declared.fault.DeclFault.{DeclFault}
use Rattle.fv_declare_judging.specs.declared.fault.DeclFault.TheVariants as decl
use Rattle.sqlite.specs.State.{State, HasCleanDisk}
use Rattle.fv_store.specs.Stands.{MayBeFirst, Stays}
use Rattle.fv_store.specs.Steps.{IsUpgraded}
use Rattle.fv_registry.specs.Rules.{Known}
use Rattle.fv_engine.specs.Openings.{DeclaresSome, IsLeft}
use Rattle.fv_store.specs.declared.fault.OpenStoreFault.{OpenStoreFault}
use Rattle.fv_store.specs.declared.fault.OpenStoreFault.TheVariants.{OtherVersion, Store, Memory}
use Rattle.fv_engine.specs.declared.engine.OpenFault.{OpenFault}
use Rattle.fv_engine.specs.declared.engine.OpenFault.TheVariants as opened

same_cause : (f g : OpenStoreFault) → opened.Store f ≡ opened.Store g → f ≡ g
same_cause f g e = cc

-- a fault of the store is told as it is, but for want of memory
pub store_cause : (fault told : OpenStoreFault) (r : OpenFault) → (fault ≡ Memory → r ≡ opened.Memory) → (fault ≢ Memory → r ≡ opened.Store fault) → r ≡ opened.Store told → fault ≡ told
store_cause OtherVersion told r memory other is = same_cause OtherVersion told (sym (other (λ e. cc)) ∙ is)
store_cause Store told r memory other is = same_cause Store told (sym (other (λ e. cc)) ∙ is)
store_cause Memory told r memory other is = let e : opened.Memory ≡ opened.Store told = sym (memory refl) ∙ is in cc

-- it isn't one of the declarations
pub store_alone : (fault : OpenStoreFault) (told : DeclFault) (r : OpenFault) → (fault ≡ Memory → r ≡ opened.Memory) → (fault ≢ Memory → r ≡ opened.Store fault) → r ≡ opened.Declarations told → ⊥
store_alone OtherVersion told r memory other is = let e : opened.Store OtherVersion ≡ opened.Declarations told = sym (other (λ k. cc)) ∙ is in cc
store_alone Store told r memory other is = let e : opened.Store Store ≡ opened.Declarations told = sym (other (λ k. cc)) ∙ is in cc
store_alone Memory told r memory other is = let e : opened.Memory ≡ opened.Declarations told = sym (memory refl) ∙ is in cc

-- want of memory is told as such
pub memory_apart : (fault : OpenStoreFault) (r : OpenFault) → (fault ≡ Memory → r ≡ opened.Memory) → (fault ≢ Memory → r ≡ opened.Store fault) → r ≡ opened.Store Memory → ⊥
memory_apart OtherVersion r memory other is = let e : opened.Store OtherVersion ≡ opened.Store Memory = sym (other (λ k. cc)) ∙ is in cc
memory_apart Store r memory other is = let e : opened.Store Store ≡ opened.Store Memory = sym (other (λ k. cc)) ∙ is in cc
memory_apart Memory r memory other is = let e : opened.Memory ≡ opened.Store Memory = sym (memory refl) ∙ is in cc

-- ---- declarations of the database that aren't taken

-- a fault of declarations that are read, or want of memory
abbrev pub IsOfText : (DeclFault → Type 0) → OpenFault → Type 0
IsOfText P f = (f ≡ opened.Memory) ⊎ ((fault : DeclFault) × (f ≡ opened.Declarations fault) × P fault)

pub of_text : (fault : DeclFault) (r : OpenFault) (P : DeclFault → Type 0) → (fault ≡ decl.Memory → r ≡ opened.Memory) → (fault ≢ decl.Memory → r ≡ opened.Declarations fault) → (fault ≢ decl.Memory → P fault)
    → (fault ≡ decl.Memory) ⊎ (fault ≢ decl.Memory) → IsOfText P r
of_text fault r P memory other declares (inl is) = inl (memory is)
of_text fault r P memory other declares (inr is) = inr (fault, other is, declares is)

pub text_told : (P : DeclFault → Type 0) (f : OpenFault) (fault : DeclFault) → IsOfText P f → f ≡ opened.Declarations fault → P fault
text_told P f fault (inl memory) is = let never : opened.Memory ≡ opened.Declarations fault = sym memory ∙ is in absurd cc
text_told P f fault (inr (it, told, holds)) is = subst P (same_told it fault (sym told ∙ is)) holds
  where
    same_told : (a b : DeclFault) → opened.Declarations a ≡ opened.Declarations b → a ≡ b
    same_told a b e = cc

pub text_alone : (P : DeclFault → Type 0) (f : OpenFault) (fault : OpenStoreFault) → IsOfText P f → f ≡ opened.Store fault → ⊥
text_alone P f fault (inl memory) is = let never : opened.Memory ≡ opened.Store fault = sym memory ∙ is in cc
text_alone P f fault (inr (it, told, holds)) is = let never : opened.Declarations it ≡ opened.Store fault = sym told ∙ is in cc

-- texts that a comparison tells apart
pub differs : (a b : List ℕ) (answer : Bool) → answer ≡ bytes_eq a b → answer ≡ false → a ≡ b → ⊥
differs a b answer is apart same = let never : true ≡ false = sym ((bytes_eq-Decides a b).1 same) ∙ sym is ∙ apart in cc

-- ---- what a refusal leaves

-- a store that was opened has left the database as it was, or migrated it
pub left_by : (known : Known) (given : List ℕ) (old new : State) (fault : OpenFault) → DeclaresSome known given → Stays old new ⊎ (HasCleanDisk new → MayBeFirst old) → IsUpgraded old new → ((f : OpenStoreFault) → fault ≢ opened.Store f) → IsLeft known given old new fault
left_by known given old new fault some (inl stays) made other = inl stays
left_by known given old new fault some (inr first) made other = inr (some, other, first, made)
