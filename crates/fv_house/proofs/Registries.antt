-- Why a registry of the house is refused.
use Rattle.std.proofs.Common.{◌≡◌, ℕ, List, [], ◌∷◌, ◌++◌, Some, None, IfErr, Result, Ok, Err, refl}
use Rattle.fv_registry.specs.Rules.{refused, Refuses}
use Rattle.fv_registry.specs.declared.fault.RegistryFault.{RegistryFault}
use Rattle.fv_registry.specs.declared.fault.RegistryFault.TheVariants.{DuplicateRule, TooMany, Memory}

-- rules 1 to 4 are taken, unless memory runs out
pub memory_alone : {X : Type 0} (r : Result X RegistryFault) (fields objects : List ℕ) → fields ≡ 1 ∷ 2 ∷ [] → objects ≡ 3 ∷ 4 ∷ []
    → Refuses r (refused (fields ++ objects)) → IfErr r (λ fault. fault ≡ Memory)
memory_alone (Ok x) fields objects are these h = tt
memory_alone (Err Memory) fields objects are these h = refl
memory_alone (Err DuplicateRule) fields objects are these h = let no : None ≡ Some DuplicateRule = rw (are, these) at h in absurd (cc no)
memory_alone (Err TooMany) fields objects are these h = let no : None ≡ Some TooMany = rw (are, these) at h in absurd (cc no)
