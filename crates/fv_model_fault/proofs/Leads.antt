-- Steps that lead further.
use Rattle.std.proofs.Common.{◌≡◌, List, [], ◌∷◌, ◌++◌, Option, Some, None, refl, subst}
use Rattle.serde_json.specs.Data as json
use Rattle.fv_bundle.specs.Flaws.{Flaw}
use Rattle.fv_bundle.specs.Types.{TypeUse}
use Rattle.fv_model_fault.specs.Places.{Inner}
use Rattle.fv_model_fault.specs.Sought.{IsFirstInside, LeadsTo}

module _ (flaw : Flaw) where
  step_on : (u v : Option TypeUse) (w : TypeUse) (j k : json.Data) (s : Inner) (held : TypeUse) (inner : json.Data)
      → v ≡ Some w → v ≡ u → k ≡ j → IsFirstInside flaw s w k held inner → LeadsTo flaw u j (s ∷ []) (Some held) inner
  step_on (Some u) v w j k s held inner is same same_json inside =
      let same_use : w ≡ u = cc in
      (held, inner, subst (λ (x : TypeUse). IsFirstInside flaw s x j held inner) same_use (subst (λ (x : json.Data). IsFirstInside flaw s w x held inner) same_json inside), (refl, refl))
  step_on None v w j k s held inner is same same_json inside = cc

  -- one step more
  pub leads_on : (u : Option TypeUse) (j : json.Data) (ss : List Inner) (w : TypeUse) (k : json.Data) (s : Inner) (held : TypeUse) (inner : json.Data)
      → LeadsTo flaw u j ss (Some w) k → IsFirstInside flaw s w k held inner → LeadsTo flaw u j (ss ++ s ∷ []) (Some held) inner
  leads_on u j [] w k s held inner led inside = step_on u (Some w) w j k s held inner refl led.0 led.1 inside
  leads_on None j (t ∷ ss) w k s held inner led inside = absurd led
  leads_on (Some u) j (t ∷ ss) w k s held inner led inside =
      (led.0, led.1, led.2, leads_on (Some led.0) led.1 ss w k s held inner led.3 inside)
