-- What is read of a put.
use Rattle.std.proofs.Common.{◌≡◌, ◌≢◌, IfOk, IfSome, MatchOption, ℕ, List, Bool, true, false, cond, Option, Some, None, option_map, is_some, Result, Ok, Err, refl, sym, ap, subst, ◌∙◌}
use Rattle.std.specs.declared.alloc.AllocError.{AllocError}
use Rattle.serde_json.specs.Data as json
use Rattle.fv_engine_command.specs.Commands.{put}
use Rattle.fv_datum.specs.Lookup.{at_name}
use Rattle.fv_bundle.specs.Bundles.{Bundled}
use Rattle.fv_model.specs.declared.fault.BundleFault.{BundleFault}
use Rattle.fv_model.specs.declared.fault.BundleFault.TheVariants.{Shape, Memory}
use Rattle.fv_engine_pending.specs.Parts.{bundle_under, is_misread, is_misshapen}
use Rattle.fv_engine_pending.specs.Steps.{StepFits, put_step, faulty, staged, step_view}
use Rattle.fv_engine_pending.specs.declared.fault.PartFault.{PartFault}
use Rattle.fv_engine_pending.specs.declared.fault.PartFault.TheVariants.{UnknownForm, Bundle}
use Rattle.fv_engine_pending.specs.declared.parts.Step.{Step}
use Rattle.fv_store.specs.Records.{Roots}
use Rattle.fv_bundle.specs.Types.{Declared}

-- ---- one put

module _ (types : Declared) (forms : Roots) (id form : List ℕ) (j : json.Data) where
  -- by what its bundle is read as, and whether its form is declared
  pub put_staged : (r : Result Bundled BundleFault) (b : Bool) → is_some (at_name form forms) ≡ b → bundle_under types forms form j ≡ r
      → staged types forms (put id form j) ≡ put_step id form (cond b (faulty r) (Err UnknownForm))
  put_staged r b declared is =
      ap (λ c. put_step id form (cond c (faulty (bundle_under types forms form j)) (Err UnknownForm))) declared ∙ ap (λ s. put_step id form (cond b (faulty s) (Err UnknownForm))) is

  pub put_shaped : (r : Result Bundled BundleFault) → bundle_under types forms form j ≡ r → is_misshapen types forms (put id form j) ≡ is_misread r
  put_shaped r is = ap is_misread is

-- whether a root is found is whether the form is declared
pub found_some : {X Y : Type 0} (f : X → Y) (o : Option X) (p : Option Y) → option_map f o ≡ p → is_some p ≡ is_some o
found_some f None p is = sym (ap is_some is)
found_some f (Some x) p is = sym (ap is_some is)

-- ---- one put whose bundle has a fault

not_misread : (f : BundleFault) → f ≢ Shape → is_misread (Err f) ≡ false
not_misread Shape n = absurd (n refl)
not_misread _ n = refl

fit_of_none : (types : Declared) (forms : Roots) (id form : List ℕ) (b : Bool) (e f : PartFault) → StepFits types forms (put_step id form (cond b (Err e) (Err f)))
fit_of_none types forms id form true e f = tt
fit_of_none types forms id form false e f = tt

-- what is told of a put whose bundle has a fault
abbrev pub IsMisread : List ℕ → List ℕ → Bool → BundleFault → Step → Type 0
IsMisread id form root fault s = (fault ≢ Shape) × (fault ≢ Memory) × (step_view s ≡ put_step id form (cond root (Err (Bundle fault)) (Err UnknownForm)))

module _ (types : Declared) (forms : Roots) (id form : List ℕ) (j : json.Data) (root : Bool) (fault : BundleFault) (r : Result (Option Step) AllocError) where
  pub misread_as : IfOk r (λ o. MatchOption o (fault ≡ Shape) (IsMisread id form root fault)) → (fault ≢ Memory → bundle_under types forms form j ≡ Err fault) → is_some (at_name form forms) ≡ root
      → IfOk r (λ o. MatchOption o (is_misshapen types forms (put id form j) ≡ true) (λ s. (is_misshapen types forms (put id form j) ≡ false) × (step_view s ≡ staged types forms (put id form j))))
  misread_as told exact declared = elim r as (λ x. IfOk x (λ o. MatchOption o (fault ≡ Shape) (IsMisread id form root fault))
      → IfOk x (λ o. MatchOption o (is_misshapen types forms (put id form j) ≡ true) (λ s. (is_misshapen types forms (put id form j) ≡ false) × (step_view s ≡ staged types forms (put id form j))))) [
        | Ok None ↦ λ shape. put_shaped types forms id form j (Err fault) (exact (λ is. let never : Shape ≡ Memory = sym shape ∙ is in absurd cc)) ∙ ap (λ (f : BundleFault). is_misread (Err f)) shape
        | Ok (Some s) ↦ λ h.
            let is = exact h.1 in
            (put_shaped types forms id form j (Err fault) is ∙ not_misread fault h.0, h.2 ∙ sym (put_staged types forms id form j (Err fault) root declared is))
        | Err e ↦ λ h. tt
      ] told

  pub misread_fits : IfOk r (λ o. MatchOption o (fault ≡ Shape) (IsMisread id form root fault)) → IfOk r (λ o. IfSome o (λ s. StepFits types forms (step_view s)))
  misread_fits told = elim r as (λ x. IfOk x (λ o. MatchOption o (fault ≡ Shape) (IsMisread id form root fault)) → IfOk x (λ o. IfSome o (λ s. StepFits types forms (step_view s)))) [
    | Ok None ↦ λ h. tt
    | Ok (Some s) ↦ λ h. subst (StepFits types forms) (sym h.2) (fit_of_none types forms id form root (Bundle fault) UnknownForm)
    | Err e ↦ λ h. tt
  ] told
