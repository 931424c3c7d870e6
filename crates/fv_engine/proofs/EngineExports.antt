-- An export of a store, told of the engine over it.
use Rattle.std.proofs.Common.{◌≡◌, ℕ, List, Option, Result, MatchResult, IfErr, OnErr, OnOk, IsUtf8, false, refl, sym, subst}
use Rattle.sqlite.specs.State.{State, HasCleanDisk}
use Rattle.fv_declare_schema.specs.Declarations.{Declarations}
use Rattle.fv_engine.specs.Exports.{Exports, ExportsFront, IsSameService}
use Rattle.fv_engine.specs.ExportSteps.{StoreDone, StoreFails}
use Rattle.fv_engine.specs.declared.exporting.ExportFault.{ExportFault}
use Rattle.fv_engine.specs.declared.exporting.ExportFault.TheVariants.{Store}
use Rattle.fv_engine.proofs.Exported.{engine_cause, engine_exports, engine_front}
use Rattle.fv_engine_pending.specs.Passes.{OnlyReads}
use Rattle.fv_engine_pending.specs.Rejudging.{HasFewIds}
use Rattle.fv_engine_machine.specs.Machines.{contents}
use Rattle.fv_engine_machine.specs.Services.{ServiceKeeps, Service, serving}
use Rattle.fv_bundle.specs.Types.{has_deep}
use Rattle.fv_registry.specs.Rules.{Known}
use Rattle.fv_store.specs.Causes.{HasFailed}
use Rattle.fv_store.specs.Records.{Records}
use Rattle.fv_store.specs.Stands.{Frame, HoldsRecords, Stays}
use Rattle.fv_store.specs.Stock.{Stock}

module _ {S : Type 0} (held : Stock S → State) (known : Known) (ds : Declarations) (s t : Stock S) (old : Service (Stock S)) (is : serving held known ds s ≡ old) (text : t.text ≡ s.text) (reads : OnlyReads (held s) (held t)) where
  pub export_same : IsSameService old (serving held known ds t)
  export_same = subst (λ (o : Service (Stock S)). IsSameService o (serving held known ds t)) is (record { known = refl; text = text; declared = refl })

  pub export_frame : Frame (held old.machine.records) (held t)
  export_frame = subst (λ (o : Service (Stock S)). Frame (held o.machine.records) (held t)) is reads.frame

  pub export_keeps : (m : Records) → ServiceKeeps held old m → ServiceKeeps held (serving held known ds t) m
  export_keeps m = subst (λ (o : Service (Stock S)). ServiceKeeps held o m → ServiceKeeps held (serving held known ds t) m) is
      (λ keeps. subst (λ (bytes : List ℕ). HoldsRecords (held t) (contents bytes ds m)) (sym text) (reads.stays (contents s.text ds m) keeps))

  pub export_untouched : (m : Records) → ServiceKeeps held old m → Stays (held old.machine.records) (held t)
  export_untouched m = subst (λ (o : Service (Stock S)). ServiceKeeps held o m → Stays (held o.machine.records) (held t)) is (λ keeps. reads.untouched (contents s.text ds m) keeps)

  module _ (w v : Option (List ℕ)) {X : Type 0} (r : Result X ExportFault) (told : MatchResult r (λ _. StoreDone (held s) (held t) w v s.text) (λ f. StoreFails (held s) (held t) w v s.text f)) (shallow : has_deep old.machine.declared.types ≡ false) (clean : HasCleanDisk (held t)) where
    pub export_done : OnOk r ((m : Records) → ServiceKeeps held old m → Exports old.text m w v)
    export_done = subst (λ (o : Service (Stock S)). has_deep o.machine.declared.types ≡ false → OnOk r ((m : Records) → ServiceKeeps held o m → Exports o.text m w v)) is
        (λ few. engine_exports (held s) (held t) w v s.text (λ m. contents s.text ds m) (λ m. refl) (λ m. few) r told clean) shallow

    pub export_front : OnErr r ((m : Records) → ServiceKeeps held old m → ExportsFront old.text m w v)
    export_front = subst (λ (o : Service (Stock S)). has_deep o.machine.declared.types ≡ false → OnErr r ((m : Records) → ServiceKeeps held o m → ExportsFront o.text m w v)) is
        (λ few. engine_front (held s) (held t) w v s.text (λ m. contents s.text ds m) (λ m. refl) (λ m. few) r told clean) shallow

    pub export_cause : IfErr r (λ f. f ≡ Store → (m : Records) → ServiceKeeps held old m → HasFewIds m → IsUtf8 old.text → HasFailed (held old.machine.records) (held t))
    export_cause = subst (λ (o : Service (Stock S)). has_deep o.machine.declared.types ≡ false
        → IfErr r (λ f. f ≡ Store → (m : Records) → ServiceKeeps held o m → HasFewIds m → IsUtf8 o.text → HasFailed (held o.machine.records) (held t))) is
        (λ few. engine_cause (held s) (held t) w v s.text (λ m. contents s.text ds m) (λ m. refl) (λ m. few) r told clean) shallow
