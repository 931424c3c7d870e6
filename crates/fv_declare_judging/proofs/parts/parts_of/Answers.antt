use Rattle.std.proofs.Common.{Option, Err, refl, sym, ap, subst, ◌∙◌}
use Rattle.std.specs.Prelude.{option_map}
use Rattle.std.proofs.lemmas.Result.{IfOk-weaker, err_from_is_err_and}
use Rattle.fv_declare_draft.specs.DraftViews.{draft_view}
use Rattle.fv_declare_draft.specs.Drafts.{Drafted}
use Rattle.fv_declare_groups.specs.Whereabouts as grouping
use Rattle.fv_declare_groups.specs.declared.at.GroupingAt.{GroupingAt}
use Rattle.fv_declare_groups.specs.declared.fault.GroupingFault.{GroupingFault}
use Rattle.fv_declare_groups.specs.declared.fault.GroupingFault.TheVariants as group
use Rattle.fv_registry.specs.Rules.{Known}
use Rattle.fv_declare_judging.specs.FaultNames.{grouping_fault}
use Rattle.fv_declare_judging.specs.Judging.{IsAnswerTo, draft_faults}
use Rattle.fv_declare_judging.specs.Whereabouts.{IsAt}
use Rattle.fv_declare_judging.specs.declared.fault.DeclFault.{DeclFault}
use Rattle.fv_declare_judging.specs.declared.placed.At.TheVariants.{Groups}
use Rattle.fv_declare_judging.specs.declared.placed.PlacedFault.{PlacedFault}
use Rattle.fv_declare_judging.proofs.Limits.{wording_told}
use Rattle.fv_declare_judging.proofs.Turns.{unnamed, ungrouped, name_placed}
use Rattle.fv_declare_judging.proofs.parts.parts_of.Goals as goal

placed_in_groups : (k : Known) (d : Drafted) (f : GroupingFault) (at : Option GroupingAt) → grouping.IsAt d f at → IsAt k d (grouping_fault f) (option_map Groups at)
placed_in_groups k d group.UnknownGroup at h = (at, h, refl)
placed_in_groups k d group.CyclicInheritance at h = ap (option_map Groups) h
placed_in_groups k d group.CyclicSequence at h = ap (option_map Groups) h
placed_in_groups k d group.SequenceMisused at h = (at, h, refl)
placed_in_groups k d group.SequenceLacksType at h = (at, h, refl)
placed_in_groups k d group.DefaultInTypeSequence at h = (at, h, refl)
placed_in_groups k d group.ConversionMisplaced at h = (at, h, refl)
placed_in_groups k d group.Memory at h = ap (option_map Groups) h

pub returns-in_err-types-clause-refused : goal.returns-in_err-types-clause-refused
returns-in_err-types-clause-refused c =
    let d = draft_view c.args.draft.now in
    let f = c.in_err-types.field-0.0.fault in
    let p = err_from_is_err_and c.from_residual.result c.from_residual.ensures.1 in
    rw p.1 (λ other k.
    subst (λ (e : PlacedFault). IsAnswerTo k d draft_faults (Err e.fault)) (sym p.2)
    (unnamed k d f (c.in_err-types.ensures.refused (λ is. other (ap (λ (e : PlacedFault). e.fault) p.2 ∙ is)))))

pub returns-in_err-types-clause-placed : goal.returns-in_err-types-clause-placed
returns-in_err-types-clause-placed c =
    let d = draft_view c.args.draft.now in
    let e = c.in_err-types.field-0.0 in
    let p = err_from_is_err_and c.from_residual.result c.from_residual.ensures.1 in
    rw p.1 (λ other k.
    subst (λ (e : PlacedFault). IsAt k d e.fault e.at) (sym p.2)
    (name_placed k d e.fault e.at (c.in_err-types.ensures.placed (λ is. other (ap (λ (e : PlacedFault). e.fault) p.2 ∙ is)))))

pub returns-in_err-groups-clause-refused : goal.returns-in_err-groups-clause-refused
returns-in_err-groups-clause-refused c =
    let d = draft_view c.args.draft.now in
    let f = c.in_err-groups.field-0.0.fault in
    let p = err_from_is_err_and c.from_residual-in_err-groups.result c.from_residual-in_err-groups.ensures.1 in
    rw p.1 (λ other k.
    subst (λ (e : DeclFault). IsAnswerTo k d draft_faults (Err e)) (sym p.2.0)
    (ungrouped k d c.in_ok-types.ensures.named f (c.in_err-groups.ensures.refused (λ is. other (p.2.0 ∙ ap grouping_fault is)))))

pub returns-in_err-groups-clause-placed : goal.returns-in_err-groups-clause-placed
returns-in_err-groups-clause-placed c =
    let d = draft_view c.args.draft.now in
    let e = c.in_err-groups.field-0.0 in
    let p = err_from_is_err_and c.from_residual-in_err-groups.result c.from_residual-in_err-groups.ensures.1 in
    rw p.1 (λ other k.
    subst (λ (f : DeclFault). IsAt k d f p.0.at) (sym p.2.0)
    (subst (IsAt k d (grouping_fault e.fault)) (sym p.2.1) (placed_in_groups k d e.fault e.at (c.in_err-groups.ensures.placed (λ is. other (p.2.0 ∙ ap grouping_fault is))))))

pub returns-clause-taken : goal.returns-clause-taken
returns-clause-taken c =
    let d = draft_view c.args.draft.now in
    let w = c.wording-wording.ensures in
    record {
      named = c.in_ok-types.ensures.named;
      led = c.requires.led;
      uses = c.requires.uses;
      types = c.in_ok-types.ensures.taken;
      groups = c.in_ok-groups.ensures.taken;
      messages = IfOk-weaker c.wording-wording.result _ _ (λ m h. h.0) w.taken;
      wording = λ kept. wording_told d c.wording-wording.result kept w.taken w.refused w.placed;
      worded = w.placed;
    }
