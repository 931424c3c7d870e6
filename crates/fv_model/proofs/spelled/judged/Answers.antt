use Rattle.std.proofs.Common.{◌≡◌, false, Some, None, Ok, option_map, sym, ap, ◌∙◌}
use Rattle.std.specs.List.{list_any}
use Rattle.fv_datum.specs.Outcomes.{first, unless_fault}
use Rattle.fv_model.specs.Fitting.{part_misfits}
use Rattle.fv_model.specs.Reading.{bundle_of}
use Rattle.fv_bundle.specs.Types.{name_at}
use Rattle.fv_model.specs.Views.{types_view, draft_view, bundle_view}
use Rattle.fv_model.proofs.Conditions.{unknown_field, draft_fault, name_conditions, late_conditions}
use Rattle.fv_model.proofs.Firsts.{by_kind, by_rest}
use Rattle.fv_model.proofs.Given.{wrong_same}
use Rattle.fv_model.proofs.Wrong.{right, wrong_exit}
use Rattle.fv_model.proofs.spelled.judged.Goals as goal

pub returns-in_err-bundle-clause-exact : goal.returns-in_err-bundle-clause-exact
returns-in_err-bundle-clause-exact c =
    let ts = types_view c.args.types.now in
    let asked = option_map (λ t. name_at ts t.index) c.args.asked in
    let d = draft_view c.args.draft.now in
    let none : first (name_conditions ts d) ≡ None = sym c.name_fault.ensures ∙ c.in_default.is in
    let declared : unknown_field ts d.objects ≡ false = sym c.draft_flaws-flaws.ensures.told.undeclared ∙ c.if-flaws.false in
    let same = wrong_same ts d.objects c.args.types.now.apart c.draft_flaws-flaws.ensures.ascending in
    wrong_exit c.from_residual.result bundle_view _ (list_any (part_misfits ts) d.objects) (bundle_of ts d) (unless_fault (draft_fault ts asked d) (bundle_of ts d)) c.from_residual.ensures.1 c.in_err-bundle.ensures.bundle
    (λ is. ap (λ o. unless_fault o (bundle_of ts d)) (by_kind ts asked d none declared (sym same ∙ is)))

pub returns-in-Some-late_fault-clause-exact : goal.returns-in-Some-late_fault-clause-exact
returns-in-Some-late_fault-clause-exact c =
    let ts = types_view c.args.types.now in
    let asked = option_map (λ t. name_at ts t.index) c.args.asked in
    let d = draft_view c.args.draft.now in
    let none : first (name_conditions ts d) ≡ None = sym c.name_fault.ensures ∙ c.in_default.is in
    let declared : unknown_field ts d.objects ≡ false = sym c.draft_flaws-flaws.ensures.told.undeclared ∙ c.if-flaws.false in
    let same = wrong_same ts d.objects c.args.types.now.apart c.draft_flaws-flaws.ensures.ascending in
    let found = right (list_any (part_misfits ts) d.objects) (bundle_of ts d) (bundle_view c.in_ok-bundle.bundle) c.in_ok-bundle.ensures.bundle in
    let late : first (late_conditions ts asked d) ≡ Some c.in-Some-late_fault.fault = sym c.late_fault.ensures ∙ c.in-Some-late_fault.is in
    λ other. ap (λ o. unless_fault o (bundle_of ts d)) (by_rest ts asked d none declared (sym same ∙ found.0) ∙ late)

pub returns-in-None-clause-exact : goal.returns-in-None-clause-exact
returns-in-None-clause-exact c =
    let ts = types_view c.args.types.now in
    let asked = option_map (λ t. name_at ts t.index) c.args.asked in
    let d = draft_view c.args.draft.now in
    let none : first (name_conditions ts d) ≡ None = sym c.name_fault.ensures ∙ c.in_default.is in
    let declared : unknown_field ts d.objects ≡ false = sym c.draft_flaws-flaws.ensures.told.undeclared ∙ c.if-flaws.false in
    let same = wrong_same ts d.objects c.args.types.now.apart c.draft_flaws-flaws.ensures.ascending in
    let found = right (list_any (part_misfits ts) d.objects) (bundle_of ts d) (bundle_view c.in_ok-bundle.bundle) c.in_ok-bundle.ensures.bundle in
    let late : first (late_conditions ts asked d) ≡ None = sym c.late_fault.ensures ∙ c.in-None.is in
    ap (λ o. unless_fault o (bundle_of ts d)) (by_rest ts asked d none declared (sym same ∙ found.0) ∙ late) ∙ ap (λ b. Ok b) found.1
