use Rattle.std.proofs.Common.{◌≡◌, true, subst, sym, ◌∙◌}
use Rattle.fv_bundle.specs.Types.{TypeUse, type_use_view}
use Rattle.fv_widening.specs.Same.{is_same}
use Rattle.fv_widening.proofs.Sames.{same_use, use_same}
use Rattle.fv_widening.proofs.same.is_same.Goals as goal

pub returns : goal.returns
returns c =
    let u = type_use_view c.args.own.now in
    let v = type_use_view c.args.other.now in
    record {
      tells = (
        (λ h. same_use u v (sym c.are_same.ensures ∙ h)),
        (λ e. c.are_same.ensures ∙ subst (λ (w : TypeUse). is_same u w ≡ true) e (use_same u)),
      );
    }
