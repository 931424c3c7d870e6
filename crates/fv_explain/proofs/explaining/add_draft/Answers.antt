use Rattle.std.proofs.Common.{◌≡◌, ◌++◌, ◌∙◌, Bool, refl, subst}
use Rattle.fv_declare_schema.specs.Groups.{Groups}
use Rattle.fv_explain.specs.Explained.{AreFormLines, AreGroupLines}
use Rattle.fv_explain.proofs.Adding.{adds_then}
use Rattle.fv_explain.proofs.explaining.add_draft.Goals as goal

pub returns : goal.returns
returns g c =
    let uses = c.in_ok-add_constraints.ensures in
    let groups = c.in_ok-add_groups.ensures in
    let forms = c.in_ok-add_forms.ensures in
    let warned = c.in_ok-add_warnings.ensures in
    let s = c.args.schema.now in
    let first = c.args.lines.now in
    let then = c.add_constraints.new.lines in
    let next = c.add_groups.new.lines in
    let behind = c.add_forms.new.lines in
    let last = c.add_warnings.new.lines in
    let json : next.json ≡ first.json = groups.1.1 ∙ uses.1.1 in (
      uses.0 ++ (groups.0 ++ (forms.0 ++ warned.0)),
      adds_then first then last uses.0 (groups.0 ++ (forms.0 ++ warned.0)) uses.1
          (adds_then then next last groups.0 (forms.0 ++ warned.0) groups.1 (adds_then next behind last forms.0 warned.0 forms.1 warned.1)),
      record {
        uses = uses.0;
        groups = groups.0;
        forms = forms.0;
        warned = warned.0;
        whole = refl;
        uses_are = uses.2;
        groups_are = subst (λ (b : Bool). AreGroupLines b s.groups groups.0) uses.1.1
            (subst (λ (gs : Groups). AreGroupLines then.json gs groups.0) c.groups.ensures groups.2);
        forms_are = subst (λ (b : Bool). AreFormLines b s forms.0) json forms.2;
        warnings_are = λ plain. warned.2 (forms.1.1 ∙ json ∙ plain);
      },
    )
