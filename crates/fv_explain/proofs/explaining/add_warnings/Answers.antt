use Rattle.std.proofs.Common.{[], ◌∷◌, ◌++◌, ◌∙◌, subst, sym}
use Rattle.std.proofs.lemmas.List.Elements.{All-push}
use Rattle.fv_explain.specs.Explained.{IsWarning}
use Rattle.fv_explain.proofs.Adding.{adds_then}
use Rattle.fv_explain.proofs.explaining.add_warnings.Goals as goal

pub loop-warning-preserved : goal.loop-warning-preserved
loop-warning-preserved c =
    let was = c.loop-warning.invariant in
    let one = c.in_ok-add.ensures in (
      was.0 ++ one.0 ∷ [],
      adds_then c.args.lines.now c.loop-warning.lines c.add.new.self was.0 (one.0 ∷ []) was.1 one.1,
      λ plain. All-push IsWarning was.0 one.0 (was.2 plain) (subst IsWarning (sym (one.2 (was.1.1 ∙ plain))) c.warning_line-line.ensures),
    )
