use Rattle.std.proofs.Common.{◌≡◌, ◌∙◌, ◌++◌, map, sym, ap, append-nil}
use Rattle.fv_datum.specs.Maps.{ascends}
use Rattle.fv_datum.proofs.Maps.{seen-ascends}
use Rattle.fv_datum.specs.Attributes.{attribute_view, entry_view}
use Rattle.fv_constraint.proofs.Putting.{copied_more}
use Rattle.fv_constraint.proofs.copying.copy_entries.Goals as goal

pub loop-name-preserved : goal.loop-name-preserved
loop-name-preserved c =
    copied_more attribute_view c.args.entries.now.entries _ _ _ _ _ _ _ _ c.iter-name-items.ensures.ordered c.in-Some.ensures.steps c.in_ok-put.ensures.1 c.in_ok-copy_of.ensures c.in_ok-put.ensures.2 c.loop-name.invariant

pub returns-clause-ascending : goal.returns-clause-ascending
returns-clause-ascending c =
    let copies = map entry_view c.loop-name.copies.entries in
    let same : copies ≡ map entry_view c.args.entries.now.entries =
    sym (append-nil copies) ∙ ap (λ it. copies ++ map entry_view it) (sym c.in-None.ensures.steps.0) ∙ c.loop-name.invariant in
    ap ascends same ∙ seen-ascends attribute_view c.args.entries.now.entries c.iter-name-items.ensures.ordered
