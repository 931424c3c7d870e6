use Rattle.std.proofs.Common.{map, ap, ◌∙◌}
use Rattle.fv_datum.specs.View.{view}
use Rattle.fv_bundle.proofs.Made.{written_alike}
use Rattle.fv_bundle.proofs.bundle.Object.copy.Goals as goal

pub invariant_of-result-clause-written : goal.invariant_of-result-clause-written
invariant_of-result-clause-written c =
    let object = c.args.self.now in
    written_alike c.in_ok-copied.field-0.items object.data.items (c.in_ok-copied.ensures ∙ ap (map view) c.deref.ensures.value) object.written
