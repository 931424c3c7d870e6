use Rattle.std.proofs.Common.{is_some, refl, sym, ap, ◌∙◌}
use Rattle.serde_json.specs.Read.{read}
use Rattle.fv_datum.specs.Lookup.{at_name}
use Rattle.serde_json.specs.View.{view as json_view}
use Rattle.fv_engine_pending.proofs.Rereads.{reread_fault, seen_some}
use Rattle.fv_engine_pending.proofs.rejudging.bundle_again.Goals as goal

pub returns-clause-read : goal.returns-clause-read
returns-clause-read c =
    let ds = c.args.schema.now in
    let form = c.args.form.now in
    let exact = rw (c.types.ensures, c.root_of-root.ensures) at c.in-Err.ensures.exact in
    let reads = c.in_ok-value.ensures.read in
    let declared = ap is_some (sym c.root_of-root.ensures) ∙ seen_some _ c.root_of-root.result c.if-is_none.ensures in
    c.misread.ensures ds (form, read c.args.text.now) (λ other. reread_fault ds form (read c.args.text.now) (at_name form ds.forms) refl declared (json_view c.in_ok-value.value) reads c.in-Err.fault (exact other))
