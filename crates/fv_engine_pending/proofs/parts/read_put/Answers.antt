use Rattle.std.proofs.Common.{is_some}
use Rattle.serde_json.specs.View.{view as json_view}
use Rattle.fv_engine_pending.proofs.Readings.{found_some, misread_as, misread_fits}
use Rattle.fv_engine_pending.proofs.parts.read_put.Goals as goal

pub returns-in-Err : goal.returns-in-Err
returns-in-Err c =
    let ds = c.args.schema.now in
    let told = c.misread.ensures in
    let exact = rw (c.types.ensures, c.root_of-root.ensures) at c.in-Err.ensures.exact in
    record {
      read = misread_as ds.types ds.forms c.args.id.now c.args.form.now (json_view c.args.bundle.now) (is_some c.root_of-root.result) c.in-Err.fault c.misread.result told exact (found_some _ c.root_of-root.result _ c.root_of-root.ensures);
      fits = misread_fits ds.types ds.forms c.args.id.now c.args.form.now (json_view c.args.bundle.now) (is_some c.root_of-root.result) c.in-Err.fault c.misread.result told;
    }
