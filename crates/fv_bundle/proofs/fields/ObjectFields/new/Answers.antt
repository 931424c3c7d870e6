use Rattle.std.proofs.Common.{map, zip, ap}
use Rattle.fv_datum.specs.View.{view}
use Rattle.fv_bundle.proofs.Made.{field_names}
use Rattle.fv_bundle.proofs.fields.ObjectFields.new.Goals as goal

pub returns : goal.returns
returns c = rw (c.keys.ensures.rest, c.iter.ensures.rest) (ap (λ ns. zip ns (map view c.args.data.now)) (field_names c.args.fields.now.entries))
