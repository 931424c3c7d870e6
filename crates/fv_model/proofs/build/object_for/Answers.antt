use Rattle.std.proofs.Common.{map, sym}
use Rattle.std.specs.List.{list_any}
use Rattle.fv_datum.specs.View.{view}
use Rattle.fv_model.specs.Fitting.{field_misfits}
use Rattle.fv_model.specs.Reading.{given_field}
use Rattle.fv_bundle.specs.Types.{fields_view}
use Rattle.fv_model.specs.Views.{types_view, given_view, part_view}
use Rattle.fv_model.proofs.Made.{object_made}
use Rattle.fv_model.proofs.Wrong.{right}
use Rattle.fv_model.proofs.build.object_for.Goals as goal

pub returns : goal.returns
returns c =
    let given = given_view c.args.part.now.given in
    let fields = fields_view c.in-Some.fields.now in
    let data_items = map view c.in_ok-data.data.items in
    let found = right (list_any (field_misfits given) fields) (map (λ f. (given_field given f).1) fields) data_items c.in_ok-data.ensures.exact in
    rw (c.new.ensures, c.in_ok-share.ensures) (object_made (types_view c.args.types.now) (part_view c.args.part.now) c.in-Some.type_id.index fields data_items (sym c.in-Some.ensures.found) c.in-Some.ensures.placed found.0 found.1)
