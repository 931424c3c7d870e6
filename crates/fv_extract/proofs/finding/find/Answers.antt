use Rattle.std.proofs.Common.{map}
use Rattle.std.specs.Map.{keys_of}
use Rattle.fv_datum.specs.View.{view}
use Rattle.fv_bundle.specs.Views.{types_view, object_view}
use Rattle.fv_bundle.proofs.Made.{written_fields}
use Rattle.fv_bundle.specs.Types.{fields_at}
use Rattle.fv_extract.specs.FoundView.{found_view}
use Rattle.fv_extract.specs.Views.{step_view}
use Rattle.fv_extract.proofs.Loci.{field_written, found_apart}
use Rattle.fv_extract.proofs.finding.find.Goals as goal

pub returns-in-Some-clause-once : goal.returns-in-Some-clause-once
returns-in-Some-clause-once c =
    let object = c.args.object.now in
    let names = keys_of (fields_at (types_view object.types) object.type_id.index) in
    let written = field_written (object_view object).fields c.args.place.field _ (written_fields names object.data.items object.written) c.in-Some.ensures in
    found_apart c.parts_of.result (λ v. map found_view v.items) (map step_view c.args.place.steps.now) (view c.in-Some.datum.now) written c.parts_of.ensures
