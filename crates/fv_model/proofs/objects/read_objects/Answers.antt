use Rattle.std.proofs.Common.{◌≡◌, map, Ok}
use Rattle.fv_model.specs.Reading.{objects_read}
use Rattle.fv_model.specs.Views.{types_view, part_view}
use Rattle.fv_model.proofs.OfParts.{back_of, typed_of}
use Rattle.fv_model.proofs.objects.read_objects.Goals as goal

pub returns-clause-well_typed : goal.returns-clause-well_typed
returns-clause-well_typed c =
    typed_of c.given_objects.result (types_view c.args.types.now) (record { root = c.args.root.now; objects = map part_view c.args.objects.items }) c.args.types.now.apart c.given_objects.ensures.ascending c.given_objects.ensures.exact

pub returns-clause-read_back : goal.returns-clause-read_back
returns-clause-read_back c b well is =
    let ts = types_view c.args.types.now in
    let back : objects_read ts (record { root = c.args.root.now; objects = map part_view c.args.objects.items }) ≡ Ok b = back_of ts c.args.root.now (map part_view c.args.objects.items) b c.args.types.now.apart well is in
    rw back at c.given_objects.ensures.exact
