use Rattle.std.proofs.Common.{◌≡◌, Ok, option_map}
use Rattle.serde_json.specs.View.{view as json_view}
use Rattle.fv_model.specs.Reading.{bundle_read}
use Rattle.fv_bundle.specs.Types.{name_at}
use Rattle.fv_model.specs.Views.{types_view}
use Rattle.fv_model.proofs.Again.{gives_alike}
use Rattle.fv_model.proofs.Law.{law_asked}
use Rattle.fv_model.proofs.Typed.{gives_well_typed, gives_root}
use Rattle.fv_model.proofs.spelled.read_bundle.Goals as goal

pub returns-clause-well_typed : goal.returns-clause-well_typed
returns-clause-well_typed c =
    let ts = types_view c.args.types.now in
    gives_well_typed c.spelled_bundle.result ts (option_map (λ t. name_at ts t.index) c.args.asked) (json_view c.args.value.now) c.args.types.now.apart c.spelled_bundle.ensures.ascending c.spelled_bundle.ensures.exact

pub returns-clause-root : goal.returns-clause-root
returns-clause-root c = gives_root c.spelled_bundle.result (types_view c.args.types.now) c.args.asked (json_view c.args.value.now) c.spelled_bundle.ensures.exact

pub returns-clause-read_back : goal.returns-clause-read_back
returns-clause-read_back c b well rooted is =
    let ts = types_view c.args.types.now in
    let back : bundle_read ts (option_map (λ t. name_at ts t.index) c.args.asked) (json_view c.args.value.now) ≡ Ok b = rw is (law_asked ts c.args.asked b c.args.types.now.apart well rooted) in
    rw back at c.spelled_bundle.ensures.exact

pub returns-clause-rewritten : goal.returns-clause-rewritten
returns-clause-rewritten c =
    let ts = types_view c.args.types.now in
    gives_alike c.spelled_bundle.result ts (option_map (λ t. name_at ts t.index) c.args.asked) (json_view c.args.value.now) c.args.types.now.apart c.spelled_bundle.ensures.exact
