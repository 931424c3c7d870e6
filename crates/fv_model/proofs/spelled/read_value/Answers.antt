use Rattle.std.proofs.Common.{◌≡◌, Ok}
use Rattle.serde_json.specs.View.{view as json_view}
use Rattle.fv_model.specs.Reading.{value_read}
use Rattle.fv_bundle.specs.Types.{type_use_view}
use Rattle.fv_model.proofs.Values.{gives_fits, value_back}
use Rattle.fv_model.proofs.spelled.read_value.Goals as goal

pub returns-clause-fits : goal.returns-clause-fits
returns-clause-fits c = gives_fits c.small_datum.result (type_use_view c.args.type_use.now) (json_view c.args.value.now) c.small_datum.ensures.written c.small_datum.ensures.exact

pub returns-clause-read_back : goal.returns-clause-read_back
returns-clause-read_back c d fits is =
    let u = type_use_view c.args.type_use.now in
    let back : value_read u (json_view c.args.value.now) ≡ Ok d = rw is (value_back u d fits) in
    rw back at c.small_datum.ensures.exact
