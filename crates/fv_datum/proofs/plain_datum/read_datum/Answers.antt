use Rattle.serde_json.specs.View.{view as json_view}
use Rattle.fv_datum.proofs.Spelled.{gives-fits, gives-read_back}
use Rattle.fv_datum.proofs.plain_datum.read_datum.Goals as goal

pub returns-clause-fits : goal.returns-clause-fits
returns-clause-fits c = gives-fits c.spelled_datum.result c.args.kind (json_view c.args.value.now) c.spelled_datum.ensures

pub returns-clause-read_back : goal.returns-clause-read_back
returns-clause-read_back c d fits e = gives-read_back c.spelled_datum.result c.args.kind d (json_view c.args.value.now) c.spelled_datum.ensures fits e
