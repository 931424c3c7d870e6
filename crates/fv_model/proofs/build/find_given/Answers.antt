use Rattle.std.proofs.Common.{ap, ◌∙◌, option_map}
use Rattle.serde_json.specs.View.{view as json_view}
use Rattle.serde_json.proofs.Views.{view-lookup}
use Rattle.fv_datum.proofs.Lookups.{option_map-copied}
use Rattle.fv_model.proofs.build.find_given.Goals as goal

pub returns-in-Some : goal.returns-in-Some
returns-in-Some c =
    option_map-copied json_view c.get.result ∙ ap (option_map json_view) c.get.ensures.value
    ∙ view-lookup c.args.name.now c.in-Some.members.now.entries ∙ rw c.in-Some.is
