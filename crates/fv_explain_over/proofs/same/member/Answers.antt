use Rattle.std.proofs.Common.{option_map, ap, ◌∙◌}
use Rattle.serde_json.specs.View.{view}
use Rattle.serde_json.proofs.Views.{view-lookup}
use Rattle.fv_datum.proofs.Lookups.{option_map-copied}
use Rattle.fv_explain_over.proofs.same.member.Goals as goal

pub returns : goal.returns
returns c = option_map-copied view c.get.result ∙ ap (option_map view) c.get.ensures.value ∙ view-lookup c.args.name.now c.args.members.now.entries
