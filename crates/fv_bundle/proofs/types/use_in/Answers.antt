use Rattle.std.proofs.Common.{ap, ◌∙◌, option_map}
use Rattle.fv_bundle.specs.Types.{type_use_view}
use Rattle.fv_datum.proofs.Lookups.{lookup-at_name, option_map-copied}
use Rattle.fv_bundle.proofs.types.use_in.Goals as goal

pub returns : goal.returns
returns c = option_map-copied type_use_view c.get.result ∙ ap (option_map type_use_view) c.get.ensures.value ∙ lookup-at_name type_use_view c.args.name.now c.args.fields.now.entries
