use Rattle.std.proofs.Common.{ap, ◌∙◌, option_map}
use Rattle.fv_bundle.specs.Types.{fields_view}
use Rattle.fv_datum.proofs.Lookups.{lookup-at_name, option_map-copied}
use Rattle.fv_bundle.proofs.types.fields_in.Goals as goal

pub returns : goal.returns
returns c = option_map-copied fields_view c.get.result ∙ ap (option_map fields_view) c.get.ensures.value ∙ lookup-at_name fields_view c.args.name.now c.args.declared.now.entries
