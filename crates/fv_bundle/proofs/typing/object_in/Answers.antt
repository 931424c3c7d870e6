use Rattle.std.proofs.Common.{ap, ◌∙◌, option_map}
use Rattle.fv_bundle.specs.Views.{object_view}
use Rattle.fv_datum.proofs.Lookups.{lookup-at_name, option_map-copied}
use Rattle.fv_bundle.proofs.typing.object_in.Goals as goal

pub returns : goal.returns
returns c =
    option_map-copied object_view c.get.result ∙ ap (option_map object_view) c.get.ensures.value
    ∙ lookup-at_name object_view c.args.name.now c.args.objects.now.entries
