use Rattle.std.proofs.Common.{ap, ◌∙◌, option_map}
use Rattle.fv_datum.specs.Attributes.{attribute_view}
use Rattle.fv_datum.specs.Lookup.{at_name}
use Rattle.fv_datum.proofs.Lookups.{tree-at_name, option_map-copied}
use Rattle.fv_datum.proofs.attrs.Attrs.find.Goals as goal

pub returns : goal.returns
returns c =
    option_map-copied attribute_view c.get.result ∙ ap (option_map attribute_view) c.get.ensures.value
    ∙ tree-at_name attribute_view c.args.name.now c.self.inside.entries.entries ∙ ap (at_name c.args.name.now) c.self.view_is
