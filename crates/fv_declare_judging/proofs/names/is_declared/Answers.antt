use Rattle.std.proofs.Common.{◌∙◌}
use Rattle.fv_bundle.specs.Types.{fields_view}
use Rattle.fv_datum.proofs.Lookups.{has_name}
use Rattle.fv_declare_judging.proofs.names.is_declared.Goals as goal

pub returns : goal.returns
returns c = c.contains_key.ensures ∙ has_name fields_view c.args.name.now c.args.declared.now.entries
