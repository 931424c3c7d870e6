use Rattle.std.proofs.Common.{ap, ◌∙◌, option_map}
use Rattle.fv_datum.proofs.Lookups.{lookup-types}
use Rattle.fv_bundle.proofs.flaws.type_at.Goals as goal

pub returns : goal.returns
returns c = ap (option_map (λ s. s.now)) (c.copied.ensures ∙ c.get.ensures.value) ∙ lookup-types c.args.name.now c.args.types.now.entries
