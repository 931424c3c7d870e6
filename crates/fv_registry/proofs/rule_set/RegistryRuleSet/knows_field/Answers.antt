use Rattle.std.proofs.Common.{◌∙◌, sym}
use Rattle.fv_registry.proofs.Known.{paired}
use Rattle.fv_registry.proofs.rule_set.RegistryRuleSet.knows_field.Goals as goal

pub returns : goal.returns
returns g c = c.has_field_rule.ensures ∙ sym (paired (λ v. v.rule) (λ v. v.kinds.items) c.args.rule c.args.self.now.fields.items)
