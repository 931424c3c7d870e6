use Rattle.fv_registry.proofs.Known.{paired}
use Rattle.fv_registry.proofs.rule_set.RegistryRuleSet.answer.Goals as goal

pub returns : goal.returns
returns g c = rw (paired (λ v. v.rule) (λ v. v.kinds.items) c.args.rule c.args.self.now.fields.items) c.ask.ensures
