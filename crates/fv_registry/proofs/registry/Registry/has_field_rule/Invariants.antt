use Rattle.std.proofs.Common.{◌≡◌, drop, map}
use Rattle.fv_registry.specs.Rules.{has_rule}
use Rattle.fv_registry.proofs.registry.Registry.has_field_rule.Given as goal

abbrev pub invariant-loop-validator : goal.invariant-loop-validator
invariant-loop-validator g l = has_rule l.rule (map (λ v. v.rule) (drop l.validator-index l.validator-items)) ≡ has_rule l.rule (map (λ v. v.rule) l.validator-items)
