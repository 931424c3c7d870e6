use Rattle.std.proofs.Common.{◌≡◌, drop, map}
use Rattle.fv_registry.specs.Rules.{lists_kind}
use Rattle.fv_registry.proofs.registry.Registry.takes.Given as goal

abbrev pub invariant-loop-validator : goal.invariant-loop-validator
invariant-loop-validator g l = lists_kind l.rule l.kind (map (λ v. (v.rule, v.kinds.items)) (drop l.validator-index l.validator-items)) ≡ lists_kind l.rule l.kind (map (λ v. (v.rule, v.kinds.items)) l.validator-items)
