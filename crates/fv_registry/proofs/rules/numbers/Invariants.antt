use Rattle.std.proofs.Common.{◌≡◌, ◌++◌, take, map}
use Rattle.fv_registry.proofs.rules.numbers.Given as goal

abbrev pub invariant-loop-field : goal.invariant-loop-field
invariant-loop-field g l = l.rules.items ≡ map (λ v. v.rule) (take l.field-index l.fields)

abbrev pub invariant-loop-object : goal.invariant-loop-object
invariant-loop-object g l = l.rules.items ≡ map (λ v. v.rule) l.fields ++ map (λ v. v.rule) (take l.object-index l.objects)
