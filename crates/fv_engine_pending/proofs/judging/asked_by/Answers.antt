use Rattle.std.proofs.Common.{ℕ, List, [], Option, length, ap}
use Rattle.std.specs.Prelude.{unwrap_or}
use Rattle.fv_engine_pending.proofs.Groups.{all_below}
use Rattle.fv_engine_pending.proofs.judging.asked_by.Goals as goal

pub returns-in-Some-clause-groups : goal.returns-in-Some-clause-groups
returns-in-Some-clause-groups c = ap (λ (o : Option (List ℕ)). unwrap_or o []) c.in-Some.ensures.groups

pub returns-in-Some-clause-within : goal.returns-in-Some-clause-within
returns-in-Some-clause-within c = all_below (length c.args.schema.now.groups) c.in-Some.groups.now c.in-Some.ensures.within
