use Rattle.std.proofs.Common.{◌∙◌, sym}
use Rattle.std.proofs.Math.Logic.{∥∥₁_elim, ∥∥₁_prop}
use Rattle.fv_builtin.proofs.compiled.Kept.taken.Goals as goal

pub returns-in-Some-clause-own : goal.returns-in-Some-clause-own
returns-in-Some-clause-own c = ∥∥₁_elim c.args.self.now.same ∥∥₁_prop (λ h. ∣ h c.in-Some.matcher (sym c.in-Some.ensures.value) ∣₁)
