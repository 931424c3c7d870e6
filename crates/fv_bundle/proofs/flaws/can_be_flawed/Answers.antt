use Rattle.std.proofs.Common.{refl, sym, ap, subst, ◌∙◌}
use Rattle.fv_bundle.specs.Flaws.{IsNeverFlawed}
use Rattle.fv_bundle.specs.Types.{type_use_view}
use Rattle.fv_bundle.proofs.Seen.{view-Integer, view-Decimal, view-Boolean, view-Date, view-Instant}
use Rattle.fv_bundle.proofs.flaws.can_be_flawed.Goals as goal

pub returns-in-Integer : goal.returns-in-Integer
returns-in-Integer c = λ is. subst IsNeverFlawed (sym (ap type_use_view c.in-Integer.is ∙ view-Integer)) (λ types j. (refl, refl, refl))

pub returns-in-Decimal : goal.returns-in-Decimal
returns-in-Decimal c = λ is. subst IsNeverFlawed (sym (ap type_use_view c.in-Decimal.is ∙ view-Decimal)) (λ types j. (refl, refl, refl))

pub returns-in-Boolean : goal.returns-in-Boolean
returns-in-Boolean c = λ is. subst IsNeverFlawed (sym (ap type_use_view c.in-Boolean.is ∙ view-Boolean)) (λ types j. (refl, refl, refl))

pub returns-in-Date : goal.returns-in-Date
returns-in-Date c = λ is. subst IsNeverFlawed (sym (ap type_use_view c.in-Date.is ∙ view-Date)) (λ types j. (refl, refl, refl))

pub returns-in-Instant : goal.returns-in-Instant
returns-in-Instant c = λ is. subst IsNeverFlawed (sym (ap type_use_view c.in-Instant.is ∙ view-Instant)) (λ types j. (refl, refl, refl))
