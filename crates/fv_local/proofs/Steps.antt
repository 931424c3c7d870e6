-- Steps into data, as the code compares them.
use Rattle.std.proofs.Common.{◌≡◌, List, [], ◌∷◌, map, refl, ap₂}
use Rattle.std.specs.Bool.{Decides}
use Rattle.fv_extract.specs.contracts.place.StepPartialEq.TheImpl.{eq-value}
use Rattle.fv_extract.specs.Views.{step_view}
use Rattle.fv_extract.specs.declared.place.Step.{Step}
use Rattle.fv_extract.specs.declared.place.Step.TheVariants.{Element, Key, Value, Content}

same_step : (s t : Step) → step_view s ≡ step_view t → s ≡ t
same_step Element Element e = refl
same_step Key Key e = refl
same_step Value Value e = refl
same_step Content Content e = refl
same_step Element Key e = cc
same_step Element Value e = cc
same_step Element Content e = cc
same_step Key Element e = cc
same_step Key Value e = cc
same_step Key Content e = cc
same_step Value Element e = cc
same_step Value Key e = cc
same_step Value Content e = cc
same_step Content Element e = cc
same_step Content Key e = cc
same_step Content Value e = cc

pub same_steps : (xs ys : List Step) → map step_view xs ≡ map step_view ys → xs ≡ ys
same_steps [] [] e = refl
same_steps [] (y ∷ ys) e = cc
same_steps (x ∷ xs) [] e = cc
same_steps (x ∷ xs) (y ∷ ys) e = ap₂ (λ (z : Step) (zs : List Step). z ∷ zs) (same_step x y (cc)) (same_steps xs ys (cc))

-- `==` of steps
pub step_decides : (a b : Step) → Decides (eq-value.it a b) (a ≡ b)
step_decides Element Element = (λ e. refl, λ e. refl)
step_decides Element Key = (λ e. cc, λ e. cc)
step_decides Element Value = (λ e. cc, λ e. cc)
step_decides Element Content = (λ e. cc, λ e. cc)
step_decides Key Element = (λ e. cc, λ e. cc)
step_decides Key Key = (λ e. refl, λ e. refl)
step_decides Key Value = (λ e. cc, λ e. cc)
step_decides Key Content = (λ e. cc, λ e. cc)
step_decides Value Element = (λ e. cc, λ e. cc)
step_decides Value Key = (λ e. cc, λ e. cc)
step_decides Value Value = (λ e. refl, λ e. refl)
step_decides Value Content = (λ e. cc, λ e. cc)
step_decides Content Element = (λ e. cc, λ e. cc)
step_decides Content Key = (λ e. cc, λ e. cc)
step_decides Content Value = (λ e. cc, λ e. cc)
step_decides Content Content = (λ e. refl, λ e. refl)
