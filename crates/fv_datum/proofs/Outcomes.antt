-- What outcomes say of what they were made of.
use Rattle.std.proofs.Common.{◌≡◌, Bool, true, false, cond, Option, Some, None, Ok, refl, ap}
use Rattle.std.specs.Option.{ok_or}
use Rattle.fv_datum.specs.Outcomes.{unless_fault}

-- where there is no first fault, the first condition doesn't hold, and there is none behind it
pub head_false : {E : Type 0} (c : Bool) (e : E) (rest : Option E) → cond c (Some e) rest ≡ None → (c ≡ false) × (rest ≡ None)
head_false true e rest is = cc
head_false false e rest is = (refl, is)

-- what is given unless there is a fault is given where there is none
pub unless_none : {E Y : Type 0} (o : Option E) (y b : Y) → unless_fault o y ≡ Ok b → (o ≡ None) × (y ≡ b)
unless_none None y b e = (refl, cc)
unless_none (Some f) y b e = cc

-- what is taken was there
pub ok_found : {X E : Type 0} (o : Option X) (f : E) (x : X) → ok_or o f ≡ Ok x → o ≡ Some x
ok_found None f x e = cc
ok_found (Some y) f x e = let same : y ≡ x = cc in ap (λ z. Some z) same
