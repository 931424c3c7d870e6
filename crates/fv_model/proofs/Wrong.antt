-- What a call answers that gives its value, unless a datum is of another kind.
use Rattle.std.proofs.Common.{◌≡◌, ◌≢◌, List, [], ◌∷◌, ◌++◌, Bool, true, false, ◌||◌, Result, Ok, Err, IsErrAnd, refl, sym, ap, ◌∙◌, append_assoc}
use Rattle.std.proofs.lemmas.Result.{err_from_is_err_and}
use Rattle.fv_datum.specs.Outcomes.{Gives}
use Rattle.fv_model.specs.Fitting.{unless_wrong}
use Rattle.fv_model.specs.declared.fault.BundleFault.{BundleFault}
use Rattle.fv_model.specs.declared.fault.BundleFault.TheVariants.{WrongKind, Memory}

-- what is right, and its value
pub right : {X : Type 0} (b : Bool) (x y : X) → unless_wrong b x ≡ Ok y → (b ≡ false) × (x ≡ y)
right true x y is = cc
right false x y is = (refl, cc)

passed_on : {X Y : Type 0} (b : Bool) (x : X) (e f : BundleFault) (given : Result Y BundleFault) → f ≡ e → (b ≡ true → given ≡ Err WrongKind) → unless_wrong b x ≡ Err e → given ≡ Err f
passed_on true x e f given same more is =
    let wrong : WrongKind ≡ e = cc in
    more refl ∙ ap (λ g. Err g) (wrong ∙ sym same)
passed_on false x e f given same more is = cc

-- a fault that is passed on, where a datum of another kind is told as such
pub wrong_exit : {V X Y : Type 0} (r : Result V BundleFault) (view : V → Y) (e : BundleFault) (b : Bool) (x : X) (given : Result Y BundleFault) → IsErrAnd r (λ f. f ≡ e) → (e ≢ Memory → unless_wrong b x ≡ Err e)
    → (b ≡ true → given ≡ Err WrongKind) → Gives Memory view r given
wrong_exit r view e b x given is_err told more =
    let p = err_from_is_err_and r is_err in
    rw p.1 (λ other. passed_on b x e p.0 given p.2 more (told (λ is. other (p.2 ∙ is))))

wrong_err : {Y : Type 0} (d : Bool) (z : Y) → d ≡ true → unless_wrong d z ≡ Err WrongKind
wrong_err d z is = rw is refl

-- the same, of a value that is made of another
pub at_exit : {V X Y : Type 0} (r : Result V BundleFault) (view : V → Y) (e : BundleFault) (b d : Bool) (x : X) (z : Y) → IsErrAnd r (λ f. f ≡ e) → (e ≢ Memory → unless_wrong b x ≡ Err e) → (b ≡ true → d ≡ true)
    → Gives Memory view r (unless_wrong d z)
at_exit r view e b d x z is_err told more = wrong_exit r view e b x (unless_wrong d z) is_err told (λ is. wrong_err d z (more is))

pub or_here : (a b : Bool) → a ≡ true → (a || b) ≡ true
or_here a b is = rw is refl

-- the next is made
pub made_more : {X : Type 0} (made : List X) (next was : X) (rest whole : List X) → was ≡ next → made ++ was ∷ rest ≡ whole → (made ++ next ∷ []) ++ rest ≡ whole
made_more made next was rest whole same is =
    let moved : (made ++ next ∷ []) ++ rest ≡ made ++ next ∷ rest = simp append_assoc in
    moved ∙ ap (λ x. made ++ x ∷ rest) (sym same) ∙ is
