-- Where a record's text reads back, only want of memory refuses it.
use Rattle.std.proofs.Common.{◌≡◌, ◌≢◌, Some, Result, Ok, Err, IsErrAnd, refl, ◌∙◌}
use Rattle.fv_bundle.specs.Bundles.{Bundled}
use Rattle.fv_datum.specs.Outcomes.{Gives}
use Rattle.fv_store.specs.declared.fault.StoreFault.{StoreFault}
use Rattle.fv_store.specs.declared.fault.StoreFault.TheVariants.{Store, Memory}

-- want of memory may come whatever is given
pub gives_memory : {X Y : Type 0} (view : X → Y) (r : Result X StoreFault) (given : Result Y StoreFault) (f : StoreFault) → IsErrAnd r (λ e. e ≡ f) → f ≡ Memory → Gives Memory view r given
gives_memory view (Ok x) given f h is = absurd h
gives_memory view (Err e) given f h is = λ other. absurd (other (h ∙ is))

pub same_value : {X : Type 0} (a b : X) → Some a ≡ Some b → a ≡ b
same_value a b e = cc

-- a fault of the store is want of memory, where there is something to give
pub store_memory : (e : StoreFault) (b : Bundled) → (e ≢ Memory → ◌≡◌ {A = Result Bundled StoreFault} (Ok b) (Err e)) → e ≡ Memory
store_memory Memory b h = refl
store_memory Store b h = absurd (let never = h (λ e. cc) in cc)

pub same_ok : (a b : Bundled) → ◌≡◌ {A = Result Bundled StoreFault} (Ok a) (Ok b) → a ≡ b
same_ok a b e = cc
