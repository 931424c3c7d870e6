-- What a call makes of the service.
use Rattle.std.proofs.Common.{◌≡◌, ℕ, List, Ok, refl, sym, subst, ◌∙◌}
use Rattle.sqlite.specs.State.{State, HasCleanDisk}
use Rattle.fv_declare_judging.specs.Declares.{Declares}
use Rattle.fv_declare_schema.specs.Declarations.{Declarations}
use Rattle.fv_engine_machine.specs.Machines.{Machine, StandsFor, over, Becomes}
use Rattle.fv_engine_machine.specs.Services.{GoesOn, ServiceKeeps, Service, serving, with_mapped}
use Rattle.fv_registry.specs.Rules.{Known}
use Rattle.fv_store.specs.Records.{Records}
use Rattle.fv_store.specs.Stock.{Stock}

-- a relation between services
abbrev Relation : Type 1
Relation = Service Records → Service Records → Type 0

module _ {H : Type 0} (held : H → State) where
  -- the same, by a relation that follows from the first where the database stands for the records
  pub follows : (old new : Service H) (T U : Relation)
      → (HasCleanDisk (held new.machine.records) → (m n : Records) → ServiceKeeps held old m → ServiceKeeps held new n → T (with_mapped held old m) (with_mapped held new n) → U (with_mapped held old m) (with_mapped held new n))
      → GoesOn held old new T → GoesOn held old new U
  follows old new T U w going = record {
    known = going.known;
    declares = going.declares;
    clean = going.clean;
    related = λ c m stands. let t = going.related c m stands in (t.0, w c m t.0 stands t.2 t.1, t.2);
  }

  -- the same, by a relation that is weaker
  pub weaker : (old new : Service H) (T U : Relation) → ((x y : Service Records) → T x y → U x y) → GoesOn held old new T → GoesOn held old new U
  weaker old new T U w going = follows old new T U (λ c m n before after t. w _ _ t) going

  -- nothing is done
  pub rests : (e : Service H) (T : Relation) → ((x : Service Records) → T x x) → GoesOn held e e T
  rests e T same = record { known = refl; declares = λ d. d; clean = λ c. c; related = λ c m stands. (m, same _, stands) }

  -- one call and then another
  pub onwards : (a b c : Service H) (T U : Relation) → GoesOn held a b T → GoesOn held b c U → GoesOn held a c (λ x z. (y : Service Records) × T x y × U y z)
  onwards a b c T U one two = record {
    known = two.known ∙ one.known;
    declares = λ d. two.declares (one.declares d);
    clean = λ k. one.clean (two.clean k);
    related = λ k m stands.
        let t = one.related (two.clean k) m stands in
        let u = two.related k t.0 t.2 in
        (u.0, (_, t.1, u.1), u.2);
  }

module _ {S : Type 0} (held : Stock S → State) (known : Known) (ds : Declarations) (old new : Stock S) where
  -- what becomes of the machine over a store becomes of the service, where the text in force stays
  pub carried : (T : Machine Records → Machine Records → Type 0) → new.text ≡ old.text → Becomes held (over held ds old) (over held ds new) T
      → GoesOn held (serving held known ds old) (serving held known ds new) (λ x y. T x.machine y.machine × (y.text ≡ x.text) × (y.known ≡ x.known))
  carried T text becoming = record {
    known = refl;
    declares = λ d. subst (λ (t : List ℕ). Declares known t (Ok ds)) (sym text) d;
    clean = becoming.clean;
    related = λ c m stands.
        let t = becoming.related c old.text m stands in (
          t.0,
          (t.1, text, refl),
          subst (λ (bytes : List ℕ). StandsFor held bytes (over held ds new) t.0) (sym text) t.2,
        );
  }
