-- The attributes of constraints, by their names.
use Rattle.std.proofs.Common.{◌≡◌, ℕ, List, [], ◌∷◌, map, Bool, true, false, cond, Option, Some, None, option_map, is_some, bytes_eq, refl}
use Rattle.fv_constraint.specs.Composing.{kind_in}
use Rattle.fv_datum.specs.Lookup.{at_name}
use Rattle.fv_datum.specs.declared.attribute_kind.AttributeKind.{AttributeKind}

pub is_some-map : {X Y : Type 0} (f : X → Y) (o : Option X) → is_some (option_map f o) ≡ is_some o
is_some-map f None = refl
is_some-map f (Some x) = refl

kind_step : {X : Type 0} (kind : X → AttributeKind × Bool) (b : Bool) (x : X) (rest : Option (AttributeKind × Bool)) (o : Option X)
    → option_map (λ a. a.0) rest ≡ option_map (λ x. (kind x).0) o → option_map (λ a. a.0) (cond b (Some (kind x)) rest) ≡ option_map (λ x. (kind x).0) (cond b (Some x) o)
kind_step kind true x rest o e = refl
kind_step kind false x rest o e = e

-- the kind of the attribute of a name, of attributes that are seen by their kinds
pub kind_seen : {X : Type 0} (kind : X → AttributeKind × Bool) (name : List ℕ) (es : List (List ℕ × X))
    → kind_in (map (λ e. (e.0, kind e.1)) es) name ≡ option_map (λ x. (kind x).0) (at_name name es)
kind_seen kind name [] = refl
kind_seen kind name (e ∷ es) = kind_step kind (bytes_eq name e.0) e.1 _ _ (kind_seen kind name es)
