-- The attributes that constraints lack.
use Rattle.std.proofs.Common.{◌≡◌, ℕ, List, [], ◌∷◌, map, filter, Bool, true, false, not, ◌&&◌, ◌||◌, cond, Option, is_some, refl, ap}
use Rattle.std.specs.List.{list_any}
use Rattle.fv_builtin.specs.Table as table
use Rattle.fv_builtin.specs.Table.{required_attributes}
use Rattle.fv_builtin.specs.declared.name.BuiltinName.{BuiltinName}
use Rattle.fv_constraint.specs.Composing.{signature_attributes, is_set, lacks_attribute}
use Rattle.fv_constraint.specs.Meanings.{builtin}
use Rattle.fv_datum.specs.Attributes.{AttributeValue}
use Rattle.fv_datum.specs.declared.attribute_kind.AttributeKind.{AttributeKind}
use Rattle.fv_declare_definition.specs.Definitions.{Composing}

-- a test of what elements are seen as is one of the elements
pub any_seen : {X Y : Type 0} (test : Y → Bool) (f : X → Y) (xs : List X) → list_any (λ x. test (f x)) xs ≡ list_any test (map f xs)
any_seen test f [] = refl
any_seen test f (x ∷ xs) = ap (λ b. test (f x) || b) (any_seen test f xs)

lacking : (set : List ℕ → Bool) (xs : List (List ℕ × (AttributeKind × Option AttributeValue)))
    → list_any {X = List ℕ × (AttributeKind × Bool)} (λ a. not a.1.1 && not (set a.0)) (map (λ a. (a.0, (a.1.0, is_some a.1.1))) xs)
    ≡ list_any (λ n. not (set n)) (map (λ a. a.0) (filter (λ a. not (is_some a.1.1)) xs))
lacking set [] = refl
lacking set (x ∷ xs) = go (is_some x.1.1) (lacking set xs)
  where
    go : (b : Bool)
        → list_any {X = List ℕ × (AttributeKind × Bool)} (λ a. not a.1.1 && not (set a.0)) (map (λ a. (a.0, (a.1.0, is_some a.1.1))) xs)
        ≡ list_any (λ n. not (set n)) (map (λ a. a.0) (filter (λ a. not (is_some a.1.1)) xs))
        → ((not b && not (set x.0)) || list_any {X = List ℕ × (AttributeKind × Bool)} (λ a. not a.1.1 && not (set a.0)) (map (λ a. (a.0, (a.1.0, is_some a.1.1))) xs))
        ≡ list_any (λ n. not (set n)) (map (λ a. a.0) (cond (not b) (x ∷ filter (λ a. not (is_some a.1.1)) xs) (filter (λ a. not (is_some a.1.1)) xs)))
    go true later = later
    go false later = ap (λ rest. not (set x.0) || rest) later

-- a built-in constraint lacks an attribute where one that it requires is neither given nor overridden
pub lacks_required : (which : BuiltinName) (c : Composing) → lacks_attribute (signature_attributes (builtin which)) c ≡ list_any (λ n. not (is_set c n)) (required_attributes which)
lacks_required which c = lacking (is_set c) (table.attributes_of which)
