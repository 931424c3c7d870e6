-- A rule's number among validators, and among what is known of them.
use Rattle.std.proofs.Common.{◌≡◌, ℕ, List, [], ◌∷◌, map, refl}
use Rattle.fv_datum.specs.declared.kind.Kind.{Kind}
use Rattle.fv_registry.specs.Rules.{has_rule}

pub paired : {V : Type 0} (rule : V → ℕ) (kinds : V → List Kind) (r : ℕ) (vs : List V)
    → has_rule r (map (λ (p : ℕ × List Kind). p.0) (map (λ v. (rule v, kinds v)) vs)) ≡ has_rule r (map rule vs)
paired rule kinds r [] = refl
paired rule kinds r (v ∷ vs) = rw (paired rule kinds r vs) refl
