-- What a group stands for at a type.
use Rattle.std.proofs.Common.{◌≡◌, ℕ, Bool, true, false, not, nat_eq, ◌↔◌, refl, subst}
use Rattle.fv_graph.specs.Graph.{mem, IsIn}
use Rattle.fv_graph.proofs.Lists.{eq_of, eq_same}
use Rattle.fv_declare_schema.specs.Groups.{Groups, Inherits}
use Rattle.fv_local.specs.Below.{below, groups_at}
use Rattle.fv_local.proofs.Below.{below_is}
use Rattle.fv_local.proofs.Members.{in_mem, mem_in, in_filter, same_test}

not_default : (h : ℕ) → not (nat_eq h 0) ≡ true → h ≡ 0 → ⊥
not_default h e is = let same : nat_eq h 0 ≡ true = subst (λ (w : ℕ). nat_eq h w ≡ true) is (eq_same h) in cc

another : (h : ℕ) → (h ≡ 0 → ⊥) → not (nat_eq h 0) ≡ true
another h none = go (nat_eq h 0) (λ e. none (eq_of h 0 e))
  where
    go : (b : Bool) → (b ≡ true → ⊥) → not b ≡ true
    go true never = absurd (never refl)
    go false never = refl

-- what a group inherits, but for `Default` where that is redefined
pub in_groups_at : (gs : Groups) (redefined : Bool) (g h : ℕ) → IsIn (groups_at gs redefined g) h ↔ (Inherits gs g h × (redefined ≡ true → h ≡ 0 → ⊥))
in_groups_at gs true g h = (
  λ k. (let kept = (in_filter (λ i. not (nat_eq i 0)) (below gs g) h).0 k in
      ((below_is gs g h).0 kept.0, λ e is. not_default h kept.1 is)),
  λ k. (in_filter (λ i. not (nat_eq i 0)) (below gs g) h).1 ((below_is gs g h).1 k.0, another h (k.1 refl)),
)
in_groups_at gs false g h = (λ k. ((below_is gs g h).0 k, λ e is. cc), λ k. (below_is gs g h).1 k.0)

pub left_out : (gs : Groups) (redefined : Bool) (g h : ℕ) → redefined ≡ true → h ≡ 0 → false ≡ mem (groups_at gs redefined g) h
left_out gs redefined g h is default =
    same_test false (mem (groups_at gs redefined g) h) (λ e. cc)
    (λ e. absurd (((in_groups_at gs redefined g h).0 (in_mem (groups_at gs redefined g) h e)).1 is default))

pub stands_where_inherited : (gs : Groups) (redefined : Bool) (g h : ℕ) (r : Bool) → (redefined ≡ true → h ≡ 0 → ⊥) → (r ≡ true) ↔ Inherits gs g h → r ≡ mem (groups_at gs redefined g) h
stands_where_inherited gs redefined g h r kept inherits =
    same_test r (mem (groups_at gs redefined g) h)
    (λ e. mem_in (groups_at gs redefined g) h ((in_groups_at gs redefined g h).1 (inherits.0 e, kept)))
    (λ e. inherits.1 ((in_groups_at gs redefined g h).0 (in_mem (groups_at gs redefined g) h e)).0)
