-- The groups that a group stands for.
use Rattle.std.specs.Prelude.{ℕ, List, ◌∷◌, length, filter, Bool, cond, not, nat_eq}
use Rattle.std.specs.List.{concat}
use Rattle.fv_graph.specs.Recursion.{value}
use Rattle.fv_declare_schema.specs.Groups.{Groups, inherit_next}
use Rattle.fv_declare_schema.specs.Once.{once}

-- a group and those that it inherits, directly or through others, each once: itself, and what those stand for that it names
abbrev pub below : Groups → ℕ → List ℕ
below gs g = value (λ h lists. once (h ∷ concat lists)) (inherit_next gs) (length gs) g

-- the same, but for `Default`, whose number is 0, where a sequence stands in its place
abbrev pub groups_at : Groups → Bool → ℕ → List ℕ
groups_at gs redefined g = cond redefined (filter (λ h. not (nat_eq h 0)) (below gs g)) (below gs g)
