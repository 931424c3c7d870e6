-- The trees of uses.
use Rattle.std.proofs.Common.{◌≡◌, List, [], ◌∷◌, refl, ap, ◌∙◌}
use Rattle.fv_flatten.proofs.Unique.{unique}
use Rattle.fv_constraint.specs.Composed.{Planned}
use Rattle.fv_declare_definition.specs.Definitions.{Definitions}
use Rattle.fv_flatten.specs.Flattening.{Use, AreTreesOfUses}
use Rattle.fv_constraint_tree.specs.Trees.{Tree}

-- uses have one list of trees
pub trees_unique : (ds : Definitions) (us : List Use) (ts others : List (Tree Planned)) → AreTreesOfUses ds us ts → AreTreesOfUses ds us others → ts ≡ others
trees_unique ds [] [] [] x y = refl
trees_unique ds [] [] (o ∷ others) x y = absurd y
trees_unique ds [] (t ∷ ts) others x y = absurd x
trees_unique ds (u ∷ us) [] others x y = absurd x
trees_unique ds (u ∷ us) (t ∷ ts) [] x y = absurd y
trees_unique ds (u ∷ us) (t ∷ ts) (o ∷ others) x y =
    ap (λ v. v ∷ ts) (unique ds u.constraint u.message u.given t o x.0 y.0) ∙ ap (λ vs. o ∷ vs) (trees_unique ds us ts others x.1 y.1)
