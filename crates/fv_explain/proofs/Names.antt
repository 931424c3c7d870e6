-- The names of groups, one after another.
use Rattle.std.proofs.Common.{◌≡◌, ◌++◌, ◌∷◌, ◌∙◌, ℕ, List, [], ap, sym, Bor}
use Rattle.std.proofs.lemmas.List.{map_push}
use Rattle.fv_declare_schema.specs.Groups.{Groups, name_at}
use Rattle.fv_explain.specs.Explained.{group_names}
use Rattle.fv_explain.specs.Lines.{names_in}

-- one name more
pub names_push : (gs : Groups) (names : List (Bor (List ℕ))) (found : List ℕ) (x : Bor (List ℕ)) (n : ℕ) → names_in names ≡ group_names gs found
    → x.now ≡ name_at gs n → names_in (names ++ x ∷ []) ≡ group_names gs (found ++ n ∷ [])
names_push gs names found x n are is =
    map_push (λ (b : Bor (List ℕ)). b.now) names x ∙ ap (λ (l : List (List ℕ)). l ++ x.now ∷ []) are
    ∙ ap (λ (l : List ℕ). group_names gs found ++ l ∷ []) is ∙ sym (map_push (name_at gs) found n)
