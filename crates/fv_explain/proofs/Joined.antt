-- Names that are written one after another.
use Rattle.std.proofs.Common.{◌≡◌, ◌<◌, ◌≤◌, ◌+◌, ◌++◌, ◌∷◌, ◌∙◌, ℕ, List, [], get_or, length, map, take, ap, sym, append_assoc, Bor}
use Rattle.std.proofs.lemmas.List.{flat_map_more, map_more, take_all}
use Rattle.std.specs.List.{flat_map}
use Rattle.fv_explain.specs.Lines.{names_in, joined}

-- one name more
pub others_more : (between : List ℕ) (others : List (Bor (List ℕ))) (i : ℕ) (d : Bor (List ℕ)) → i < length others
    → (flat_map (λ n. between ++ n) (names_in (take i others)) ++ between) ++ (get_or others i d).now
    ≡ flat_map (λ n. between ++ n) (names_in (take (i + 1) others))
others_more between others i d h =
    append_assoc (flat_map (λ n. between ++ n) (names_in (take i others))) between (get_or others i d).now
    ∙ flat_map_more (λ n. between ++ n) [] (names_in (take i others)) (get_or others i d).now
    ∙ ap (flat_map (λ n. between ++ n)) (sym (map_more (λ (n : Bor (List ℕ)). n.now) others i d h))

-- all of them, behind the first
pub others_all : (between : List ℕ) (names others : List (Bor (List ℕ))) (first : List ℕ) (i : ℕ) → names_in names ≡ first ∷ names_in others
    → length others ≤ i
    → first ++ flat_map (λ n. between ++ n) (names_in (take i others)) ≡ joined between (names_in names)
others_all between names others first i is h =
    ap (λ (ns : List (Bor (List ℕ))). first ++ flat_map (λ n. between ++ n) (names_in ns)) (take_all i others h) ∙ ap (joined between) (sym is)
