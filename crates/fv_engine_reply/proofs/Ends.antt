-- Lines with their ends.
use Rattle.std.proofs.Common.{◌≡◌, ◌∷◌, [], ℕ, List, ◌++◌, length, take, length-append, refl, ap, sym, ◌∙◌, arith}
use Rattle.fv_engine_lines.specs.Lines.{ended}
use Rattle.fv_engine_reply.specs.Content.{front}

take_first : (xs ys : List ℕ) → take (length xs) (xs ++ ys) ≡ xs
take_first [] ys = refl
take_first (x ∷ xs) ys = ap (λ l. x ∷ l) (take_first xs ys)

pub front_ended : (bs : List ℕ) → front (ended bs) ≡ bs
front_ended bs = ap (λ (k : ℕ). take k (ended bs)) (omega (arith, length-append bs (10 ∷ []))) ∙ take_first bs (10 ∷ [])

pub one_front : (xs ys : List ℕ) → ended xs ≡ ended ys → xs ≡ ys
one_front xs ys e = sym (front_ended xs) ∙ ap front e ∙ front_ended ys
