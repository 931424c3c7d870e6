-- What a reader gave up to a limit.
use Rattle.std.proofs.Common.{◌≡◌, ℕ, ◌≤◌, ◌<◌, List, [], ◌++◌, length, take, Option, Some, None, IfSome, ap, ◌∙◌, arith}
use Rattle.std.proofs.lemmas.List.{take_all, length-take}

-- no more than is read is all that the reader had
pub front_is_all : (known : Option (List ℕ)) (before xs : List ℕ) → before ≡ []
    → IfSome known (λ given. xs ≡ before ++ take 16777217 given) → length xs ≤ 16777216 → IfSome known (λ given. xs ≡ given)
front_is_all None before xs none front short = tt
front_is_all (Some given) before xs none front short =
    let cut : xs ≡ take 16777217 given = front ∙ ap (λ b. b ++ take 16777217 given) none in
    cut ∙ take_all 16777217 given (omega (arith, ap length cut, length-take 16777217 given))

-- where more came than is read, the reader had more
pub front_is_long : (known : Option (List ℕ)) (before xs : List ℕ) → before ≡ []
    → IfSome known (λ given. xs ≡ before ++ take 16777217 given) → 16777216 < length xs → IfSome known (λ given. 16777216 < length given)
front_is_long None before xs none front long = tt
front_is_long (Some given) before xs none front long =
    let cut : xs ≡ take 16777217 given = front ∙ ap (λ b. b ++ take 16777217 given) none in
    omega (arith, long, ap length cut, length-take 16777217 given)
