-- The messages of the built-in constraints.
use Rattle.std.specs.Prelude.{ℕ, List, [], ◌∷◌, ◌++◌, map, codes}

-- the key of a built-in constraint's message
abbrev pub built_in_key : List ℕ → List ℕ
built_in_key name = codes "jakarta.validation.constraints." ++ (name ++ codes ".message")

-- the built-in constraints, by their names, with the texts of their messages
unfoldable pub built_in_texts : List (List ℕ × List ℕ)
built_in_texts =
    (codes "Null", codes "must be null")
    ∷ (codes "NotNull", codes "must not be null")
    ∷ (codes "AssertTrue", codes "must be true")
    ∷ (codes "AssertFalse", codes "must be false")
    ∷ (codes "Min", codes "must be greater than or equal to {value}")
    ∷ (codes "Max", codes "must be less than or equal to {value}")
    ∷ (codes "DecimalMin", codes "must not be below {value} (inclusive: {inclusive})")
    ∷ (codes "DecimalMax", codes "must not be above {value} (inclusive: {inclusive})")
    ∷ (codes "Positive", codes "must be greater than 0")
    ∷ (codes "PositiveOrZero", codes "must be greater than or equal to 0")
    ∷ (codes "Negative", codes "must be less than 0")
    ∷ (codes "NegativeOrZero", codes "must be less than or equal to 0")
    ∷ (codes "Digits", codes "numeric value out of bounds (<{integer} digits>.<{fraction} digits> expected)")
    ∷ (codes "Size", codes "size must be between {min} and {max}")
    ∷ (codes "NotEmpty", codes "must not be empty")
    ∷ (codes "NotBlank", codes "must not be blank")
    ∷ (codes "Past", codes "must be a past date")
    ∷ (codes "PastOrPresent", codes "must be a date in the past or in the present")
    ∷ (codes "Future", codes "must be a future date")
    ∷ (codes "FutureOrPresent", codes "must be a date in the present or in the future")
    ∷ (codes "Pattern", codes "must match \"{regexp}\"")
    ∷ []

-- the texts by the keys of messages
abbrev pub built_in_messages : List (List ℕ × List ℕ)
built_in_messages = map (λ m. (codes "jakarta.validation.constraints." ++ (m.0 ++ codes ".message"), m.1)) built_in_texts
