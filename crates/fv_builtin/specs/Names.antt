-- The names of the built-in constraints.
use Rattle.std.specs.Prelude.{ℕ, List, [], ◌∷◌, Bool, Option, is_some, codes}
use Rattle.fv_datum.specs.Lookup.{at_name}
use Rattle.fv_builtin.specs.declared.name.BuiltinName.{BuiltinName}
use Rattle.fv_builtin.specs.declared.name.BuiltinName.TheVariants.{Null, NotNull, AssertTrue, AssertFalse, Min, Max, DecimalMin, DecimalMax, Positive, PositiveOrZero, Negative, NegativeOrZero, Digits, Size, NotEmpty, NotBlank, Past, PastOrPresent, Future, FutureOrPresent, Pattern}

-- the built-in constraints by their names
abbrev pub builtin_names : List (List ℕ × BuiltinName)
builtin_names =
    (codes "Null", Null)
    ∷ (codes "NotNull", NotNull)
    ∷ (codes "AssertTrue", AssertTrue)
    ∷ (codes "AssertFalse", AssertFalse)
    ∷ (codes "Min", Min)
    ∷ (codes "Max", Max)
    ∷ (codes "DecimalMin", DecimalMin)
    ∷ (codes "DecimalMax", DecimalMax)
    ∷ (codes "Positive", Positive)
    ∷ (codes "PositiveOrZero", PositiveOrZero)
    ∷ (codes "Negative", Negative)
    ∷ (codes "NegativeOrZero", NegativeOrZero)
    ∷ (codes "Digits", Digits)
    ∷ (codes "Size", Size)
    ∷ (codes "NotEmpty", NotEmpty)
    ∷ (codes "NotBlank", NotBlank)
    ∷ (codes "Past", Past)
    ∷ (codes "PastOrPresent", PastOrPresent)
    ∷ (codes "Future", Future)
    ∷ (codes "FutureOrPresent", FutureOrPresent)
    ∷ (codes "Pattern", Pattern)
    ∷ []

-- the constraint of a name, if it is built in
abbrev pub builtin_named : List ℕ → Option BuiltinName
builtin_named name = at_name name builtin_names

-- the name is that of a built-in constraint
abbrev pub is_builtin : List ℕ → Bool
is_builtin name = is_some (builtin_named name)
