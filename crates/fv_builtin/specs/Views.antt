-- What the crate's types stand for.
use Rattle.std.specs.Prelude.{Result, Ok, Err}
use Rattle.regex.specs.Strings.{regex_pattern}
use Rattle.fv_builtin.specs.Given.{Draft, ready, to_match}
use Rattle.fv_builtin.specs.BuiltIns.{BuiltIn}
use Rattle.fv_builtin.specs.BuiltIns as built
use Rattle.fv_builtin.specs.declared.draft.Draft as draft
use Rattle.fv_builtin.specs.declared.draft.Draft.TheVariants.{Ready, ToMatch}
use Rattle.fv_builtin.specs.declared.builtin.Builtin.{Builtin}
use Rattle.fv_builtin.specs.declared.builtin.Builtin.TheVariants.{Null, NotNull, AssertTrue, AssertFalse, Min, Max, DecimalMin, DecimalMax, Positive, PositiveOrZero, Negative, NegativeOrZero, Digits, Size, NotEmpty, NotBlank, Past, PastOrPresent, Future, FutureOrPresent, Pattern}

-- the constraint that a built-in is
abbrev pub builtin_view : Builtin → BuiltIn
builtin_view Null = built.null
builtin_view NotNull = built.not_null
builtin_view AssertTrue = built.assert_true
builtin_view AssertFalse = built.assert_false
builtin_view (Min units) = built.min units
builtin_view (Max units) = built.max units
builtin_view (DecimalMin units inclusive) = built.decimal_min units inclusive
builtin_view (DecimalMax units inclusive) = built.decimal_max units inclusive
builtin_view Positive = built.positive
builtin_view PositiveOrZero = built.positive_or_zero
builtin_view Negative = built.negative
builtin_view NegativeOrZero = built.negative_or_zero
builtin_view (Digits integer fraction) = built.digits integer fraction
builtin_view (Size min max) = built.size min max
builtin_view NotEmpty = built.not_empty
builtin_view NotBlank = built.not_blank
builtin_view Past = built.past
builtin_view PastOrPresent = built.past_or_present
builtin_view Future = built.future
builtin_view FutureOrPresent = built.future_or_present
builtin_view (Pattern regex) = built.pattern (regex_pattern regex.value.regex.now)

-- the same, of an answer
abbrev pub answer_view : {E : Type 0} → Result Builtin E → Result BuiltIn E
answer_view (Ok b) = Ok (builtin_view b)
answer_view (Err e) = Err e

-- the draft that a draft of the code is
abbrev pub draft_view : draft.Draft → Draft
draft_view (Ready b) = ready (builtin_view b)
draft_view (ToMatch s) = to_match s.now
