-- The constraint that a built-in's name is with the attributes that are given.
use Rattle.std.specs.Prelude.{◌≡◌, ℕ, ◌^◌, ◌*ℤ◌, ℤ, pos, List, Bool, true, false, not, nat_le, nat_lt, Option, Some, None, option_map, option_and_then, Result, Ok, Err, if◌then◌else◌, codes}
use Rattle.std.specs.List.{list_any}
use Rattle.std.specs.Option.{option_or, option_zip}
use Rattle.fv_datum.specs.AttributeKinds.{attribute_kind}
use Rattle.fv_datum.specs.Attributes.{AttributeValue, integer_in, text_in, boolean_in, Attributes}
use Rattle.fv_datum.specs.Decimals.{decimal_units}
use Rattle.fv_datum.specs.Lookup.{at_name}
use Rattle.fv_datum.specs.declared.attribute_kind.AttributeKind.{AttributeKind}
use Rattle.fv_datum.specs.declared.attribute_kind.AttributeKind.TheVariants as attribute
use Rattle.regex.specs.Patterns.{Re}
use Rattle.regex.specs.declared.error.Error.{Error}
use Rattle.regex.specs.declared.error.Error.TheVariants.{OutOfMemory}
use Rattle.regex.specs.declared.string.regex.Regex.{Regex}
use Rattle.fv_builtin.specs.Matches.{anchored, IsPatternOf, IsNoPattern}
use Rattle.fv_builtin.specs.BuiltIns.{BuiltIn}
use Rattle.fv_builtin.specs.BuiltIns as built
use Rattle.fv_builtin.specs.Table.{kind_of_attribute, default_of}
use Rattle.fv_builtin.specs.declared.fault.BuiltinFault.{BuiltinFault}
use Rattle.fv_builtin.specs.declared.fault.BuiltinFault.TheVariants.{Attribute, UnexpectedType, BadPattern, Memory}
use Rattle.fv_builtin.specs.declared.name.BuiltinName.{BuiltinName}
use Rattle.fv_builtin.specs.declared.name.BuiltinName.TheVariants.{Null, NotNull, AssertTrue, AssertFalse, Min, Max, DecimalMin, DecimalMax, Positive, PositiveOrZero, Negative, NegativeOrZero, Digits, Size, NotEmpty, NotBlank, Past, PastOrPresent, Future, FutureOrPresent, Pattern}

-- ---- the values in effect

-- the value in effect of a constraint's attribute: as it is given, else its default
abbrev pub in_effect : BuiltinName → Attributes → List ℕ → Option AttributeValue
in_effect which given name = option_or (at_name name given) (default_of which name)

-- a whole number from 0 to 2147483647
abbrev pub count_in : ℤ → Option ℕ
count_in (pos n) = if nat_le n 2147483647 then Some n else None
count_in _ = None

-- the integer in effect of an attribute, none where it has no value or one of another kind
abbrev pub integer_at : BuiltinName → Attributes → List ℕ → Option ℤ
integer_at which given name = option_and_then integer_in (in_effect which given name)

-- the text in effect of an attribute, none where it has no value or one of another kind
abbrev pub text_at : BuiltinName → Attributes → List ℕ → Option (List ℕ)
text_at which given name = option_and_then text_in (in_effect which given name)

-- the boolean in effect of an attribute, none where it has no value or one of another kind
abbrev pub boolean_at : BuiltinName → Attributes → List ℕ → Option Bool
boolean_at which given name = option_and_then boolean_in (in_effect which given name)

-- the integer in effect of an attribute, if it is from 0 to 2147483647
abbrev pub count_at : BuiltinName → Attributes → List ℕ → Option ℕ
count_at which given name = option_and_then count_in (integer_at which given name)

-- ---- what is refused of them

-- two kinds of attributes are equal
abbrev pub is_same : AttributeKind → AttributeKind → Bool
is_same attribute.Integer attribute.Integer = true
is_same attribute.Text attribute.Text = true
is_same attribute.Boolean attribute.Boolean = true
is_same attribute.Texts attribute.Texts = true
is_same _ _ = false

-- the constraint has the attribute, and it is of the kind
abbrev pub has_kind : Option AttributeKind → AttributeKind → Bool
has_kind None k = false
has_kind (Some wanted) k = is_same wanted k

-- an attribute is given that the constraint doesn't have, or has with another kind
abbrev pub has_foreign : BuiltinName → Attributes → Bool
has_foreign which = list_any (λ a. not (has_kind (kind_of_attribute which a.0) (attribute_kind a.1)))

-- ---- the constraint

-- a constraint with its attributes in effect, or the text of a pattern that is still to be read
pub data Draft : Type 0 where
  ready : BuiltIn → Draft
  to_match : List ℕ → Draft

-- a bound that is a whole number, in units of 10^-9
abbrev pub whole_bound : BuiltinName → Attributes → Option ℤ
whole_bound which given = option_map (λ n. n *ℤ pos (10 ^ 9)) (integer_at which given (codes "value"))

-- a bound that is a decimal, in the same units, and whether it is included
abbrev pub decimal_bound : BuiltinName → Attributes → Option (ℤ × Bool)
decimal_bound which given = option_zip (option_and_then decimal_units (text_at which given (codes "value"))) (boolean_at which given (codes "inclusive"))

-- the least and the greatest size in effect, if each is a count and the second is not below the first
abbrev pub size_bounds : Attributes → Option (ℕ × ℕ)
size_bounds given =
    option_and_then (λ p. if nat_lt p.1 p.0 then None else Some p) (option_zip (count_at Size given (codes "min")) (count_at Size given (codes "max")))

-- what the attributes make of a constraint: none where one is missing or has a value that the constraint refuses
abbrev pub accepted : BuiltinName → Attributes → Option Draft
accepted Null given = Some (ready built.null)
accepted NotNull given = Some (ready built.not_null)
accepted AssertTrue given = Some (ready built.assert_true)
accepted AssertFalse given = Some (ready built.assert_false)
accepted Min given = option_map (λ n. ready (built.min n)) (whole_bound Min given)
accepted Max given = option_map (λ n. ready (built.max n)) (whole_bound Max given)
accepted DecimalMin given = option_map (λ p. ready (built.decimal_min p.0 p.1)) (decimal_bound DecimalMin given)
accepted DecimalMax given = option_map (λ p. ready (built.decimal_max p.0 p.1)) (decimal_bound DecimalMax given)
accepted Positive given = Some (ready built.positive)
accepted PositiveOrZero given = Some (ready built.positive_or_zero)
accepted Negative given = Some (ready built.negative)
accepted NegativeOrZero given = Some (ready built.negative_or_zero)
accepted Digits given =
    option_map (λ p. ready (built.digits p.0 p.1)) (option_zip (count_at Digits given (codes "integer")) (count_at Digits given (codes "fraction")))
accepted Size given = option_map (λ p. ready (built.size p.0 p.1)) (size_bounds given)
accepted NotEmpty given = Some (ready built.not_empty)
accepted NotBlank given = Some (ready built.not_blank)
accepted Past given = Some (ready built.past)
accepted PastOrPresent given = Some (ready built.past_or_present)
accepted Future given = Some (ready built.future)
accepted FutureOrPresent given = Some (ready built.future_or_present)
accepted Pattern given = option_map (λ s. to_match s) (text_at Pattern given (codes "regexp"))

-- the same, but none also where an attribute is foreign
abbrev pub drafted : BuiltinName → Attributes → Option Draft
drafted which given = if has_foreign which given then None else accepted which given

-- ---- what is read

-- the answer of the regex crate: a pattern that isn't built for another cause than memory is a bad one
abbrev pub answer_of : Result Regex Error → Result Regex BuiltinFault
answer_of (Ok regex) = Ok regex
answer_of (Err OutOfMemory) = Err Memory
answer_of (Err _) = Err BadPattern

-- what a pattern's text is read as: the pattern of the text between its anchors, or a refusal of the regex crate, or
-- want of memory
abbrev pub IsBuilt : List ℕ → Result BuiltIn BuiltinFault → Type 0
IsBuilt regexp (Ok r) = (re : Re) × IsPatternOf (anchored regexp) re × (r ≡ built.pattern re)
IsBuilt regexp (Err BadPattern) = IsNoPattern (anchored regexp)
IsBuilt regexp (Err Memory) = Unit {0}
IsBuilt regexp (Err _) = ⊥

-- what is wrong with the attributes comes before the kind, and that before the pattern
abbrev pub IsRead : Option Draft → Bool → Result BuiltIn BuiltinFault → Type 0
IsRead None takes answer = answer ≡ Err Attribute
IsRead (Some draft) false answer = answer ≡ Err UnexpectedType
IsRead (Some (ready r)) true answer = answer ≡ Ok r
IsRead (Some (to_match regexp)) true answer = IsBuilt regexp answer
