-- What each built-in constraint says of a datum at a moment.
use Rattle.std.specs.Prelude.{ℤ, pos, Bool, not, ◌&&◌, nat_le, nat_lt, int_le, int_lt, is_some, if◌then◌else◌}
use Rattle.std.specs.Ordering.{is_lt, is_gt}
use Rattle.regex.specs.Patterns.{find_str}
use Rattle.fv_datum.specs.Data.{Data}
use Rattle.fv_datum.specs.Written.{is_null}
use Rattle.fv_builtin.specs.BuiltIns.{BuiltIn, null, not_null, assert_true, assert_false, min, max, decimal_min, decimal_max, positive, positive_or_zero, negative, negative_or_zero, digits, size, not_empty, not_blank, past, past_or_present, future, future_or_present, pattern}
use Rattle.fv_builtin.specs.Passing.{passes, boolean_of, text_of}
use Rattle.fv_builtin.specs.Numbers.{number_of, has_integral, has_fraction}
use Rattle.fv_builtin.specs.Sizes.{size_of}
use Rattle.fv_builtin.specs.Times.{order_of}
use Rattle.std.specs.Char.{is_whitespace}
use Rattle.std.specs.List.{list_any}
use Rattle.std.specs.Str.{chars}

-- a built-in constraint holds of a datum at a moment. A datum that has no such truth value, number, size, text or place in
-- time passes, but null is refused by not_null, not_empty and not_blank
abbrev pub says : BuiltIn → Data → ℤ → Bool
says null d now = is_null d
says not_null d now = not (is_null d)
says assert_true d now = passes (λ b. b) (boolean_of d)
says assert_false d now = passes not (boolean_of d)
says (min bound) d now = passes (λ n. int_le bound n) (number_of d)
says (max bound) d now = passes (λ n. int_le n bound) (number_of d)
says (decimal_min bound inclusive) d now = passes (λ n. if inclusive then int_le bound n else int_lt bound n) (number_of d)
says (decimal_max bound inclusive) d now = passes (λ n. if inclusive then int_le n bound else int_lt n bound) (number_of d)
says positive d now = passes (λ n. int_lt (pos 0) n) (number_of d)
says positive_or_zero d now = passes (λ n. int_le (pos 0) n) (number_of d)
says negative d now = passes (λ n. int_lt n (pos 0)) (number_of d)
says negative_or_zero d now = passes (λ n. int_le n (pos 0)) (number_of d)
says (digits integer fraction) d now = passes (λ n. has_integral integer n && has_fraction fraction n) (number_of d)
says (size least most) d now = passes (λ n. nat_le least n && nat_le n most) (size_of d)
says not_empty d now = not (is_null d) && passes (λ n. nat_lt 0 n) (size_of d)
says not_blank d now = not (is_null d) && passes (λ s. list_any (λ c. not (is_whitespace c)) (chars s)) (text_of d)
says past d now = passes is_lt (order_of now d)
says past_or_present d now = passes (λ o. not (is_gt o)) (order_of now d)
says future d now = passes is_gt (order_of now d)
says future_or_present d now = passes (λ o. not (is_lt o)) (order_of now d)
says (pattern re) d now = passes (λ s. is_some (find_str re s 0)) (text_of d)
