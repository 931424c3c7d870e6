-- Rules of objects: two dates in order, and a sum.
use Rattle.std.specs.Prelude.{ℕ, ℤ, ◌+ℤ◌, List, Bool, true, not, Option, Some, codes}
use Rattle.std.specs.Cmp.Lexicographic.{slice_cmp}
use Rattle.std.specs.Ordering.{nat_cmp, is_gt, int_eq}
use Rattle.fv_datum.specs.Attributes.{Attributes}
use Rattle.fv_bundle.specs.Bundles.{Thing}
use Rattle.fv_registry.specs.NamedFields.{named}
use Rattle.fv_house.specs.Named.{date_of, integer_of}

-- one date is no later than another. A date is four digits of the year, two of the month and two of the day, each with
-- its zeros and in this order, so texts by their bytes stand as the calendar's days do: `date_order` of fv_datum says so
abbrev pub no_later : List ℕ → List ℕ → Bool
no_later x y = not (is_gt (slice_cmp nat_cmp x y))

-- two dates are in order; nothing is asked where one is missing
abbrev pub in_order : Option (List ℕ) → Option (List ℕ) → Bool
in_order (Some x) (Some y) = no_later x y
in_order _ _ = true

-- the date that `start` names is no later than the one that `end` names, or one is missing
abbrev pub not_after : Thing → Attributes → Bool
not_after o attrs = in_order (date_of (named o attrs (codes "start"))) (date_of (named o attrs (codes "end")))

-- two numbers make the third; nothing is asked where one is missing
abbrev pub add_up : Option ℤ → Option ℤ → Option ℤ → Bool
add_up (Some x) (Some y) (Some z) = int_eq (x +ℤ y) z
add_up _ _ _ = true

-- the integers that `first` and `second` name make the one that `total` names, or one is missing
abbrev pub sum_is : Thing → Attributes → Bool
sum_is o attrs = add_up (integer_of (named o attrs (codes "first"))) (integer_of (named o attrs (codes "second"))) (integer_of (named o attrs (codes "total")))
