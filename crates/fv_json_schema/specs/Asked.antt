-- What is asked of the data at a place: which data it takes, but for patterns.
use Rattle.std.specs.Prelude.{◌≡◌, ℕ, ℤ, ◌<◌, ◌≤◌, ◌^◌, unsigned_abs, ◌≤ℤ◌, Bool, true, false, int_le, int_lt, ◌⊎◌, FitsSigned, Some, slice_get, if◌then◌else◌}
use Rattle.std.specs.Int.{w64}
use Rattle.fv_builtin.specs.BuiltIns.{BuiltIn, not_blank, pattern}
use Rattle.fv_builtin.specs.BuiltIns as built
use Rattle.fv_builtin.specs.Says.{says}
use Rattle.fv_builtin.specs.Sizes.{utf16_size, item_count, entry_count}
use Rattle.fv_constraint_tree.specs.Nodes.{Node, built_in}
use Rattle.fv_constraint_tree.specs.Preorder.{preorder}
use Rattle.fv_constraint_tree.specs.Trees.{Tree, size}
use Rattle.fv_datum.specs.Data.{Data, null, text, integer, decimal, boolean, date, instant, reference, list, map, optional}
use Rattle.fv_datum.specs.Moments.{IsMoment}
use Rattle.fv_datum.specs.declared.kind.Kind.{Kind}
use Rattle.fv_datum.specs.declared.kind.Kind.TheVariants as kind
use Rattle.fv_json_schema.specs.Bounds.{units_of}
use Rattle.fv_json_schema.specs.declared.asked.Asked.{Asked}

-- the most units of a text, and the most entries of a list or of a map
abbrev pub most_size : ℕ
most_size = 65536

-- null, or a datum of a kind within the limits of data
abbrev pub IsOf : Data → Kind → Type 0
IsOf null k = Unit {0}
IsOf (text s) k = (k ≡ kind.Text) × (utf16_size s ≤ most_size)
IsOf (integer n) k = (k ≡ kind.Integer) × FitsSigned w64 n
IsOf (decimal s) k = k ≡ kind.Decimal
IsOf (boolean b) k = k ≡ kind.Boolean
IsOf (date s) k = k ≡ kind.Date
IsOf (instant n) k = (k ≡ kind.Instant) × IsMoment n
IsOf (reference s) k = k ≡ kind.Ref
IsOf (list ds) k = (k ≡ kind.List) × (item_count ds ≤ most_size)
IsOf (map es) k = (k ≡ kind.Map) × (entry_count es ≤ most_size)
IsOf (optional d) k = k ≡ kind.Optional

-- a number is within the bounds that are asked
abbrev pub IsWithin : Asked → ℤ → Type 0
IsWithin a n = (a.least ≤ℤ n) × (n ≤ℤ a.most)

-- a size is one that is asked
abbrev pub IsSized : Asked → ℕ → Type 0
IsSized a n = (a.smallest ≤ n) × (n ≤ a.largest)

-- what is asked takes a datum, as far as patterns don't refuse it
abbrev pub Takes : Asked → Data → Type 0
Takes a null = a.refuses_null ≡ false
Takes a (text s) = (a.refuses_data ≡ false) × IsSized a (utf16_size s)
Takes a (integer n) = (a.refuses_data ≡ false) × IsWithin a n
Takes a (decimal s) = a.refuses_data ≡ false
Takes a (boolean b) = (a.refuses_data ≡ false) × ((if b then a.takes_true else a.takes_false) ≡ true)
Takes a (date s) = a.refuses_data ≡ false
Takes a (instant n) = (a.refuses_data ≡ false) × IsWithin a n
Takes a (reference s) = a.refuses_data ≡ false
Takes a (list ds) = (a.refuses_data ≡ false) × IsSized a (item_count ds)
Takes a (map es) = (a.refuses_data ≡ false) × IsSized a (entry_count es)
Takes a (optional d) = a.refuses_data ≡ false

-- a number is from a bound, or with `inclusive` the bound itself
abbrev pub is_from : ℤ → Bool → ℤ → Bool
is_from bound inclusive n = if inclusive then int_le bound n else int_lt bound n

-- a number is up to a bound, or with `inclusive` the bound itself
abbrev pub is_up_to : ℤ → Bool → ℤ → Bool
is_up_to bound inclusive n = if inclusive then int_le n bound else int_lt n bound

-- the second has the bounds of numbers of the first
abbrev pub HasBoundsOf : Asked → Asked → Type 0
HasBoundsOf old new = (new.least ≡ old.least) × (new.most ≡ old.most)

-- a whole number of 64 bits from the least one that passes a test is so still
abbrev pub IsSoundFrom : (ℤ → Bool) → Asked → Asked → Type 0
IsSoundFrom test old new = (n : ℤ) → FitsSigned w64 n → old.least ≤ℤ n → test (units_of n) ≡ true → new.least ≤ℤ n

-- of integers those from the least one pass a test, if one of 64 bits does
abbrev pub SaysFrom : (ℤ → Bool) → Asked → Asked → Type 0
SaysFrom test old new = old.kind ≡ kind.Integer → (m n : ℤ) → FitsSigned w64 m → FitsSigned w64 n → test (units_of m) ≡ true → new.least ≤ℤ n
    → test (units_of n) ≡ true

-- a whole number of 64 bits up to the greatest one that passes a test is so still
abbrev pub IsSoundUpTo : (ℤ → Bool) → Asked → Asked → Type 0
IsSoundUpTo test old new = (n : ℤ) → FitsSigned w64 n → n ≤ℤ old.most → test (units_of n) ≡ true → n ≤ℤ new.most

-- of integers those up to the greatest one pass a test, if one of 64 bits does
abbrev pub SaysUpTo : (ℤ → Bool) → Asked → Asked → Type 0
SaysUpTo test old new = old.kind ≡ kind.Integer → (m n : ℤ) → FitsSigned w64 m → FitsSigned w64 n → test (units_of m) ≡ true → n ≤ℤ new.most
    → test (units_of n) ≡ true

-- a whole number of 64 bits within bounds is within others, if it has at most so many digits
abbrev pub TakesDigits : ℕ → Asked → Asked → Type 0
TakesDigits count old new = (n : ℤ) → FitsSigned w64 n → IsWithin old n → unsigned_abs n < 10 ^ count → IsWithin new n

-- integers within bounds have at most so many digits
abbrev pub SaysDigits : ℕ → Asked → Asked → Type 0
SaysDigits count old new = old.kind ≡ kind.Integer → (n : ℤ) → FitsSigned w64 n → IsWithin new n → unsigned_abs n < 10 ^ count

-- a constraint is wholly said of a datum by what is asked: of decimals, dates and instants it isn't, of texts not where a pattern says it
abbrev pub is_said : Data → BuiltIn → Bool
is_said (text s) not_blank = false
is_said (text s) (pattern re) = false
is_said (decimal s) b = false
is_said (date s) b = false
is_said (instant n) b = false
is_said d b = true

-- some whole number of 64 bits meets the constraint; or it is Null, which none meets
abbrev pub HasWhole : BuiltIn → ℤ → Type 0
HasWhole b now = (b ≡ built.null) ⊎ ((n : ℤ) × FitsSigned w64 n × (says b (integer n) now ≡ true))

-- what was asked of a kind's data with what a constraint asks: no datum is refused that was taken and meets the constraint, none is taken that
-- was refused, nor one that fails the constraint, where that is said
pub record Adds (old new : Asked) (b : BuiltIn) : Type 0 where
  pub same_kind : new.kind ≡ old.kind
  pub sound : (d : Data) (now : ℤ) → IsOf d old.kind → Takes old d → says b d now ≡ true → Takes new d
  pub kept : (d : Data) → IsOf d old.kind → Takes new d → Takes old d
  pub said : (d : Data) (now : ℤ) → IsOf d old.kind → is_said d b ≡ true → HasWhole b now → Takes new d → says b d now ≡ true

-- one of the first nodes of a tree, in preorder, is this one and asks the built-in constraint
pub record Asks (t : Tree Node) (count : ℕ) (n : Node) (b : BuiltIn) : Type 0 where
  pub place : ℕ
  pub below : ℕ
  pub early : place < count
  pub there : slice_get (preorder t) place ≡ Some (n, below)
  pub asked : n.test ≡ built_in b

-- the same of what the first nodes of a tree ask
pub record AddsFirst (old new : Asked) (t : Tree Node) (count : ℕ) : Type 0 where
  pub same_kind : new.kind ≡ old.kind
  pub sound : (d : Data) (now : ℤ) → IsOf d old.kind → Takes old d → ((n : Node) (b : BuiltIn) → Asks t count n b → says b d now ≡ true) → Takes new d
  pub kept : (d : Data) → IsOf d old.kind → Takes new d → Takes old d
  pub said : (d : Data) (now : ℤ) → IsOf d old.kind → Takes new d → (n : Node) (b : BuiltIn) → Asks t count n b → is_said d b ≡ true → HasWhole b now → says b d now ≡ true

-- the same of what the nodes of a tree ask
abbrev pub AddsAll : Asked → Asked → Tree Node → Type 0
AddsAll old new t = AddsFirst old new t (size t)
