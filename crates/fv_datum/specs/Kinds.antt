-- Kinds, and the data of a kind.
use Rattle.std.specs.Prelude.{◌≡◌, ◌⊎◌, ℕ, ℤ, List, Bool, true, false, FitsSigned}
use Rattle.std.specs.Int.{w64}
use Rattle.fv_datum.specs.Data.{Data, null, text, integer, decimal, boolean, date, instant, reference}
use Rattle.fv_datum.specs.Days.{is_date}
use Rattle.fv_datum.specs.Decimals.{is_decimal}
use Rattle.fv_datum.specs.Moments.{is_moment}
use Rattle.fv_datum.specs.Name.{names}
use Rattle.fv_datum.specs.declared.kind.Kind.{Kind}
use Rattle.fv_datum.specs.declared.kind.Kind.TheVariants.{Text, Integer, Decimal, Boolean, Date, Instant, Ref, List as list_kind, Map, Optional}

-- lists, maps and optionals hold data of their own; the other kinds are plain
abbrev pub is_container : Kind → Bool
is_container list_kind = true
is_container Map = true
is_container Optional = true
is_container _ = false

-- a datum of a plain kind other than null: a whole number of 64 bits, a text of the kind's form, a moment, a name
abbrev pub IsOfKind : Kind → Data → Type 0
IsOfKind Text d = (s : List ℕ) × (d ≡ text s)
IsOfKind Integer d = (n : ℤ) × FitsSigned w64 n × (d ≡ integer n)
IsOfKind Decimal d = (s : List ℕ) × (is_decimal s ≡ true) × (d ≡ decimal s)
IsOfKind Boolean d = (b : Bool) × (d ≡ boolean b)
IsOfKind Date d = (s : List ℕ) × (is_date s ≡ true) × (d ≡ date s)
IsOfKind Instant d = (n : ℤ) × (is_moment n ≡ true) × (d ≡ instant n)
IsOfKind Ref d = (s : List ℕ) × (names s ≡ true) × (d ≡ reference s)
IsOfKind _ d = ⊥

-- null, or a datum of the plain kind
abbrev pub FitsKind : Kind → Data → Type 0
FitsKind kind d = (d ≡ null) ⊎ IsOfKind kind d
