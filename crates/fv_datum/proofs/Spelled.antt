-- What is spelled is of the kind, and what was written of a datum of the kind spells it.
use Rattle.std.proofs.Common.{◌≡◌, ℤ, pos, negsuc, ◌^◌, List, ℕ, Bool, true, false, cond, ◌&&◌, nat_le, ◌≤◌, ◌⊎◌, inl, inr, Option, Some, None, option_map, option_and_then, Result, Ok, Err, IfOk, refl, sym, ap, ◌∙◌, arith}
use Rattle.std.proofs.lemmas.Bool.{lt-ltb, ltb-true, leb-true}
use Rattle.std.specs.Prelude.{FitsSigned}
use Rattle.std.specs.Int.{w64}
use Rattle.std.specs.Option.{ok_or}
use Rattle.serde_json.specs.Data as json
use Rattle.serde_json.specs.Find.{as_str, as_bool, as_number, as_integer, of_integer}
use Rattle.fv_datum.specs.Outcomes.{Gives}
use Rattle.fv_datum.specs.Data.{Data, null, text, integer, decimal, boolean, date, instant, reference}
use Rattle.fv_datum.specs.Days.{is_date}
use Rattle.fv_datum.specs.Decimals.{is_decimal}
use Rattle.fv_datum.specs.Json.{is_null_json, is_of_64_bits, whole_of, passing, string_of, integer_of, plain, spelled, datum_read}
use Rattle.fv_datum.specs.Kinds.{FitsKind, IsOfKind}
use Rattle.fv_datum.specs.Moments.{is_moment}
use Rattle.fv_datum.specs.Name.{names}
use Rattle.fv_datum.specs.View.{view}
use Rattle.fv_datum.specs.Written.{datum_written}
use Rattle.fv_datum.specs.declared.datum.Datum.{Datum}
use Rattle.fv_datum.specs.declared.kind.Kind.{Kind}
use Rattle.fv_datum.specs.declared.kind.Kind.TheVariants as kind
use Rattle.fv_datum.specs.declared.fault.DatumFault.{DatumFault}
use Rattle.fv_datum.specs.declared.fault.DatumFault.TheVariants.{WrongKind, Memory}
use Rattle.fv_datum.proofs.Outcomes.{ok_found}

-- ---- what is spelled is of the kind

mapped : {X Y : Type 0} (f : X → Y) (o : Option X) (y : Y) → option_map f o ≡ Some y → (x : X) × (o ≡ Some x) × (y ≡ f x)
mapped f (Some x) y e = (x, refl, cc)
mapped f None y e = cc

chained : {X Y : Type 0} (f : X → Option Y) (o : Option X) (y : Y) → option_and_then f o ≡ Some y → (x : X) × (o ≡ Some x) × (f x ≡ Some y)
chained f (Some x) y e = (x, refl, e)
chained f None y e = cc

passed_if : {X : Type 0} (b : Bool) (x y : X) → cond b (Some x) None ≡ Some y → (b ≡ true) × (x ≡ y)
passed_if true x y e = (refl, cc)
passed_if false x y e = cc

-- what passes a test meets it
passed : {X : Type 0} (test : X → Bool) (x y : X) → passing test x ≡ Some y → test y ≡ true
passed test x y e = let both = passed_if (test x) x y e in rw both.1 at both.0

fits_64 : (z : ℤ) → is_of_64_bits z ≡ true → FitsSigned w64 z
fits_64 (pos n) e = record { sfits = ltb-true n (2 ^ 63) e }
fits_64 (negsuc n) e = record { sfits = ltb-true n (2 ^ 63) e }

integer-fits : (j : json.Data) (n : ℤ) → integer_of j ≡ Some n → FitsSigned w64 n
integer-fits j n e =
    let number = chained whole_of (as_number j) n e in
    let found = chained (passing is_of_64_bits) (as_integer number.0) n number.2 in
    fits_64 n (passed is_of_64_bits found.0 n found.2)

string-passes : (test : List ℕ → Bool) (j : json.Data) (s : List ℕ) → string_of test j ≡ Some s → test s ≡ true
string-passes test j s e = let found = chained (passing test) (as_str j) s e in passed test found.0 s found.2

plain-fits : (k : Kind) (j : json.Data) (d : Data) → plain k j ≡ Some d → IsOfKind k d
plain-fits kind.Text j d e =
    let found = mapped text (as_str j) d e in
    (found.0, found.2)
plain-fits kind.Integer j d e =
    let found = mapped integer (integer_of j) d e in
    (found.0, integer-fits j found.0 found.1, found.2)
plain-fits kind.Decimal j d e =
    let found = mapped decimal (string_of is_decimal j) d e in
    (found.0, string-passes is_decimal j found.0 found.1, found.2)
plain-fits kind.Boolean j d e =
    let found = mapped boolean (as_bool j) d e in
    (found.0, found.2)
plain-fits kind.Date j d e =
    let found = mapped date (string_of is_date j) d e in
    (found.0, string-passes is_date j found.0 found.1, found.2)
plain-fits kind.Instant j d e =
    let found = mapped instant (option_and_then (passing is_moment) (integer_of j)) d e in
    let moment = chained (passing is_moment) (integer_of j) found.0 found.1 in
    (found.0, passed is_moment moment.0 found.0 moment.2, found.2)
plain-fits kind.Ref j d e =
    let found = mapped reference (string_of names j) d e in
    (found.0, string-passes names j found.0 found.1, found.2)
plain-fits _ j d e = cc

null_or : (b : Bool) (o : Option Data) (d : Data) → cond b (Some null) o ≡ Some d → (d ≡ null) ⊎ (o ≡ Some d)
null_or true o d e = inl cc
null_or false o d e = inr e

pub spelled-fits : (k : Kind) (j : json.Data) (d : Data) → spelled k j ≡ Some d → FitsKind k d
spelled-fits k j d e = elim (null_or (is_null_json j) (plain k j) d e) [ inl is ↦ inl is | inr more ↦ inr (plain-fits k j d more) ]

pub gives-fits : (r : Result Datum DatumFault) (k : Kind) (j : json.Data) → Gives Memory view r (datum_read k j) → IfOk r (λ d. FitsKind k (view d))
gives-fits (Ok d) k j given = spelled-fits k j (view d) (ok_found (spelled k j) WrongKind (view d) given)
gives-fits (Err e) k j given = tt

-- ---- what was written spells the datum again

whole-of_integer : (z : ℤ) → FitsSigned w64 z → whole_of (of_integer z) ≡ Some z
whole-of_integer (pos n) fits = rw (lt-ltb n (2 ^ 63) fits.sfits) refl
whole-of_integer (negsuc n) fits = rw (lt-ltb n (2 ^ 63) fits.sfits) refl

both : (a b : Bool) → (a && b) ≡ true → (a ≡ true) × (b ≡ true)
both true b e = (refl, e)
both false b e = cc

-- a moment is a whole number of 64 bits
pub moment-fits : (z : ℤ) → is_moment z ≡ true → FitsSigned w64 z
moment-fits (pos n) e =
    let high : n ≤ 253402128000 = leb-true n 253402128000 (both true (nat_le n 253402128000) e).1 in
    record { sfits = omega arith }
moment-fits (negsuc n) e =
    let low : n ≤ 62135596799 = leb-true n 62135596799 (both (nat_le n 62135596799) true e).0 in
    record { sfits = omega arith }

pass : {X : Type 0} (test : X → Bool) (x : X) → test x ≡ true → passing test x ≡ Some x
pass test x e = rw e refl

moment-back : (z : ℤ) → is_moment z ≡ true → option_and_then (passing is_moment) (integer_of (json.number (of_integer z))) ≡ Some z
moment-back z e = rw (whole-of_integer z (moment-fits z e)) (pass is_moment z e)

same_json : (d : Data) (k j : json.Data) → datum_written d ≡ Ok k → datum_written d ≡ Ok j → k ≡ j
same_json d k j is e = let both : Ok k ≡ Ok j = sym is ∙ e in cc

plain-written : (k : Kind) (d : Data) (j : json.Data) → IsOfKind k d → datum_written d ≡ Ok j → spelled k j ≡ Some d
plain-written kind.Text d j (s, it) e =
    let same : json.string s ≡ j = same_json d (json.string s) j (ap datum_written it) e in
    rw (← same, it) refl
plain-written kind.Integer d j (n, fits, it) e =
    let same : json.number (of_integer n) ≡ j = same_json d (json.number (of_integer n)) j (ap datum_written it) e in
    rw (← same, it) (ap (option_map integer) (whole-of_integer n fits))
plain-written kind.Decimal d j (s, passes, it) e =
    let same : json.string s ≡ j = same_json d (json.string s) j (ap datum_written it) e in
    rw (← same, it) (ap (option_map decimal) (pass is_decimal s passes))
plain-written kind.Boolean d j (b, it) e =
    let same : json.boolean b ≡ j = same_json d (json.boolean b) j (ap datum_written it) e in
    rw (← same, it) refl
plain-written kind.Date d j (s, passes, it) e =
    let same : json.string s ≡ j = same_json d (json.string s) j (ap datum_written it) e in
    rw (← same, it) (ap (option_map date) (pass is_date s passes))
plain-written kind.Instant d j (n, passes, it) e =
    let same : json.number (of_integer n) ≡ j = same_json d (json.number (of_integer n)) j (ap datum_written it) e in
    rw (← same, it) (ap (option_map instant) (moment-back n passes))
plain-written kind.Ref d j (s, passes, it) e =
    let same : json.string s ≡ j = same_json d (json.string s) j (ap datum_written it) e in
    rw (← same, it) (ap (option_map reference) (pass names s passes))
plain-written _ d j none e = absurd none

pub spelled-written : (k : Kind) (d : Data) (j : json.Data) → FitsKind k d → datum_written d ≡ Ok j → spelled k j ≡ Some d
spelled-written k d j (inl is) e =
    let same : json.null ≡ j = same_json d json.null j (ap datum_written is) e in
    rw (← same, is) refl
spelled-written k d j (inr of) e = plain-written k d j of e

pub gives-read_back : (r : Result Datum DatumFault) (k : Kind) (d : Data) (j : json.Data) → Gives Memory view r (datum_read k j) → FitsKind k d → datum_written d ≡ Ok j → Gives Memory view r (Ok d)
gives-read_back r k d j given fits e =
    let back : datum_read k j ≡ Ok d = ap (λ o. ok_or o WrongKind) (spelled-written k d j fits e) in
    rw back at given
