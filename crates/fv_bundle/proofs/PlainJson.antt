-- A datum that fits its type use is written plainly: whole numbers of 64 bits, members in order, and no more containers one in another than its type use has.
use Rattle.std.proofs.Common.{◌≡◌, ◌≤◌, ℕ, ℤ, pos, negsuc, suc, length, List, [], ◌∷◌, map, Less, nat_cmp, sym, subst, Bool, true, false, refl, arith}
use Rattle.std.specs.Prelude.{FitsSigned}
use Rattle.std.specs.List.{AllByRecursion}
use Rattle.std.specs.List.Sorted.{IsStrictlySortedBy}
use Rattle.std.specs.Map.{keys_of}
use Rattle.std.specs.Cmp.Lexicographic.{slice_cmp}
use Rattle.std.specs.Int.{w64}
use Rattle.serde_json.specs.Data.{Data, null, depth, items_depth}
use Rattle.serde_json.specs.Find.{of_integer}
use Rattle.serde_json.specs.View as seen
use Rattle.fv_datum.specs.Data as datum
use Rattle.fv_datum.specs.Kinds.{IsOfKind}
use Rattle.fv_datum.specs.Written.{is_null}
use Rattle.fv_datum.specs.declared.kind.Kind.{Kind}
use Rattle.fv_datum.specs.declared.kind.Kind.TheVariants as kind
use Rattle.fv_datum.proofs.Spelled.{moment-fits}
use Rattle.fv_bundle.specs.Fits.{Referring, IsOfUse, Fits}
use Rattle.fv_datum.specs.Ascending.{IsAscending}
use Rattle.fv_bundle.specs.Types.{TypeUse, texts, integers, decimals, booleans, dates, instants, references, lists, maps, optionals, nested}
use Rattle.fv_bundle.specs.Writing.{IsWritten, datum_json}
use Rattle.fv_bundle.proofs.Back.{members_of, entry_json, list_is, map_is, optional_null, optional_some, null_or, null_is, fits_writable}
use Rattle.fv_datum.proofs.Lists.{each_of}
use Rattle.fv_datum.proofs.Members.{AreAbove}
use Rattle.fv_datum.proofs.PlainJson.{IsWhole, ArePlainItems, IsFlat, Fields, no_fields}

-- ---- a datum of a kind

whole : (n : ℤ) → FitsSigned w64 n → IsWhole (of_integer n)
whole (pos n) fits = fits.sfits
whole (negsuc n) fits = fits.sfits

flat_integer : (n : ℤ) → depth (datum_json (datum.integer n)) ≤ 0
flat_integer (pos n) = omega arith
flat_integer (negsuc n) = omega arith

kind_flat : (k : Kind) (d : datum.Data) → IsOfKind k d → IsFlat 0 (datum_json d)
kind_flat kind.Text d (s, it) = rw it (tt, omega arith)
kind_flat kind.Integer d (n, fits, it) = rw it (whole n fits, flat_integer n)
kind_flat kind.Decimal d (s, passes, it) = rw it (tt, omega arith)
kind_flat kind.Boolean d (b, it) = rw it (tt, omega arith)
kind_flat kind.Date d (s, passes, it) = rw it (tt, omega arith)
kind_flat kind.Instant d (n, passes, it) = rw it (whole n (moment-fits n passes), flat_integer n)
kind_flat kind.Ref d (s, passes, it) = rw it (tt, omega arith)
kind_flat _ d none = absurd none

-- ---- containers

items_flat : (n : ℕ) (ds : List datum.Data) → AllByRecursion (λ d. IsFlat n (datum_json d)) ds → ArePlainItems (seen.items_of (map datum_json ds)) × (items_depth (seen.items_of (map datum_json ds)) ≤ n)
items_flat n [] all = (tt, omega arith)
items_flat n (d ∷ ds) all =
    let more = items_flat n ds all.1 in
    ((all.0.0, more.0), (let one = all.0.1 in let others = more.1 in omega arith))

keys_above : (k : List ℕ) (es : List (List ℕ × datum.Data)) → AllByRecursion (λ y. slice_cmp nat_cmp k y ≡ Less) (keys_of es) → AreAbove k (members_of (map entry_json es))
keys_above k [] h = tt
keys_above k (e ∷ es) h = (h.0, keys_above k es h.1)

entries_flat : (n : ℕ) (es : List (List ℕ × datum.Data)) → IsAscending (keys_of es) → AllByRecursion (λ e. IsFlat n (datum_json e.1)) es → Fields n (members_of (map entry_json es))
unfolding IsStrictlySortedBy
entries_flat n [] ascending all = no_fields n
entries_flat n (e ∷ es) ascending all =
    let more = entries_flat n es ascending.1 all.1 in
    record {
      plain = (all.0.0, more.plain);
      ordered = (keys_above e.0 es ascending.0, more.ordered);
      flat = (let one = all.0.1 in let others = more.flat in omega arith);
    }

content_flat : (n : ℕ) (c d : datum.Data) (b : Bool) → is_null c ≡ b → IsWritten c → IsFlat n (datum_json c) → d ≡ datum.optional c → IsFlat (suc n) (datum_json d)
content_flat n c d true is h flat it = rw (optional_null c d (null_is c is) it) (tt, omega arith)
content_flat n c d false is h flat it = rw (optional_some c d is h it) ((flat.0, tt), (let one = flat.1 in omega arith))

-- a datum that fits is written plainly, no deeper than its containers
abbrev IsFlatIn : TypeUse → datum.Data → Type 0
IsFlatIn u d = IsFlat (nested u) (datum_json d)

null_flat : (n : ℕ) → IsFlat n null
null_flat n = (tt, omega arith)

use_flat : (N : Referring) (u : TypeUse) (d : datum.Data) → IsOfUse N u d → IsFlatIn u d
use_flat N texts d (s, few, it) = rw it (tt, omega arith)
use_flat N integers d of = kind_flat kind.Integer d of
use_flat N decimals d of = kind_flat kind.Decimal d of
use_flat N booleans d of = kind_flat kind.Boolean d of
use_flat N dates d of = kind_flat kind.Date d of
use_flat N instants d of = kind_flat kind.Instant d of
use_flat N (references type) d (s, passes, named, it) = rw it (tt, omega arith)
use_flat N (lists u) d (ds, few, all, it) =
    let flat = items_flat (nested u) ds (each_of (Fits N u) (IsFlatIn u) ds (null_or (IsOfUse N u) (IsFlatIn u) (null_flat (nested u)) (λ x of. use_flat N u x of)) all) in
    subst (λ (j : Data). IsFlat (suc (nested u)) j) (sym (list_is N u ds d all it)) (flat.0, (let deep = flat.1 in omega arith))
use_flat N (maps u) d (es, few, ascending, all, it) =
    let each = each_of (λ e. (length e.0 ≤ 65536) × Fits N u e.1) (λ e. IsFlatIn u e.1) es (λ e fits. null_or (IsOfUse N u) (IsFlatIn u) (null_flat (nested u)) (λ x of. use_flat N u x of) e.1 fits.1) all in
    let flat = entries_flat (nested u) es ascending each in
    subst (λ (j : Data). IsFlat (suc (nested u)) j) (sym (map_is N u es d ascending all it)) ((flat.plain, flat.ordered), (let deep = flat.flat in omega arith))
use_flat N (optionals u) d (c, fits, it) =
    content_flat (nested u) c d (is_null c) refl (fits_writable N u c fits) (null_or (IsOfUse N u) (IsFlatIn u) (null_flat (nested u)) (λ x of. use_flat N u x of) c fits) it

pub fits_flat : (N : Referring) (u : TypeUse) (d : datum.Data) → Fits N u d → IsFlat (nested u) (datum_json d)
fits_flat N u d fits = null_or (IsOfUse N u) (IsFlatIn u) (null_flat (nested u)) (use_flat N u) d fits
