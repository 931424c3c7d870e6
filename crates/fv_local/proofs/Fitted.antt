-- Data that fit a type use have indices of 32 bits.
use Rattle.std.proofs.Common.{◌≡◌, inl, inr, ℕ, ◌+◌, ◌≤◌, zero, suc, List, [], ◌∷◌, map, length, true, Some, slice_get, sym, subst, arith}
use Rattle.std.specs.List.{AllByRecursion}
use Rattle.fv_datum.specs.Data.{Data, null, text, integer, decimal, boolean, date, instant, reference, items_of, entries_of}
use Rattle.fv_datum.specs.Name.{names}
use Rattle.fv_bundle.specs.Bundles.{Things}
use Rattle.fv_bundle.specs.WellTyped.{NamesObject, FieldsAre}
use Rattle.fv_bundle.specs.Fits.{Referring, OrNull, Fits, IsOfUse}
use Rattle.fv_bundle.specs.Types.{TypeUse, texts, integers, decimals, booleans, dates, instants, references, lists, maps, optionals, DeclaredFields}
use Rattle.fv_local.specs.Loci.{IsIndexed, AreIndexed, EntriesIndexed}

-- what holds of a datum, by what it is
alike : (d e : Data) → d ≡ e → IsIndexed e → IsIndexed d
alike d e same h = subst IsIndexed (sym same) h

-- by what holds of each item that isn't null
or_null : (P : Data → Type 0) → ((d : Data) → P d → IsIndexed d) → (d : Data) → OrNull P d → IsIndexed d
or_null P each d (inl e) = alike d null e tt
or_null P each d (inr h) = each d h

items_indexed : (P : Data → Type 0) → ((d : Data) → P d → IsIndexed d) → (i : ℕ) (ds : List Data) → i + length ds ≤ 65536 → AllByRecursion P ds → AreIndexed i (items_of ds)
items_indexed P each i [] few all = tt
items_indexed P each i (d ∷ ds) few all = (omega arith, each d all.0, items_indexed P each (i + 1) ds (omega arith) all.1)

entries_indexed : (P : Data → Type 0) → ((d : Data) → P d → IsIndexed d) → (es : List (List ℕ × Data)) → AllByRecursion (λ e. (length e.0 ≤ 65536) × P e.1) es → EntriesIndexed (entries_of (map (λ e. (text e.0, e.1)) es))
entries_indexed P each [] all = tt
entries_indexed P each (e ∷ es) all = (tt, each e.1 all.0.1, entries_indexed P each es all.1)

use_indexed : (Named : Referring) (u : TypeUse) (d : Data) → IsOfUse Named u d → IsIndexed d
use_indexed Named texts d h = alike d (text h.0) h.2 tt
use_indexed Named integers d h = alike d (integer h.0) h.2 tt
use_indexed Named decimals d h = alike d (decimal h.0) h.2 tt
use_indexed Named booleans d h = alike d (boolean h.0) h.1 tt
use_indexed Named dates d h = alike d (date h.0) h.2 tt
use_indexed Named instants d h = alike d (instant h.0) h.2 tt
use_indexed Named (references type) d h = alike d (reference h.0) h.3 tt
use_indexed Named (lists u) d h =
    subst IsIndexed (sym h.3) (items_indexed (OrNull (IsOfUse Named u)) (or_null (IsOfUse Named u) (λ e k. use_indexed Named u e k)) 0 h.0 (omega (arith, h.1)) h.2)
use_indexed Named (maps u) d h =
    subst IsIndexed (sym h.4) (entries_indexed (OrNull (IsOfUse Named u)) (or_null (IsOfUse Named u) (λ e k. use_indexed Named u e k)) h.0 h.3)
use_indexed Named (optionals u) d h = subst IsIndexed (sym h.2) (or_null (IsOfUse Named u) (λ e k. use_indexed Named u e k) h.0 h.1)

pub fits_indexed : (Named : Referring) (u : TypeUse) (d : Data) → Fits Named u d → IsIndexed d
fits_indexed Named u d h = or_null (IsOfUse Named u) (use_indexed Named u) d h

-- each field's datum is of a type use
pub field_fits : (os : Things) (ds : DeclaredFields) (fs : List (List ℕ × Data)) (i : ℕ) (f : List ℕ × Data) → FieldsAre (NamesObject os) ds fs → slice_get fs i ≡ Some f
    → (u : TypeUse) × Fits (NamesObject os) u f.1
field_fits os [] [] i f fit e = cc
field_fits os (d ∷ ds) [] i f fit e = cc
field_fits os [] (g ∷ fs) i f fit e = absurd fit
field_fits os (d ∷ ds) (g ∷ fs) zero f fit e =
    let same : g ≡ f = cc in
    (d.1, subst (λ (h : List ℕ × Data). Fits (NamesObject os) d.1 h.1) same fit.0.1)
field_fits os (d ∷ ds) (g ∷ fs) (suc i) f fit e = field_fits os ds fs i f fit.1 e

-- and has such indices
pub field_indexed : (os : Things) (ds : DeclaredFields) (fs : List (List ℕ × Data)) (i : ℕ) (f : List ℕ × Data) → FieldsAre (NamesObject os) ds fs → slice_get fs i ≡ Some f → IsIndexed f.1
field_indexed os ds fs i f fit e = let fits = field_fits os ds fs i f fit e in fits_indexed (NamesObject os) fits.0 f.1 fits.1

-- a field of a type whose fields have names has one
pub field_named : (os : Things) (ds : DeclaredFields) (fs : List (List ℕ × Data)) (i : ℕ) (f : List ℕ × Data) → FieldsAre (NamesObject os) ds fs → AllByRecursion (λ d. names d.0 ≡ true) ds
    → slice_get fs i ≡ Some f → names f.0 ≡ true
field_named os [] [] i f fit named e = cc
field_named os (d ∷ ds) [] i f fit named e = cc
field_named os [] (g ∷ fs) i f fit named e = absurd fit
field_named os (d ∷ ds) (g ∷ fs) zero f fit named e =
    let same : g ≡ f = cc in
    let is : f.0 ≡ d.0 = subst (λ (h : List ℕ × Data). h.0 ≡ d.0) same fit.0.0 in
    subst (λ (n : List ℕ). names n ≡ true) (sym is) named.0
field_named os (d ∷ ds) (g ∷ fs) (suc i) f fit named e = field_named os ds fs i f fit.1 named.1 e
