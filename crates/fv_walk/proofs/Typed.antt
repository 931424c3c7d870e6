-- Objects that are of their types: those of a well-typed bundle, and their parts have paths.
use Rattle.std.proofs.Common.{◌≡◌, ◌≤◌, inl, inr, ℕ, zero, suc, List, [], ◌∷◌, length, true, Some, slice_get, sym, subst}
use Rattle.std.specs.List.{AllByRecursion}
use Rattle.fv_datum.specs.Data.{Data}
use Rattle.fv_datum.specs.Lookup.{at_name}
use Rattle.fv_datum.specs.Name.{names}
use Rattle.fv_bundle.specs.Bundles.{Thing, Things, Bundled}
use Rattle.fv_bundle.specs.WellTyped.{AnyName, NamesObject, FieldsAre, FitsType, IsWellTyped, AreOfFields, IsOfType}
use Rattle.fv_bundle.specs.Fits.{Referring, OrNull, IsOfUse, Fits}
use Rattle.fv_bundle.specs.Types.{TypeUse, texts, integers, decimals, booleans, dates, instants, references, lists, maps, optionals, DeclaredFields, Declared}
use Rattle.fv_bundle.proofs.Back.{fits_writable}
use Rattle.fv_declare_schema.specs.Declarations.{Declarations}
use Rattle.fv_declare_schema.specs.Ordered.{AreOrdered}
use Rattle.fv_datum.proofs.Lookups.{found_all}
use Rattle.fv_local.specs.Sound.{IsSound}
use Rattle.fv_local.proofs.Fitted.{fits_indexed}

-- ---- a datum that fits, whatever its references name

or_null : (P Q : Data → Type 0) → ((d : Data) → P d → Q d) → (d : Data) → OrNull P d → OrNull Q d
or_null P Q weaker d (inl e) = inl e
or_null P Q weaker d (inr h) = inr (weaker d h)

items_weaker : (P Q : Data → Type 0) → ((d : Data) → P d → Q d) → (ds : List Data) → AllByRecursion P ds → AllByRecursion Q ds
items_weaker P Q weaker [] all = tt
items_weaker P Q weaker (d ∷ ds) all = (weaker d all.0, items_weaker P Q weaker ds all.1)

entries_weaker : (P Q : Data → Type 0) → ((d : Data) → P d → Q d) → (es : List (List ℕ × Data)) → AllByRecursion (λ e. (length e.0 ≤ 65536) × P e.1) es → AllByRecursion (λ e. (length e.0 ≤ 65536) × Q e.1) es
entries_weaker P Q weaker [] all = tt
entries_weaker P Q weaker (e ∷ es) all = ((all.0.0, weaker e.1 all.0.1), entries_weaker P Q weaker es all.1)

of_use : (Named : Referring) (u : TypeUse) (d : Data) → IsOfUse Named u d → IsOfUse AnyName u d
of_use Named texts d h = h
of_use Named integers d h = h
of_use Named decimals d h = h
of_use Named booleans d h = h
of_use Named dates d h = h
of_use Named instants d h = h
of_use Named (references type) d h = (h.0, h.1, tt, h.3)
of_use Named (lists u) d h =
    (h.0, h.1, items_weaker (OrNull (IsOfUse Named u)) (OrNull (IsOfUse AnyName u)) (or_null (IsOfUse Named u) (IsOfUse AnyName u) (of_use Named u)) h.0 h.2, h.3)
of_use Named (maps u) d h =
    (h.0, h.1, h.2, entries_weaker (OrNull (IsOfUse Named u)) (OrNull (IsOfUse AnyName u)) (or_null (IsOfUse Named u) (IsOfUse AnyName u) (of_use Named u)) h.0 h.3, h.4)
of_use Named (optionals u) d h = (h.0, or_null (IsOfUse Named u) (IsOfUse AnyName u) (of_use Named u) h.0 h.1, h.2)

fits_any : (Named : Referring) (u : TypeUse) (d : Data) → Fits Named u d → Fits AnyName u d
fits_any Named u d h = or_null (IsOfUse Named u) (IsOfUse AnyName u) (of_use Named u) d h

-- ---- the objects of a bundle

of_fields : (os : Things) (ds : DeclaredFields) (fs : List (List ℕ × Data)) → FieldsAre (NamesObject os) ds fs → AreOfFields ds fs
of_fields os [] [] fit = tt
of_fields os [] (f ∷ fs) fit = fit
of_fields os (d ∷ ds) [] fit = fit
of_fields os (d ∷ ds) (f ∷ fs) fit = ((fit.0.0, fits_any (NamesObject os) d.1 f.1 fit.0.1), of_fields os ds fs fit.1)

of_type : (ts : Declared) (os : Things) (t : Thing) → FitsType ts os t → IsOfType ts t
of_type ts os t fits = record { fields = fits.fields; declared = fits.declared; fit = of_fields os fits.fields t.fields fits.fit }

pub object_of_type : (ts : Declared) (b : Bundled) (name : List ℕ) (t : Thing) → IsWellTyped ts b → at_name name b.objects ≡ Some t → IsOfType ts t
object_of_type ts b name t typed there = of_type ts b.objects t (found_all (FitsType ts b.objects) name b.objects t typed.typed there)

-- ---- the parts of an object of its type have paths

-- a field has a name, and a datum of some type use
field_is : (ds : DeclaredFields) (fs : List (List ℕ × Data)) (i : ℕ) (f : List ℕ × Data) → AreOfFields ds fs → AllByRecursion (λ d. names d.0 ≡ true) ds → slice_get fs i ≡ Some f
    → (u : TypeUse) × (names f.0 ≡ true) × Fits AnyName u f.1
field_is [] [] i f fit named e = cc
field_is (d ∷ ds) [] i f fit named e = cc
field_is [] (g ∷ fs) i f fit named e = absurd fit
field_is (d ∷ ds) (g ∷ fs) zero f fit named e =
    let same : g ≡ f = cc in
    let is : f.0 ≡ d.0 = subst (λ (h : List ℕ × Data). h.0 ≡ d.0) same fit.0.0 in
    (d.1, subst (λ (n : List ℕ). names n ≡ true) (sym is) named.0, subst (λ (h : List ℕ × Data). Fits AnyName d.1 h.1) same fit.0.1)
field_is (d ∷ ds) (g ∷ fs) (suc i) f fit named e = field_is ds fs i f fit.1 named.1 e

pub type_sound : (ds : Declarations) (t : Thing) → AreOrdered ds → IsOfType ds.types t → IsSound t
type_sound ds t ordered typed =
    let named = found_all (λ (fs : DeclaredFields). AllByRecursion (λ d. names d.0 ≡ true) fs) t.type_name ds.types typed.fields ordered.named typed.declared in
    let each = λ (i : ℕ) (f : List ℕ × Data) (e : slice_get t.fields i ≡ Some f). field_is typed.fields t.fields i f typed.fit named e in
    record {
      named = λ i f e. (each i f e).1;
      written = λ i f e. fits_writable AnyName (each i f e).0 f.1 (each i f e).2;
      indexed = λ i f e. fits_indexed AnyName (each i f e).0 f.1 (each i f e).2;
    }
