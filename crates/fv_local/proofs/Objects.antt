-- The objects of a well-typed bundle, by their numbers.
use Rattle.std.proofs.Common.{◌≡◌, ◌<◌, ◌+◌, ℕ, suc, List, [], ◌∷◌, length, Bool, true, false, cond, not, Option, Some, None, is_some, slice_get, refl, sym, ap, subst, ◌∙◌, arith}
use Rattle.std.proofs.lemmas.Bool.{lt-ltb}
use Rattle.std.proofs.lemmas.Slice.Eq.{bytes_eq-Decides}
use Rattle.std.specs.List.{AllByRecursion, position_or_len}
use Rattle.std.specs.Option.{option_map_or, unwrap_or}
use Rattle.std.specs.Str.{bytes_eq}
use Rattle.fv_datum.specs.Lookup.{at_name}
use Rattle.fv_datum.specs.Name.{names}
use Rattle.fv_declare_schema.specs.Declarations.{Declarations}
use Rattle.fv_declare_schema.specs.Ordered.{AreOrdered}
use Rattle.fv_bundle.specs.Bundles.{Things, Thing, Bundled}
use Rattle.fv_bundle.specs.WellTyped.{FitsType, NamesObject, IsWellTyped}
use Rattle.fv_local.proofs.Fitted.{field_fits, field_indexed, field_named}
use Rattle.fv_bundle.specs.Types.{DeclaredFields, Declared}
use Rattle.fv_bundle.proofs.Back.{fits_writable}
use Rattle.fv_local.specs.Sound.{IsSound}
use Rattle.fv_local.specs.Requests.{object_at, object_name, object_number}
use Rattle.fv_local.specs.Ways.{object_number_in}
use Rattle.fv_datum.proofs.Lists.{all_get}
use Rattle.fv_datum.proofs.Lookups.{found_all}

-- so is an object whose data fit the fields of its type
fits_sound : (ds : Declarations) (os : Things) (t : Thing) → AreOrdered ds → FitsType ds.types os t → IsSound t
fits_sound ds os t ordered fits = record {
  named = λ i f e. field_named os fits.fields t.fields i f fits.fit (found_all (λ (fs : DeclaredFields). AllByRecursion (λ d. names d.0 ≡ true) fs) t.type_name ds.types fits.fields ordered.named fits.declared) e;
  written = λ i f e. let fit = field_fits os fits.fields t.fields i f fits.fit e in fits_writable (NamesObject os) fit.0 f.1 fit.1;
  indexed = λ i f e. field_indexed os fits.fields t.fields i f fits.fit e;
}

-- the objects of a well-typed bundle have parts with paths
pub sound_at : (ds : Declarations) (b : Bundled) → AreOrdered ds → IsWellTyped ds.types b → (i : ℕ) → IsSound (object_at b i)
sound_at ds b ordered typed i = go (slice_get b.objects i) refl
  where
    go : (o : Option (List ℕ × Thing)) → slice_get b.objects i ≡ o → IsSound (option_map_or (λ o. o.1) o (record { type_name = []; fields = [] }))
    go None e = record { named = λ i f e. absurd cc; written = λ i f e. absurd cc; indexed = λ i f e. absurd cc }
    go (Some o) e = fits_sound ds b.objects o.1 ordered (all_get (λ (o : List ℕ × Thing). FitsType ds.types b.objects o.1) b.objects i o typed.typed e)

-- ---- the root

-- the first object of a name has its number
first_named : (name : List ℕ) (os : Things) (t : Thing) → at_name name os ≡ Some t
    → (position_or_len (λ o. bytes_eq name o.0) os < length os) × (slice_get os (position_or_len (λ o. bytes_eq name o.0) os) ≡ Some (name, t))
first_named name [] t e = cc
first_named name (o ∷ os) t e = go (bytes_eq name o.0) refl e (first_named name os t)
  where
    go : (b : Bool) → bytes_eq name o.0 ≡ b → cond b (Some o.1) (at_name name os) ≡ Some t
        → (at_name name os ≡ Some t → (position_or_len (λ o. bytes_eq name o.0) os < length os) × (slice_get os (position_or_len (λ o. bytes_eq name o.0) os) ≡ Some (name, t)))
        → (cond (not b) (1 + position_or_len (λ o. bytes_eq name o.0) os) 0 < length (o ∷ os)) × (slice_get (o ∷ os) (cond (not b) (1 + position_or_len (λ o. bytes_eq name o.0) os) 0) ≡ Some (name, t))
    go true same e ih = let named : name ≡ o.0 = (bytes_eq-Decides name o.0).0 same in let is : o.1 ≡ t = cc in (omega arith, ap (λ (n : List ℕ). Some (n, o.1)) (sym named) ∙ ap (λ (u : Thing). Some (name, u)) is)
    go false same e ih =
        let there = ih e in
        let n = position_or_len (λ (o : List ℕ × Thing). bytes_eq name o.0) os in
        let less : n < length os = there.0 in
        let next : 1 + n ≡ suc n = omega arith in
        (omega arith, ap (slice_get (o ∷ os)) next ∙ there.1)

pub root_there : (b : Bundled) (t : Thing) → at_name b.root b.objects ≡ Some t → slice_get b.objects (object_number b b.root) ≡ Some (b.root, t)
root_there b t e =
    let first = first_named b.root b.objects t e in
    let n = position_or_len (λ (o : List ℕ × Thing). bytes_eq b.root o.0) b.objects in
    ap (λ (c : Bool). slice_get b.objects (unwrap_or (cond c (Some n) None) 0)) (lt-ltb n (length b.objects) first.0) ∙ first.1

-- the root has a number
pub root_number : (b : Bundled) (t : Thing) → at_name b.root b.objects ≡ Some t → (object_number_in b.objects b.root ≡ Some (object_number b b.root)) × (object_number b b.root < length b.objects)
root_number b t e =
    let first = first_named b.root b.objects t e in
    let n = position_or_len (λ (o : List ℕ × Thing). bytes_eq b.root o.0) b.objects in
    let found : object_number_in b.objects b.root ≡ Some n = ap (λ (c : Bool). cond c (Some n) None) (lt-ltb n (length b.objects) first.0) in
    let same : object_number b b.root ≡ n = ap (λ (o : Option ℕ). unwrap_or o 0) found in
    (found ∙ ap (λ (k : ℕ). Some k) (sym same), subst (λ (k : ℕ). k < length b.objects) (sym same) first.0)

pub root_object : (b : Bundled) (t : Thing) → at_name b.root b.objects ≡ Some t → object_at b (object_number b b.root) ≡ t
root_object b t e = ap (λ (o : Option (List ℕ × Thing)). option_map_or (λ o. o.1) o (record { type_name = []; fields = [] })) (root_there b t e)

pub root_named : (b : Bundled) (t : Thing) → at_name b.root b.objects ≡ Some t → object_name b (object_number b b.root) ≡ b.root
root_named b t e = ap (λ (o : Option (List ℕ × Thing)). option_map_or (λ o. o.0) o []) (root_there b t e)

-- its name is a name
pub root_name : (ts : Declared) (b : Bundled) (t : Thing) → IsWellTyped ts b → at_name b.root b.objects ≡ Some t → names b.root ≡ true
root_name ts b t typed e = all_get (λ (o : List ℕ × Thing). names o.0 ≡ true) b.objects (object_number b b.root) (b.root, t) typed.named (root_there b t e)

-- there is a root
pub rooted : (ts : Declared) (b : Bundled) → IsWellTyped ts b → (t : Thing) × (at_name b.root b.objects ≡ Some t)
rooted ts b typed = go (at_name b.root b.objects) refl typed.rooted
  where
    go : (o : Option Thing) → at_name b.root b.objects ≡ o → is_some o ≡ true → (t : Thing) × (at_name b.root b.objects ≡ Some t)
    go None e some = cc
    go (Some t) e some = (t, e)
