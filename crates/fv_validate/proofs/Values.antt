-- The object that has a datum in one field.
use Rattle.std.proofs.Common.{◌≡◌, ◌+◌, ℕ, List, [], ◌∷◌, length, map, Bool, true, false, cond, not, nat_lt, Option, Some, None, option_map, slice_get, position, inl, refl, sym, ap, ap₂, subst, ◌∙◌, arith}
use Rattle.std.proofs.lemmas.Slice.Eq.{bytes_eq-Decides}
use Rattle.std.specs.List.{AllByRecursion, position_or_len}
use Rattle.std.specs.Option.{option_and_then, unwrap_or}
use Rattle.std.specs.Str.{bytes_eq}
use Rattle.fv_datum.specs.Data.{Data, null}
use Rattle.fv_datum.specs.Lookup.{at_name}
use Rattle.fv_model.proofs.Law.{found_each}
use Rattle.fv_bundle.specs.Bundles.{Thing}
use Rattle.fv_model.specs.Reading.{fields_of}
use Rattle.fv_model.specs.Single.{kept, single_field, single_thing, single_of}
use Rattle.fv_bundle.specs.WellTyped.{AnyName, AreOfFields, IsOfType}
use Rattle.fv_walk.specs.Properties.{field_number}
use Rattle.fv_bundle.specs.Fits.{Fits}
use Rattle.fv_bundle.specs.Types.{TypeUse, DeclaredFields, Declared, AreApart, name_at, fields_at}
use Rattle.fv_bundle.proofs.Back.{fits_writable}
use Rattle.fv_validate.specs.Values.{FitsField, field_use, valued}

module _ (ts : Declared) (type name : List ℕ) (d : Data) (fields : DeclaredFields) (declared : at_name type ts ≡ Some fields) where
  fields_are : fields_of ts type ≡ fields
  fields_are = ap (λ (o : Option DeclaredFields). unwrap_or o []) declared

  use_is : field_use ts type name ≡ at_name name fields
  use_is = ap (option_and_then (at_name name)) declared

  -- ---- it is of its type, where the datum is of the field

  each_fits : (fs : DeclaredFields) → AllByRecursion (λ e. at_name e.0 fields ≡ Some e.1) fs → ((u : TypeUse) → at_name name fields ≡ Some u → Fits AnyName u d) → AreOfFields fs (map (single_field name d) fs)
  each_fits [] found fits = tt
  each_fits (f ∷ fs) found fits = ((refl, go (bytes_eq name f.0) refl), each_fits fs found.1 fits)
    where
      go : (b : Bool) → bytes_eq name f.0 ≡ b → Fits AnyName f.1 (cond b d null)
      go true e = fits f.1 (ap (λ (n : List ℕ). at_name n fields) ((bytes_eq-Decides name f.0).0 e) ∙ found.0)
      go false e = inl refl

  pub value_of_type : AreApart fields → ((u : TypeUse) → field_use ts type name ≡ Some u → Fits AnyName u d) → IsOfType ts (valued ts type name d)
  value_of_type apart fits = record {
    fields = fields;
    declared = declared;
    fit = subst (λ (fs : DeclaredFields). AreOfFields fields (map (single_field name d) fs)) (sym fields_are) (each_fits fields (found_each fields apart) (λ u e. fits u (use_is ∙ e)));
  }

  -- ---- where it is there

  module _ (n : ℕ) (placed : slice_get ts n ≡ Some (type, fields)) where
    named : name_at ts n ≡ type
    named = ap (λ (o : Option (List ℕ × DeclaredFields)). unwrap_or (option_map (λ t. t.0) o) []) placed

    fields_there : fields_at ts n ≡ fields
    fields_there = ap (λ (o : Option (List ℕ × DeclaredFields)). unwrap_or (option_map (λ t. t.1) o) []) placed

    thing_is : single_thing ts n name d ≡ valued ts type name d
    thing_is =
        ap₂ (λ (t : List ℕ) (fs : DeclaredFields). valued_by t fs) named (fields_there ∙ sym fields_are)
      where
        valued_by : List ℕ → DeclaredFields → Thing
        valued_by t fs = record { type_name = t; fields = map (single_field name d) fs }

    some_there : (o : Option TypeUse) (t : Thing) → Some t ≡ option_map (λ _. single_thing ts n name d) o → t ≡ single_thing ts n name d
    some_there None t e = cc
    some_there (Some u) t e = cc

    pub made : (t : Thing) → Some t ≡ single_of ts n name d → t ≡ valued ts type name d
    made t e = some_there (at_name name (fields_at ts n)) t e ∙ thing_is

    use_there : (o : Option TypeUse) (t : Thing) → at_name name (fields_at ts n) ≡ o → Some t ≡ option_map (λ _. single_thing ts n name d) o → (u : TypeUse) × (field_use ts type name ≡ Some u)
    use_there None t is e = cc
    use_there (Some u) t is e = (u, use_is ∙ ap (at_name name) (sym fields_there) ∙ is)

    -- the type has the field then
    pub there : (t : Thing) → Some t ≡ single_of ts n name d → (u : TypeUse) × (field_use ts type name ≡ Some u)
    there t e = use_there (at_name name (fields_at ts n)) t refl e

    -- ---- where it isn't

    past : (es : DeclaredFields) → at_name name es ≡ None → position_or_len (λ e. bytes_eq name e.0) es ≡ length es
    past [] e = refl
    past (x ∷ es) e = go (bytes_eq name x.0) e (past es)
      where
        go : (b : Bool) → cond b (Some x.1) (at_name name es) ≡ None → (at_name name es ≡ None → position_or_len (λ e. bytes_eq name e.0) es ≡ length es)
            → cond (not b) (1 + position_or_len (λ e. bytes_eq name e.0) es) 0 ≡ length (x ∷ es)
        go true e ih = cc
        go false e ih = let rest = ih e in omega (arith, rest)

    not_less : (k : ℕ) → nat_lt k k ≡ false
    not_less k = grind arith

    none_there : (o : Option TypeUse) → None ≡ option_map (λ _. single_thing ts n name d) o → o ≡ None
    none_there None e = refl
    none_there (Some u) e = cc

    pub absent : None ≡ single_of ts n name d → field_number ts type name ≡ None
    absent e =
        let none : at_name name fields ≡ None = ap (at_name name) (sym fields_there) ∙ none_there (at_name name (fields_at ts n)) e in
        let len = length fields in
        let before = past fields none in
        ap (option_and_then (position (λ f. bytes_eq name f.0))) declared
        ∙ ap (λ (k : ℕ). cond (nat_lt k len) (Some k) None) before
        ∙ ap (λ (b : Bool). cond b (Some len) None) (not_less len)

-- a datum that fits the field that is there can be written, so it is kept
pub kept_same : (ts : Declared) (type name : List ℕ) (d : Data) → (u : TypeUse) × (field_use ts type name ≡ Some u) → FitsField ts type name d → kept d ≡ d
kept_same ts type name d (u, is) fits = rw (fits_writable AnyName u d (fits u is)) refl

-- an object that was made with a datum that fits is of its type, and has the datum
pub valued_typed : (ts : Declared) (type name : List ℕ) (d : Data) (fields : DeclaredFields) (declared : at_name type ts ≡ Some fields) (n : ℕ) (placed : slice_get ts n ≡ Some (type, fields)) (t : Thing) → AreApart fields → Some t ≡ single_of ts n name (kept d) → FitsField ts type name d
    → IsOfType ts t × (t ≡ valued ts type name d)
valued_typed ts type name d fields declared n placed t apart some fits =
    let keeps = kept_same ts type name d (there ts type name (kept d) fields declared n placed t some) fits in
    let whole : t ≡ valued ts type name d = made ts type name (kept d) fields declared n placed t some ∙ ap (valued ts type name) keeps in
    (subst (IsOfType ts) (sym whole) (value_of_type ts type name d fields declared apart fits), whole)

-- a type that isn't declared has no field
pub undeclared : (ts : Declared) (type name : List ℕ) → at_name type ts ≡ None → field_number ts type name ≡ None
undeclared ts type name e = ap (option_and_then (position (λ f. bytes_eq name f.0))) e
