-- A well-typed bundle with a fitting datum in one field is well-typed.
use Rattle.std.proofs.Common.{◌≡◌, ℕ, suc, List, [], ◌∷◌, length, cond, Bool, true, false, Option, Some, None, bytes_eq, is_some, inl, inr, refl, sym, ap, subst, ◌∙◌}
use Rattle.std.specs.List.{AllByRecursion}
use Rattle.std.specs.Map.{keys_of}
use Rattle.fv_datum.specs.Data.{Data}
use Rattle.fv_datum.specs.Lookup.{at_name}
use Rattle.fv_datum.specs.Name.{names}
use Rattle.fv_bundle.specs.Fits.{Referring, Fits, OrNull, IsOfUse}
use Rattle.fv_bundle.specs.Types.{TypeUse, texts, integers, decimals, booleans, dates, instants, references, lists, maps, optionals, DeclaredFields, Declared}
use Rattle.fv_datum.proofs.Lists.{each_of}
use Rattle.fv_bundle.specs.Bundles.{Thing, Things, Bundled}
use Rattle.fv_bundle.specs.Replaced.{changed_at, thing_with, bundle_with}
use Rattle.fv_bundle.specs.WellTyped.{NamesObject, FitsUse, FieldsAre, FitsType, IsWellTyped, HasRootType}
use Rattle.fv_model.specs.Setting.{field_use_of}
use Rattle.fv_model.proofs.Sound.{Is}

-- ---- references to the objects of one bundle, in another

or_null : (P Q : Data → Type 0) (d : Data) → (P d → Q d) → OrNull P d → OrNull Q d
or_null P Q d more (inl null) = inl null
or_null P Q d more (inr h) = inr (more h)

module _ (A B : Referring) (more : (type name : List ℕ) → A type name → B type name) where
  of_use : (u : TypeUse) (d : Data) → IsOfUse A u d → IsOfUse B u d
  of_use texts d h = h
  of_use integers d h = h
  of_use decimals d h = h
  of_use booleans d h = h
  of_use dates d h = h
  of_use instants d h = h
  of_use (references type) d (name, named, refers, is) = (name, named, more type name refers, is)
  of_use (lists u) d (ds, few, each, is) = (ds, few, each_of (OrNull (IsOfUse A u)) (OrNull (IsOfUse B u)) ds (λ x h. or_null (IsOfUse A u) (IsOfUse B u) x (of_use u x) h) each, is)
  of_use (maps u) d (es, few, ascending, each, is) = (es, few, ascending, each_of _ _ es (λ e h. (h.0, or_null (IsOfUse A u) (IsOfUse B u) e.1 (of_use u e.1) h.1)) each, is)
  of_use (optionals u) d (held, h, is) = (held, or_null (IsOfUse A u) (IsOfUse B u) held (of_use u held) h, is)

  fits : (u : TypeUse) (d : Data) → Fits A u d → Fits B u d
  fits u d h = or_null (IsOfUse A u) (IsOfUse B u) d (of_use u d) h

-- ---- the names of the objects stay

module _ (object : List ℕ) (change : Thing → Thing) (same : (t : Thing) → (change t).type_name ≡ t.type_name) where
  keys_at : (b : Bool) (o : List ℕ × Thing) (os qs : Things) → keys_of os ≡ keys_of qs → keys_of (cond b ((o.0, change o.1) ∷ qs) (o ∷ os)) ≡ o.0 ∷ keys_of qs
  keys_at true o os qs is = refl
  keys_at false o os qs is = ap (λ ns. o.0 ∷ ns) is

  pub keys_kept : (os : Things) → keys_of (changed_at object change os) ≡ keys_of os
  keys_kept [] = refl
  keys_kept (o ∷ os) = keys_at (bytes_eq object o.0) o (changed_at object change os) os (keys_kept os)

  length_at : (b : Bool) (o : List ℕ × Thing) (os qs : Things) → length os ≡ length qs → length (cond b ((o.0, change o.1) ∷ qs) (o ∷ os)) ≡ length (o ∷ qs)
  length_at true o os qs is = refl
  length_at false o os qs is = ap suc is

  length_kept : (os : Things) → length (changed_at object change os) ≡ length os
  length_kept [] = refl
  length_kept (o ∷ os) = length_at (bytes_eq object o.0) o (changed_at object change os) os (length_kept os)

  names_at : (type name : List ℕ) (b c : Bool) (o : List ℕ × Thing) (os qs : Things) (t : Thing) → bytes_eq name o.0 ≡ c → (NamesObject qs type name → NamesObject os type name) → cond c (Some o.1) (at_name name qs) ≡ Some t → t.type_name ≡ type
      → NamesObject (cond b ((o.0, change o.1) ∷ qs) (o ∷ os)) type name
  names_at type name true true o os qs t is more found of =
      let here : o.1 ≡ t = cc in
      (change o.1, rw is refl, same o.1 ∙ ap (λ (u : Thing). u.type_name) here ∙ of)
  names_at type name true false o os qs t is more found of = (t, rw is found, of)
  names_at type name false true o os qs t is more found of = (t, rw is found, of)
  names_at type name false false o os qs t is more found of = let there = more (t, found, of) in (there.0, rw is there.1, there.2)

  pub names_kept : (type name : List ℕ) (os : Things) → NamesObject os type name → NamesObject (changed_at object change os) type name
  names_kept type name [] (t, found, of) = cc
  names_kept type name (o ∷ os) (t, found, of) = names_at type name (bytes_eq object o.0) (bytes_eq name o.0) o (changed_at object change os) os t refl (names_kept type name os) found of

  each_at : (b : Bool) (o : List ℕ × Thing) (os qs : Things) → names o.0 ≡ true → AllByRecursion (λ p. names p.0 ≡ true) qs → AllByRecursion (λ p. names p.0 ≡ true) os → AllByRecursion (λ p. names p.0 ≡ true) (cond b ((o.0, change o.1) ∷ qs) (o ∷ os))
  each_at true o os qs named old new = (named, old)
  each_at false o os qs named old new = (named, new)

  each_named : (os : Things) → AllByRecursion (λ o. names o.0 ≡ true) os → AllByRecursion (λ o. names o.0 ≡ true) (changed_at object change os)
  each_named [] h = tt
  each_named (o ∷ os) h = each_at (bytes_eq object o.0) o (changed_at object change os) os h.0 h.1 (each_named os h.1)

  rooted_kept : (root : List ℕ) (os : Things) (o : Option Thing) → at_name root os ≡ o → is_some o ≡ true → is_some (at_name root (changed_at object change os)) ≡ true
  rooted_kept root os None is some = cc
  rooted_kept root os (Some t) is some = let found = names_kept t.type_name root os (t, is, refl) in rw found.1 refl

-- ---- the data of the objects

module _ (os qs : Things) (more : (type name : List ℕ) → NamesObject os type name → NamesObject qs type name) where
  fields_kept : (ds : DeclaredFields) (fs : List (List ℕ × Data)) → FieldsAre (NamesObject os) ds fs → FieldsAre (NamesObject qs) ds fs
  fields_kept [] [] fit = tt
  fields_kept (d ∷ ds) (f ∷ fs) fit = ((fit.0.0, fits (NamesObject os) (NamesObject qs) more d.1 f.1 fit.0.1), fields_kept ds fs fit.1)
  fields_kept [] (f ∷ fs) fit = absurd fit
  fields_kept (d ∷ ds) [] fit = absurd fit

  type_kept : (ts : Declared) (t : Thing) → FitsType ts os t → FitsType ts qs t
  type_kept ts t h = record { fields = h.fields; declared = h.declared; fit = fields_kept h.fields t.fields h.fit }

  module _ (field : List ℕ) (x : Data) where
    -- where the field is this one, or another
    field_at : (b : Bool) (d : List ℕ × TypeUse) (f : List ℕ × Data) (ds : DeclaredFields) (fs gs : List (List ℕ × Data)) (u : TypeUse) → cond b (Some d.1) (at_name field ds) ≡ Some u → f.0 ≡ d.0 → FitsUse os d.1 f.1 → FitsUse qs u x
        → FieldsAre (NamesObject qs) ds fs → (at_name field ds ≡ Some u → FieldsAre (NamesObject qs) ds gs) → FieldsAre (NamesObject qs) (d ∷ ds) (cond b ((f.0, x) ∷ fs) (f ∷ gs))
    field_at true d f ds fs gs u holds name old new rest other =
        let here : u ≡ d.1 = cc in
        ((name, subst (λ (v : TypeUse). FitsUse qs v x) here new), rest)
    field_at false d f ds fs gs u holds name old new rest other = ((name, fits (NamesObject os) (NamesObject qs) more d.1 f.1 old), other holds)

    fields_with : (ds : DeclaredFields) (fs : List (List ℕ × Data)) (u : TypeUse) → at_name field ds ≡ Some u → FitsUse qs u x → FieldsAre (NamesObject os) ds fs → FieldsAre (NamesObject qs) ds (changed_at field (λ _. x) fs)
    fields_with [] [] u holds new fit = tt
    fields_with (d ∷ ds) (f ∷ fs) u holds new fit =
        subst (λ (n : List ℕ). FieldsAre (NamesObject qs) (d ∷ ds) (cond (bytes_eq field n) ((f.0, x) ∷ fs) (f ∷ changed_at field (λ _. x) fs))) (sym fit.0.0)
        (field_at (bytes_eq field d.0) d f ds fs (changed_at field (λ _. x) fs) u holds fit.0.0 fit.0.1 new (fields_kept ds fs fit.1) (λ later. fields_with ds fs u later new fit.1))
    fields_with [] (f ∷ fs) u holds new fit = absurd fit
    fields_with (d ∷ ds) [] u holds new fit = absurd fit

    type_with : (ts : Declared) (t : Thing) (u : TypeUse) → field_use_of ts field t ≡ Some u → FitsUse qs u x → FitsType ts os t → FitsType ts qs (thing_with field x t)
    type_with ts t u holds new h =
        let found : at_name field h.fields ≡ Some u = rw h.declared at holds in
        record { fields = h.fields; declared = h.declared; fit = fields_with h.fields t.fields u found new h.fit }

    typed_at : (ts : Declared) (object : List ℕ) (b : Bool) (o : List ℕ × Thing) (ps rs : Things) (t : Thing) (u : TypeUse) → cond b (Some o.1) (at_name object ps) ≡ Some t → field_use_of ts field t ≡ Some u → FitsUse qs u x → FitsType ts os o.1
        → AllByRecursion (λ p. FitsType ts qs p.1) ps → (at_name object ps ≡ Some t → AllByRecursion (λ p. FitsType ts qs p.1) rs) → AllByRecursion (λ p. FitsType ts qs p.1) (cond b ((o.0, thing_with field x o.1) ∷ ps) (o ∷ rs))
    typed_at ts object true o ps rs t u there holds new typed rest other =
        let here : t ≡ o.1 = cc in
        (type_with ts o.1 u (ap (field_use_of ts field) (sym here) ∙ holds) new typed, rest)
    typed_at ts object false o ps rs t u there holds new typed rest other = (type_kept ts o.1 typed, other there)

    typed_with : (ts : Declared) (object : List ℕ) (ps : Things) (t : Thing) (u : TypeUse) → at_name object ps ≡ Some t → field_use_of ts field t ≡ Some u → FitsUse qs u x → AllByRecursion (λ p. FitsType ts os p.1) ps
        → AllByRecursion (λ p. FitsType ts qs p.1) (changed_at object (thing_with field x) ps)
    typed_with ts object [] t u there holds new typed = tt
    typed_with ts object (o ∷ ps) t u there holds new typed =
        typed_at ts object (bytes_eq object o.0) o ps (changed_at object (thing_with field x) ps) t u there holds new typed.0 (each_of (λ p. FitsType ts os p.1) (λ p. FitsType ts qs p.1) ps (λ p h. type_kept ts p.1 h) typed.1)
        (λ later. typed_with ts object ps t u later holds new typed.1)

-- ---- the bundle

pub well_typed_with : (ts : Declared) (b : Bundled) (object field : List ℕ) (d : Data) → Is ts b.objects field (at_name object b.objects) d → IsWellTyped ts b → IsWellTyped ts (bundle_with object field d b)
well_typed_with ts b object field d given well =
    let os = b.objects in
    let change = thing_with field d in
    let same : (t : Thing) → (change t).type_name ≡ t.type_name = λ t. refl in
    let qs = changed_at object change os in
    let more = λ (type name : List ℕ) (h : NamesObject os type name). names_kept object change same type name os h in
    record {
      few = rw (length_kept object change same os) well.few;
      ascending = rw (keys_kept object change same os) well.ascending;
      named = each_named object change same os well.named;
      rooted = rooted_kept object change same b.root os (at_name b.root os) refl well.rooted;
      typed = typed_with os qs more field d ts object os given.object given.holds given.is_there given.declared (fits (NamesObject os) (NamesObject qs) more given.holds d given.fits) well.typed;
    }

pub root_type_with : (b : Bundled) (object field : List ℕ) (d : Data) (type : List ℕ) → HasRootType type b → HasRootType type (bundle_with object field d b)
root_type_with b object field d type rooted = names_kept object (thing_with field d) (λ t. refl) type b.root b.objects rooted
