-- A path tells which reference of an object it goes through.
use Rattle.std.proofs.Common.{◌≡◌, inl, inr, ℕ, zero, suc, List, [], ◌∷◌, map, filter, Bool, true, false, cond, nat_cmp, nat_eq, Ordering, Less, Equal, Option, Some, None, slice_get, refl, sym, ap, ap₂, subst, ◌∙◌}
use Rattle.std.proofs.lemmas.Cmp.{nat_list_cmp_total, tied_itself}
use Rattle.std.proofs.lemmas.Map.Keys.{sorted_head, sorted_tail}
use Rattle.std.specs.Cmp.Lexicographic.{slice_cmp}
use Rattle.std.specs.List.{AllByRecursion}
use Rattle.std.specs.Option.{option_map, option_map_or, option_and_then}
use Rattle.fv_datum.specs.Data.{Data}
use Rattle.fv_datum.specs.declared.kind.Kind.TheVariants as kind
use Rattle.fv_declare_schema.specs.Declarations.{Declarations}
use Rattle.fv_declare_schema.specs.Ordered.{held_after, held_inside, IsValidIn, AreOrdered}
use Rattle.fv_extract.specs.Parts.{Locus, parts_at}
use Rattle.fv_extract.specs.Places.{PlaceStep, element, key, value, content, FieldPlace}
use Rattle.fv_graph.proofs.Lists.{eq_of}
use Rattle.fv_graph.specs.Graph.{IsIn}
use Rattle.fv_declare_schema.specs.ValidPlaces.{ValidPlace}
use Rattle.fv_bundle.specs.Bundles.{Thing, Things, Bundled}
use Rattle.fv_bundle.specs.WellTyped.{NamesObject, FieldsAre, FitsType, IsWellTyped}
use Rattle.fv_local.specs.Loci.{leads}
use Rattle.fv_local.specs.Paths.{field_name, nodes_of}
use Rattle.fv_graph.proofs.Images.{from_flat_map, from_filter_map}
use Rattle.fv_walk_traces.specs.Turns.{Way}
use Rattle.fv_walk_traces.specs.Violations.{but_named}
use Rattle.fv_datum.specs.Ascending.{IsAscending}
use Rattle.fv_bundle.specs.Types.{TypeUse, texts, integers, decimals, booleans, dates, instants, references, lists, maps, optionals, nested, kind_of, DeclaredFields, number_of_type}
use Rattle.fv_local.specs.Conversions.{valid_places_of, valid_places_at}
use Rattle.fv_local.specs.Requests.{object_at, datum_of_part}
use Rattle.fv_local.specs.Sound.{IsSound}
use Rattle.fv_local.specs.Ways.{way_place, target_of, way_at, ways_at, ways_of}
use Rattle.fv_local.proofs.Numbers.{each_in, from_filter}
use Rattle.fv_datum.proofs.Lookups.{found_all}
use Rattle.fv_datum.proofs.Lists.{all_get}
use Rattle.fv_local.proofs.LocatedParts.{part_there}
use Rattle.fv_local.proofs.Segments.{named_locus_same}
use Rattle.fv_local.proofs.Ways.{way_is}

-- ---- in a type use one place at most holds references

-- the steps lead in a type use to references
abbrev LeadsToReferences : TypeUse → List PlaceStep → Type 0
LeadsToReferences u steps = option_map kind_of (held_inside steps u) ≡ Some kind.Ref

-- the only steps that may
abbrev steps_to : TypeUse → List PlaceStep
steps_to (lists held) = element ∷ steps_to held
steps_to (maps held) = value ∷ steps_to held
steps_to (optionals held) = content ∷ steps_to held
steps_to _ = []

none_after : (s : PlaceStep) (u : TypeUse) → nested u ≡ 0 → held_after s u ≡ None
none_after element (lists held) e = cc
none_after element _ e = refl
none_after key (maps held) e = cc
none_after key _ e = refl
none_after value (maps held) e = cc
none_after value _ e = refl
none_after content (optionals held) e = cc
none_after content _ e = refl

no_steps : (u : TypeUse) (ss : List PlaceStep) → nested u ≡ 0 → LeadsToReferences u ss → ss ≡ []
no_steps u [] e h = refl
no_steps u (s ∷ ss) e h =
    let none : option_map kind_of None ≡ Some kind.Ref = ap (λ (o : Option TypeUse). option_map kind_of (option_and_then (held_inside ss) o)) (sym (none_after s u e)) ∙ h in
    cc

-- keys are texts
no_key : (ss : List PlaceStep) → LeadsToReferences texts ss → ⊥
no_key [] h = cc
no_key (s ∷ ss) h = let none : s ∷ ss ≡ [] = no_steps texts (s ∷ ss) refl h in cc

only_steps : (u : TypeUse) (ss : List PlaceStep) → LeadsToReferences u ss → ss ≡ steps_to u
only_steps (lists held) (element ∷ ss) h = ap (λ (l : List PlaceStep). element ∷ l) (only_steps held ss h)
only_steps (lists held) [] h = cc
only_steps (lists held) (key ∷ ss) h = cc
only_steps (lists held) (value ∷ ss) h = cc
only_steps (lists held) (content ∷ ss) h = cc
only_steps (maps held) (value ∷ ss) h = ap (λ (l : List PlaceStep). value ∷ l) (only_steps held ss h)
only_steps (maps held) (key ∷ ss) h = absurd (no_key ss h)
only_steps (maps held) [] h = cc
only_steps (maps held) (element ∷ ss) h = cc
only_steps (maps held) (content ∷ ss) h = cc
only_steps (optionals held) (content ∷ ss) h = ap (λ (l : List PlaceStep). content ∷ l) (only_steps held ss h)
only_steps (optionals held) [] h = cc
only_steps (optionals held) (element ∷ ss) h = cc
only_steps (optionals held) (key ∷ ss) h = cc
only_steps (optionals held) (value ∷ ss) h = cc
only_steps texts ss h = no_steps texts ss refl h
only_steps integers ss h = no_steps integers ss refl h
only_steps decimals ss h = no_steps decimals ss refl h
only_steps booleans ss h = no_steps booleans ss refl h
only_steps dates ss h = no_steps dates ss refl h
only_steps instants ss h = no_steps instants ss refl h
only_steps (references type) ss h = no_steps (references type) ss refl h

-- ---- of a type's valid places, a field has one at most

module _ (ds : Declarations) (ordered : AreOrdered ds) where
  kept : {X : Type 0} (test : X → Bool) (xs : List X) (x : X) → IsIn (filter test xs) x → test x ≡ true
  kept test [] x h = absurd h
  kept {X} test (y ∷ ys) x h = go (test y) refl (kept test ys x) h
    where
      go : (b : Bool) → test y ≡ b → (IsIn (filter test ys) x → test x ≡ true) → IsIn (cond b (y ∷ filter test ys) (filter test ys)) x → test x ≡ true
      go true e ih (inl same) = ap test (sym same) ∙ e
      go true e ih (inr k) = ih k
      go false e ih k = ih k

  one_place : (p q : ValidPlace) → IsValidIn ds.types p → IsValidIn ds.types q → p.type ≡ q.type → p.field ≡ q.field → way_place p ≡ way_place q
  one_place p q (t, t_is, (f, f_is, leads)) (u, u_is, (g, g_is, led)) type number =
      let same_type : t ≡ u = cc (t_is, u_is, type) in
      let same_field : f ≡ g = cc (f_is, g_is, number, same_type) in
      let steps : p.steps ≡ q.steps = only_steps f.1 p.steps leads ∙ ap (λ (x : List ℕ × TypeUse). steps_to x.1) same_field ∙ sym (only_steps g.1 q.steps led) in
      ap₂ (λ (n : ℕ) (ss : List PlaceStep). record { field = n; steps = ss }) number steps

  pub same_place : (object : Thing) (p q : ValidPlace) → IsIn (valid_places_at ds object) p → IsIn (valid_places_at ds object) q → p.field ≡ q.field → way_place p ≡ way_place q
  same_place object p q h k number = go (number_of_type ds.types object.type_name) h k
    where
      of_type : (type : ℕ) (r : ValidPlace) → IsIn (valid_places_of ds type) r → (r.type ≡ type) × IsValidIn ds.types r
      of_type type r m =
          let test = λ (s : ValidPlace). nat_eq s.type type in
          (eq_of r.type type (kept test ds.valid_places r m), each_in (IsValidIn ds.types) ds.valid_places r ordered.valid (from_filter test ds.valid_places r m))

      go : (o : Option ℕ) → IsIn (option_map_or (valid_places_of ds) o []) p → IsIn (option_map_or (valid_places_of ds) o []) q → way_place p ≡ way_place q
      go None h k = absurd h
      go (Some type) h k = let one = of_type type p h in let two = of_type type q k in one_place p q one.1 two.1 (one.0 ∙ sym two.0) number

-- ---- of an object's fields each has a name of its own

after : {X : Type 0} (fs : List (List ℕ × X)) (name : List ℕ) (j : ℕ) (g : List ℕ × X) → AllByRecursion (λ n. slice_cmp nat_cmp name n ≡ Less) (map (λ f. f.0) fs) → slice_get fs j ≡ Some g → name ≡ g.0 → ⊥
after [] name j g above e same = cc
after (f ∷ fs) name zero g above e same =
    let is : f ≡ g = cc in
    let less : slice_cmp nat_cmp name f.0 ≡ Less = above.0 in
    let tied = tied_itself nat_list_cmp_total name in
    let here : name ≡ f.0 = cc in
    let both : ◌≡◌ {A = Ordering} Less Equal = sym less ∙ ap (slice_cmp nat_cmp name) (sym here) ∙ tied in
    cc
after (f ∷ fs) name (suc j) g above e same = after fs name j g above.1 e same

apart : {X : Type 0} (fs : List (List ℕ × X)) (i j : ℕ) (f g : List ℕ × X) → IsAscending (map (λ f. f.0) fs) → slice_get fs i ≡ Some f → slice_get fs j ≡ Some g → f.0 ≡ g.0 → i ≡ j
apart [] i j f g ascending h k same = cc
apart {X} (x ∷ fs) i j f g ascending h k same = go i j h k (apart fs)
  where
    above : AllByRecursion (λ n. slice_cmp nat_cmp x.0 n ≡ Less) (map (λ f. f.0) fs)
    above = sorted_head (slice_cmp nat_cmp) x.0 (map (λ f. f.0) fs) ascending

    go : (i j : ℕ) → slice_get (x ∷ fs) i ≡ Some f → slice_get (x ∷ fs) j ≡ Some g → ((i j : ℕ) (f g : List ℕ × X) → IsAscending (map (λ f. f.0) fs) → slice_get fs i ≡ Some f → slice_get fs j ≡ Some g → f.0 ≡ g.0 → i ≡ j) → i ≡ j
    go zero zero h k ih = refl
    go zero (suc j) h k ih = let is : x ≡ f = cc in absurd (after fs x.0 j g above k (ap (λ (y : List ℕ × X). y.0) is ∙ same))
    go (suc i) zero h k ih = let is : x ≡ g = cc in absurd (after fs x.0 i f above h (ap (λ (y : List ℕ × X). y.0) is ∙ sym same))
    go (suc i) (suc j) h k ih = ap suc (ih i j f g (sorted_tail (slice_cmp nat_cmp) x.0 (map (λ f. f.0) fs) ascending) h k same)

names_fit : (os : Things) (ds : DeclaredFields) (fs : List (List ℕ × Data)) → FieldsAre (NamesObject os) ds fs → map (λ f. f.0) ds ≡ map (λ f. f.0) fs
names_fit os [] [] fit = refl
names_fit os (d ∷ ds) (f ∷ fs) fit = ap₂ (λ (n : List ℕ) (ns : List (List ℕ)). n ∷ ns) (sym fit.0.0) (names_fit os ds fs fit.1)
names_fit os [] (f ∷ fs) fit = absurd fit
names_fit os (d ∷ ds) [] fit = absurd fit

-- no two fields have one name
abbrev pub HasNamesApart : Thing → Type 0
HasNamesApart object = (i j : ℕ) (f g : List ℕ × Data) → slice_get object.fields i ≡ Some f → slice_get object.fields j ≡ Some g → f.0 ≡ g.0 → i ≡ j

fits_apart : (ds : Declarations) (os : Things) (t : Thing) → AreOrdered ds → FitsType ds.types os t → HasNamesApart t
fits_apart ds os t ordered fits =
    let declared = found_all (λ (fs : DeclaredFields). IsAscending (map (λ f. f.0) fs)) t.type_name ds.types fits.fields ordered.fields fits.declared in
    λ i j f g. apart t.fields i j f g (subst IsAscending (names_fit os fits.fields t.fields fits.fit) declared)

-- so it is with each object of a well-typed bundle
pub names_apart : (ds : Declarations) (b : Bundled) → AreOrdered ds → IsWellTyped ds.types b → (i : ℕ) → HasNamesApart (object_at b i)
names_apart ds b ordered typed i = go (slice_get b.objects i) refl
  where
    go : (o : Option (List ℕ × Thing)) → slice_get b.objects i ≡ o → HasNamesApart (option_map_or (λ o. o.1) o (record { type_name = []; fields = [] }))
    go None e = λ i j f g h k same. absurd cc
    go (Some o) e = fits_apart ds b.objects o.1 ordered (all_get (λ (o : List ℕ × Thing). FitsType ds.types b.objects o.1) b.objects i o typed.typed e)

-- ---- the references of an object

module _ (ds : Declarations) (os : Things) (object : Thing) (ordered : AreOrdered ds) (sound : IsSound object) where
  -- what is known of one: its place, which is valid, and the datum there
  pub record IsHeld (w : Way) : Type 0 where
    pub at : ValidPlace
    pub valid : IsIn (valid_places_at ds object) at
    pub place : w.place ≡ way_place at
    pub datum : Data
    pub there : IsIn (parts_at object w.place) (w.locus, datum)
    pub target : target_of os datum ≡ Some w.target

  pub held : (w : Way) → IsIn (ways_of ds os object) w → IsHeld w
  held w h =
      let p = from_flat_map (ways_at os object) (valid_places_at ds object) w h in
      let place = way_place p.0 in
      let part = from_filter_map (way_at os place) (parts_at object place) w p.2 in
      let is = way_is os place part.0 w part.2 in
      let here = subst (λ (l : Locus). IsIn (parts_at object place) (l, part.0.1)) (sym is.1) part.1 in
      record {
        at = p.0;
        valid = p.1;
        place = is.0;
        datum = part.0.1;
        there = subst (λ (x : FieldPlace). IsIn (parts_at object x) (w.locus, part.0.1)) (sym is.0) here;
        target = is.2;
      }

  pub held_led : (w : Way) → IsHeld w → leads w.place.steps w.locus ≡ true
  held_led w h = (part_there object w.place (w.locus, h.datum) sound h.there).led

  -- the name of its field and the nodes from there, but for the last that only names a part, tell where it leads
  pub same_target : HasNamesApart object → (w v : Way) → IsHeld w → IsHeld v → field_name object w.place.field ≡ field_name object v.place.field
      → but_named (nodes_of w.place.steps w.locus) ≡ but_named (nodes_of v.place.steps v.locus) → w.target ≡ v.target
  same_target apart w v h k name nodes =
      let one = part_there object w.place (w.locus, h.datum) sound h.there in
      let two = part_there object v.place (v.locus, k.datum) sound k.there in
      let number : w.place.field ≡ v.place.field = apart w.place.field v.place.field one.of two.of one.there two.there (sym one.name ∙ name ∙ two.name) in
      let numbers : h.at.field ≡ k.at.field = ap (λ (x : FieldPlace). x.field) (sym h.place) ∙ number ∙ ap (λ (x : FieldPlace). x.field) k.place in
      let place : w.place ≡ v.place = h.place ∙ same_place ds ordered object h.at k.at h.valid k.valid numbers ∙ sym k.place in
      let led : leads w.place.steps v.locus ≡ true = ap (λ (x : FieldPlace). leads x.steps v.locus) place ∙ two.led in
      let named = nodes ∙ ap (λ (x : FieldPlace). but_named (nodes_of x.steps v.locus)) (sym place) in
      let locus : w.locus ≡ v.locus = named_locus_same w.place.steps w.locus v.locus one.led led named in
      let datum : h.datum ≡ k.datum = sym one.datum ∙ ap₂ (λ (x : FieldPlace) (l : Locus). datum_of_part object x l) place locus ∙ two.datum in
      let target : ◌≡◌ {A = Option ℕ} (Some w.target) (Some v.target) = sym h.target ∙ ap (target_of os) datum ∙ k.target in
      cc
