-- One object of a record was set.
use Rattle.std.proofs.Common.{◌≡◌, ℕ, ◌+◌, ◌≤◌, IfOk, Vec, List, [], ◌∷◌, map, length, slice_get, Bor, Bool, true, false, cond, not, Option, Some, None, is_some, IsSome, option_map, unwrap_or, Result, Ok, Err, bytes_eq, refl, sym, ap, subst, ◌∙◌, arith}
use Rattle.std.proofs.Math.Path.{fun_ext}
use Rattle.std.proofs.lemmas.Option.{none-some}
use Rattle.std.specs.List.{AllByRecursion}
use Rattle.std.specs.declared.alloc.Global.{Global}
use Rattle.std.proofs.lemmas.Slice.Eq.{bytes_eq-Decides}
use Rattle.serde_json.specs.Data as json
use Rattle.fv_datum.specs.Data.{Data}
use Rattle.fv_datum.specs.Lookup.{at_name}
use Rattle.fv_datum.specs.Outcomes.{first}
use Rattle.fv_bundle.specs.Bundles.{Thing, Things, Bundled}
use Rattle.fv_bundle.specs.Replaced.{changed_at, thing_with, bundle_with}
use Rattle.fv_model.specs.Setting.{bundle_set, set_conditions, datum_for}
use Rattle.fv_bundle.specs.Views.{bundle_view}
use Rattle.fv_model.specs.declared.fault.BundleFault.{BundleFault}
use Rattle.fv_datum.proofs.Outcomes.{head_false, unless_none}
use Rattle.fv_bundle.specs.Names.{ObjectTypes}
use Rattle.fv_bundle.specs.Types.{Declared}
use Rattle.fv_engine_pending.specs.Altering.{Altered, sets, altered, IsOneObject}
use Rattle.fv_engine_pending.specs.Fits.{Agrees, AreFitting, AreShort}
use Rattle.fv_engine_pending.specs.Parts.{and_then}
use Rattle.fv_engine_pending.specs.Steps.{faulty, left_as, set_step, set_on, steps_made, numbered}
use Rattle.fv_engine_pending.specs.Ways.{Way, way_entry, overlay, standing_at, IsOn, left_at, without_id, lone_object}
use Rattle.fv_engine_pending.specs.declared.fault.PartFault.{PartFault}
use Rattle.fv_engine_pending.proofs.Changing.{LeavesFit, LeavesShort, makes, makes_so, fits_so, short_so, taken, taken_so, short_object}
use Rattle.fv_store.specs.Causes.{AreShort as ChangesShort, rows_of, rows_of_all}
use Rattle.fv_store.specs.Changes.{after_all, ChangesFit}
use Rattle.fv_store.specs.Records.{Kept, Records, Roots, RecordFits, with_thing, with_object}
use Rattle.fv_store.specs.Stored.{stored_view}
use Rattle.fv_store.specs.declared.changes.Change.{Change}
use Rattle.fv_store.specs.declared.stored.Stored.{Stored}

-- ---- what is found of it

-- the object that is put in is the one of its name then
changed_found : (name : List ℕ) (t : Thing) (os : Things) → IsSome (at_name name os) → at_name name (changed_at name (λ _. t) os) ≡ Some t
changed_found name t [] there = cc
changed_found name t (o ∷ os) there = at (bytes_eq name o.0) refl there (λ later. changed_found name t os later)
  where
    at : (b : Bool) → bytes_eq name o.0 ≡ b → IsSome (cond b (Some o.1) (at_name name os)) → (IsSome (at_name name os) → at_name name (changed_at name (λ _. t) os) ≡ Some t)
        → at_name name (cond b ((o.0, t) ∷ os) (o ∷ changed_at name (λ _. t) os)) ≡ Some t
    at true same there rest = ap (λ b. cond b (Some t) (at_name name os)) same
    at false same there rest = ap (λ b. cond b (Some o.1) (at_name name (changed_at name (λ _. t) os))) same ∙ rest there

-- the object is that of the record that stands there alone
record Alone (object id : List ℕ) (t : Thing) (way : Way) : Type 0 where
  pub kept : Kept
  pub stands : way ≡ (id, Some kept) ∷ []
  pub found : at_name object kept.bundle.objects ≡ Some t

alone_of : (object id i : List ℕ) (t : Thing) (o : Option Kept) → lone_object object ((i, o) ∷ []) ≡ Some (id, t) → Alone object id t ((i, o) ∷ [])
alone_of object id i t None is = cc
alone_of object id i t (Some k) is = at (at_name object k.bundle.objects) refl is
  where
    at : (found : Option Thing) → at_name object k.bundle.objects ≡ found → option_map {U = List ℕ × Thing} (λ u. (i, u)) found ≡ Some (id, t) → Alone object id t ((i, Some k) ∷ [])
    at None found is = cc
    at (Some u) found is =
        let same : (i, u) ≡ (id, t) = cc in
        record { kept = k; stands = ap (λ (p : List ℕ × Thing). (p.0, Some k) ∷ []) same; found = found ∙ ap (λ (p : List ℕ × Thing). Some p.1) same }

alone : (object id : List ℕ) (t : Thing) (way : Way) → lone_object object way ≡ Some (id, t) → Alone object id t way
alone object id t [] is = cc
alone object id t (e ∷ []) is = alone_of object id e.0 t e.1 is
alone object id t (e ∷ f ∷ es) is = cc

-- ---- as the code finds it

-- the entries of the map
abbrev Entries : Type 0
Entries = List (Bor (List ℕ) × Option Stored)

only_entry : (es : Entries) (e : Bor (List ℕ) × Option Stored) → length es ≡ 1 → slice_get es 0 ≡ Some e → es ≡ e ∷ []
only_entry [] e one is = absurd (omega (arith, one))
only_entry (x ∷ []) e one is = ap (λ (y : Bor (List ℕ) × Option Stored). y ∷ []) (cc)
only_entry (x ∷ y ∷ es) e one is = absurd (omega (arith, one))

module _ (object : List ℕ) (es : Entries) (id : Bor (List ℕ)) (stored : Option Stored) (one : length es ≡ 1) (first : slice_get es 0 ≡ Some (id, stored)) where
  of_entry : lone_object object (map way_entry es) ≡ lone_object object ((id.now, option_map stored_view stored) ∷ [])
  of_entry = ap (λ (xs : Entries). lone_object object (map way_entry xs)) (only_entry es (id, stored) one first)

  of_stored : (o : Option Stored) → o ≡ stored → lone_object object (map way_entry es) ≡ lone_object object ((id.now, option_map stored_view o) ∷ [])
  of_stored o is = of_entry ∙ ap (λ (x : Option Stored). lone_object object ((id.now, option_map stored_view x) ∷ [])) (sym is)

  -- no record stands there
  pub no_record : None ≡ stored → None ≡ lone_object object (map way_entry es)
  no_record is = sym (of_stored None is)

  -- what its record has there, or has not
  pub in_record : (s : Stored) → Some s ≡ stored → (found : Option Thing) → found ≡ at_name object (bundle_view s.bundle).objects → option_map (λ t. (id.now, t)) found ≡ lone_object object (map way_entry es)
  in_record s is found there = ap (option_map (λ (t : Thing). (id.now, t))) there ∙ sym (of_stored (Some s) is)

-- where one object was set, it is the one that is found
pub one_found : (id object : List ℕ) (way : Way) (m : Records) → (o : IsOneObject id object way m) → lone_object object way ≡ Some (id, o.thing)
one_found id object way m o = ap (lone_object object) o.stands ∙ ap (option_map (λ t. (id, t))) (changed_found object o.thing o.kept.bundle.objects o.there)

-- else none was
pub none_set : {E : Type 0} (r : Result (Vec Change Global) E) (object : List ℕ) (way : Way) → None ≡ lone_object object way → IfOk r (λ v. (id : List ℕ) (m : Records) → IsOneObject id object way m → rows_of_all v.items ≡ 0)
none_set (Ok v) object way none = λ id m o. absurd (none-some (id, o.thing) (none ∙ one_found id object way m o))
none_set (Err e) object way none = tt

-- ---- the change of it

first_entry : (e f : List ℕ × Option Kept) → e ∷ [] ≡ f ∷ [] → e ≡ f
first_entry e f is = cc

some_kept : (k l : Kept) → Some k ≡ Some l → k ≡ l
some_kept k l is = cc

some_thing : (t u : Thing) → Some t ≡ Some u → t ≡ u
some_thing t u is = cc

module _ (object id : List ℕ) (t : Thing) (way : Way) (c : Change) (is : altered c ≡ sets id object t) (found : lone_object object way ≡ Some (id, t)) where
  -- its row is short where those of the record are
  pub object_short : AreShort way → ChangesShort (c ∷ [])
  object_short short =
      let a = alone object id t way found in
      let there : at_name id way ≡ Some (Some a.kept) = ap (at_name id) a.stands ∙ ap (λ b. cond b (Some (Some a.kept)) None) ((bytes_eq-Decides id id).1 refl) in
      (short_so c (subst LeavesShort (sym is) (short_object id object t a.kept.bundle.objects (short id a.kept there).1 a.found)), tt)

  -- it takes no rowid
  pub object_rows : rows_of_all (c ∷ []) ≡ 0
  object_rows =
      let one : rows_of c ≡ 0 = taken_so c ∙ ap taken is in
      omega (arith, one)

  module _ (i : List ℕ) (m : Records) (o : IsOneObject i object way m) where
    -- of the record that the records have
    stood : (m id ≡ Some o.kept) × (way ≡ (id, Some (with_thing object t o.kept)) ∷ [])
    stood =
        let same : (id, t) ≡ (i, o.thing) = (let both : Some (id, t) ≡ Some (i, o.thing) = sym found ∙ one_found i object way m o in cc) in
        let back = sym same in (
          ap (λ (p : List ℕ × Thing). m p.0) same ∙ o.stood,
          o.stands ∙ ap (λ (p : List ℕ × Thing). (p.0, Some (with_thing object p.1 o.kept)) ∷ []) back,
        )

    each_over : (k : Kept) → m id ≡ Some k → (q : List ℕ) → with_object id object t m q ≡ overlay ((id, Some (with_thing object t k)) ∷ []) m q
    each_over k was q = at (bytes_eq q id) refl
      where
        at : (b : Bool) → bytes_eq q id ≡ b → cond b (option_map (with_thing object t) (m q)) (m q) ≡ unwrap_or (cond b (Some (Some (with_thing object t k))) None) (m q)
        at true same = ap (option_map (with_thing object t)) (ap m ((bytes_eq-Decides q id).0 same) ∙ was)
        at false same = refl

    -- after it the records have what stands on the way
    pub object_after : after_all (c ∷ []) m ≡ overlay way m
    object_after =
        let s = stood in
        makes_so c m ∙ ap (λ (a : Altered). makes a m) is ∙ fun_ext (each_over o.kept s.0) ∙ ap (λ w. overlay w m) (sym s.1)

    -- it fits where that does
    pub object_fits : (types : Declared) (forms : Roots) → AreFitting types forms way → ChangesFit types forms (c ∷ []) m
    object_fits types forms fitting =
        let s = stood in
        let there : at_name id way ≡ Some (Some (with_thing object t o.kept)) = ap (at_name id) s.1 ∙ ap (λ b. cond b (Some (Some (with_thing object t o.kept))) None) ((bytes_eq-Decides id id).1 refl) in
        let fits : RecordFits types forms (with_thing object t o.kept) = fitting id (with_thing object t o.kept) there in (
          fits_so types forms c m (subst (λ (a : Altered). LeavesFit types forms a m) (sym is)
              (λ k stands. subst (λ l. RecordFits types forms (with_thing object t l)) (some_kept o.kept k (sym s.0 ∙ stands)) fits)),
          tt,
        )

-- ---- a set by itself

-- in a bundle that was set there is the object
none_true : (cs : List (Bool × BundleFault)) → first cs ≡ None → AllByRecursion (λ c. c.0 ≡ false) cs
none_true [] none = tt
none_true (c ∷ cs) none = let rest = head_false c.0 c.1 (first cs) none in (rest.0, none_true cs rest.1)

there_set : (ts : Declared) (types : ObjectTypes) (field : List ℕ) (j : json.Data) (there : Option Thing) → first (set_conditions ts types field j there) ≡ None → not (is_some there) ≡ false
there_set ts types field j there none = (none_true (set_conditions ts types field j there) none).1.1.1.1.1.0

-- a changed object is another in its place
changed_so : (name : List ℕ) (f : Thing → Thing) (t : Thing) (os : Things) → at_name name os ≡ Some t → changed_at name f os ≡ changed_at name (λ _. f t) os
changed_so name f t [] found = refl
changed_so name f t (o ∷ os) found = at (bytes_eq name o.0) found (λ later. changed_so name f t os later)
  where
    at : (b : Bool) → cond b (Some o.1) (at_name name os) ≡ Some t → (at_name name os ≡ Some t → changed_at name f os ≡ changed_at name (λ _. f t) os) → cond b ((o.0, f o.1) ∷ os) (o ∷ changed_at name f os) ≡ cond b ((o.0, f t) ∷ os) (o ∷ changed_at name (λ _. f t) os)
    at true is rest = ap (λ u. (o.0, f u) ∷ os) (some_thing o.1 t is)
    at false is rest = ap (λ us. o ∷ us) (rest is)

some_there : (o : Option Thing) → not (is_some o) ≡ false → (t : Thing) × (o ≡ Some t)
some_there None is = cc
some_there (Some t) is = (t, refl)

module _ (types : Declared) (id object field : List ℕ) (j : json.Data) where
  -- a record was set, and stands there
  record IsSet (w new : Way) (x : Option Kept) : Type 0 where
    pub kept : Kept
    pub is : x ≡ Some kept
    pub bundle : Bundled
    pub set : bundle_set types kept.bundle object field j ≡ Ok bundle
    pub left : left_at id (Some (record { form = kept.form; bundle = bundle })) (without_id id w) ≡ new

  is_set : (w new : Way) (x : Option Kept) → set_on types id object field j w x ≡ Ok new → IsSet w new x
  is_set w new None e = cc
  is_set w new (Some k) e = at (bundle_set types k.bundle object field j) refl e
    where
      at : (r : Result Bundled BundleFault) → bundle_set types k.bundle object field j ≡ r → left_as id k.form (without_id id w) (faulty r) ≡ Ok new → IsSet w new (Some k)
      at (Ok b) set e = record { kept = k; is = refl; bundle = b; set = set; left = cc }
      at (Err fault) set e = cc

  only_step : (r : Result Way PartFault) (new : Way) → and_then (steps_made types (0 + 1) []) (numbered 0 r) ≡ Ok new → r ≡ Ok new
  only_step (Ok v) new e = let same : v ≡ new = cc in ap (λ (w : Way). Ok w) same
  only_step (Err fault) new e = cc

  alone_without : (w : Way) → IsOn id w → length w ≤ 1 → without_id id w ≡ []
  alone_without [] on few = refl
  alone_without (e ∷ []) on few = at (bytes_eq id e.0) on
    where
      at : (b : Bool) → is_some (cond b (Some e.1) None) ≡ true → cond b [] (e ∷ []) ≡ []
      at true on = refl
      at false on = cc
  alone_without (e ∷ f ∷ es) on few = absurd (omega (arith, few))

  on_standing : (w : Way) (o : Option (Option Kept)) → at_name id w ≡ o → is_some o ≡ true → (x : Option Kept) × (at_name id w ≡ Some x) × (standing_at id w ≡ x)
  on_standing w None is on = cc
  on_standing w (Some x) is on = (x, is, ap (λ (found : Option (Option Kept)). unwrap_or found None) is)

  -- where the parts are one set, and its record stands alone on the way, one object of it was set
  pub set_alone : (way new : Way) (m : Records) → Agrees way m → IsOn id way → length way ≤ 1 → steps_made types 0 (set_step id object field j ∷ []) way ≡ Ok new → IsOneObject id object new m
  set_alone way new m agrees on few made =
      let s = is_set way new (standing_at id way) (only_step (set_on types id object field j way (standing_at id way)) new made) in
      let found = on_standing way (at_name id way) refl on in
      let at : Option Thing = at_name object s.kept.bundle.objects in
      let d : Data = datum_for types field j at in
      let set = unless_none _ _ _ s.set in
      let there = some_there at (there_set types _ field j at set.0) in
      let thing = thing_with field d there.0 in
      let same : bundle_with object field d s.kept.bundle ≡ (with_thing object thing s.kept).bundle = ap (λ (os : Things). record { root = s.kept.bundle.root; objects = os }) (changed_so object (thing_with field d) there.0 s.kept.bundle.objects there.1) in
      record {
        kept = s.kept;
        stood = agrees id found.0 found.1 ∙ sym found.2 ∙ s.is;
        there = ap is_some there.1;
        thing = thing;
        stands = sym s.left ∙ ap (λ (w : Way). left_at id (Some (record { form = s.kept.form; bundle = s.bundle })) w) (alone_without way on few)
            ∙ ap (λ (b : Bundled). (id, Some (record { form = s.kept.form; bundle = b })) ∷ []) (sym set.1 ∙ same);
      }
