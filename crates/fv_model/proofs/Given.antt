-- A given datum misfits its field exactly where some field's does, if no name is given twice.
use Rattle.std.proofs.Common.{◌≡◌, ℕ, List, [], ◌∷◌, false, ◌||◌, Option, Some, None, Less, Greater, nat_cmp, bytes_eq, inl, inr, refl, ap, ◌∙◌}
use Rattle.std.specs.List.{list_any, AllByRecursion}
use Rattle.std.specs.Map.{keys_of}
use Rattle.std.specs.Ordering.{ordering_reverse}
use Rattle.std.specs.Cmp.Lexicographic.{slice_cmp}
use Rattle.std.proofs.lemmas.Cmp.{nat_list_cmp_total, tied_itself}
use Rattle.std.proofs.lemmas.Map.Keys.{sorted_head, sorted_tail}
use Rattle.std.proofs.lemmas.Slice.Eq.{bytes_eq-Decides}
use Rattle.serde_json.specs.Data as json
use Rattle.serde_json.specs.Find.{get_member}
use Rattle.fv_datum.specs.Lookup.{at_name}
use Rattle.fv_datum.specs.Members.{pairs}
use Rattle.fv_bundle.specs.Bundles.{IsAscending}
use Rattle.fv_model.specs.Draft.{ObjectDraft}
use Rattle.fv_model.specs.Fitting.{misfits_given, field_misfits, part_misfits}
use Rattle.fv_model.specs.Ascents.{AscendsFor, Ascends}
use Rattle.fv_bundle.specs.Flaws.{misfits}
use Rattle.fv_model.specs.Reading.{has_flaw}
use Rattle.fv_model.proofs.Conditions.{wrong_kind, flaw_among}
use Rattle.fv_bundle.specs.Types.{TypeUse, DeclaredFields, Declared, AreApart, FieldsApart}
use Rattle.fv_datum.proofs.Bools.{or_false, or_left, or_right, same_bool}
use Rattle.fv_datum.proofs.Lookups.{found_every}
use Rattle.fv_model.proofs.Law.{found_each}
use Rattle.fv_model.proofs.Typed.{none_at, chosen}

-- ---- where no given datum misfits, none of a field does

fits_at : (type : TypeUse) (o : Option json.Data) → ((j : json.Data) → o ≡ Some j → misfits (Some type) j ≡ false) → misfits_given type o ≡ false
fits_at type None h = refl
fits_at type (Some j) h = h j refl

fields_fit : (all ds : DeclaredFields) (given : json.Members) → flaw_among misfits all (pairs given) ≡ false → AllByRecursion (λ e. at_name e.0 all ≡ Some e.1) ds → list_any (field_misfits given) ds ≡ false
fields_fit all [] given none known = refl
fields_fit all (d ∷ ds) given none known =
    let here : field_misfits given d ≡ false =
    fits_at d.1 (get_member d.0 given) (λ j is. rw known.0 at (none_at (λ g. misfits (at_name g.0 all) g.1) d.0 given j is none)) in
    or_false _ _ here (fields_fit all ds given none known.1)

-- ---- and the other way round

found_later : (l : List ℕ) (e : json.Data) (ms : json.Members) (gs : List (List ℕ × json.Data)) → AllByRecursion (λ k. slice_cmp nat_cmp l k ≡ Less) (keys_of gs) → AllByRecursion (λ g. get_member g.0 ms ≡ Some g.1) gs
    → AllByRecursion (λ g. get_member g.0 (json.member l e ms) ≡ Some g.1) gs
found_later l e ms [] below found = tt
found_later l e ms (g ∷ gs) below found =
    let above : slice_cmp nat_cmp g.0 l ≡ Greater = nat_list_cmp_total.antisymm g.0 l ∙ ap ordering_reverse below.0 in
    (rw above found.0, found_later l e ms gs below.1 found.1)

-- each member is found by its name
found_members : (ms : json.Members) → IsAscending (keys_of (pairs ms)) → AllByRecursion (λ g. get_member g.0 ms ≡ Some g.1) (pairs ms)
found_members json.no_members h = tt
found_members (json.member l e ms) h = (
  rw (tied_itself nat_list_cmp_total l) refl,
  found_later l e ms (pairs ms) (sorted_head (slice_cmp nat_cmp) l (keys_of (pairs ms)) h) (found_members ms (sorted_tail (slice_cmp nat_cmp) l (keys_of (pairs ms)) h)),
)

field_fits : (name : List ℕ) (type : TypeUse) (given : json.Members) (ds : DeclaredFields) → at_name name ds ≡ Some type → list_any (field_misfits given) ds ≡ false → misfits_given type (get_member name given) ≡ false
field_fits name type given [] e none = cc
field_fits name type given (d ∷ ds) e none = elim (chosen (bytes_eq name d.0) d.1 (at_name name ds) type e) [
  | inl here ↦ (let same : name ≡ d.0 = (bytes_eq-Decides name d.0).0 here.0 in rw (same, ← here.1) (or_left (field_misfits given d) (list_any (field_misfits given) ds) none))
  | inr more ↦ field_fits name type given ds more.1 (or_right (field_misfits given d) (list_any (field_misfits given) ds) none)
]

fits_declared : (o : Option TypeUse) (j : json.Data) → ((type : TypeUse) → o ≡ Some type → misfits (Some type) j ≡ false) → misfits o j ≡ false
fits_declared None j h = refl
fits_declared (Some type) j h = h type refl

given_fit : (all : DeclaredFields) (given : json.Members) (gs : List (List ℕ × json.Data)) → list_any (field_misfits given) all ≡ false → AllByRecursion (λ g. get_member g.0 given ≡ Some g.1) gs → flaw_among misfits all gs ≡ false
given_fit all given [] none found = refl
given_fit all given (g ∷ gs) none found =
    let here : misfits (at_name g.0 all) g.1 ≡ false = fits_declared (at_name g.0 all) g.1 (λ type is. rw found.0 at (field_fits g.0 type given all is none)) in
    or_false _ _ here (given_fit all given gs none found.1)

-- ---- the objects

part_same : (ts : Declared) (p : ObjectDraft) (o : Option DeclaredFields) → at_name p.type_name ts ≡ o → FieldsApart ts → AscendsFor o p.given → part_misfits ts p ≡ has_flaw misfits ts p
unfolding has_flaw
part_same ts p None is apart ascends = rw is refl
part_same ts p (Some ds) is apart ascends =
    let known = found_each ds (found_every AreApart p.type_name ts ds apart is) in
    rw is (same_bool (list_any (field_misfits p.given) ds) (flaw_among misfits ds (pairs p.given)) (λ none. given_fit ds p.given (pairs p.given) none (found_members p.given ascends)) (λ none. fields_fit ds ds p.given none known))

pub wrong_same : (ts : Declared) (ps : List ObjectDraft) → FieldsApart ts → AllByRecursion (Ascends ts) ps → list_any (part_misfits ts) ps ≡ wrong_kind ts ps
wrong_same ts [] apart ascends = refl
wrong_same ts (p ∷ ps) apart ascends =
    ap (λ b. b || list_any (part_misfits ts) ps) (part_same ts p (at_name p.type_name ts) refl apart ascends.0)
    ∙ ap (λ b. has_flaw misfits ts p || b) (wrong_same ts ps apart ascends.1)
