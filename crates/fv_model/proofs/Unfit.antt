-- Where what was written of a well-typed bundle is refused, it is for the types under which it is read.
use Rattle.std.proofs.Common.{◌≡◌, ℕ, List, [], ◌∷◌, map, length, Bool, true, false, not, cond, nat_lt, Option, Some, None, Err, refl, sym, ap, ◌∙◌}
use Rattle.std.specs.List.{AllByRecursion}
use Rattle.std.proofs.lemmas.Bool.{le-ltb}
use Rattle.std.proofs.lemmas.List.{length-map}
use Rattle.serde_json.specs.Data as json
use Rattle.fv_datum.specs.Data.{Data}
use Rattle.fv_datum.specs.Lookup.{at_name}
use Rattle.fv_datum.specs.Members.{pairs}
use Rattle.fv_datum.specs.Name.{names}
use Rattle.fv_datum.specs.Outcomes.{unless_fault}
use Rattle.fv_datum.specs.Written.{is_null}
use Rattle.fv_bundle.specs.Flaws.{is_large}
use Rattle.fv_bundle.specs.Types.{DeclaredFields, Declared}
use Rattle.fv_datum.proofs.Bools.{or_false}
use Rattle.fv_datum.proofs.Lists.{none_made}
use Rattle.fv_bundle.proofs.Small.{IsSmall, fits_small, never_large}
use Rattle.fv_bundle.specs.Bundles.{Thing, Things, Bundled}
use Rattle.fv_model.specs.Draft.{BundleDraft}
use Rattle.fv_model.specs.Reading.{has_flaw, bundle_of, bundle_read}
use Rattle.fv_model.specs.Unfit.{is_of_types}
use Rattle.fv_bundle.specs.WellTyped.{NamesObject, FieldsAre, FitsType, IsWellTyped}
use Rattle.fv_model.specs.Writing.{datum_json, bundle_json}
use Rattle.fv_model.specs.declared.fault.BundleFault.{BundleFault}
use Rattle.fv_model.specs.declared.fault.BundleFault.TheVariants.{BadName, RootMissing, UnknownType, UnknownField, WrongKind, DanglingRef, RefType, TooLarge, RootType}
use Rattle.fv_model.proofs.Conditions.{bad_name, root_missing, unknown_type, unknown_field, wrong_kind, dangling_ref, ref_type, large_datum, too_large, root_type, draft_fault, judged, added, flaw_among}
use Rattle.fv_model.proofs.Again.{each_added}
use Rattle.fv_model.proofs.Law.{part_for, draft_back, types_agree, is_there}

-- ---- nothing that was written is too large

each_small : (os : Things) (ds : DeclaredFields) (fs : List (List ℕ × Data)) → FieldsAre (NamesObject os) ds fs → AllByRecursion (λ f. is_null f.1 ≡ false → IsSmall (datum_json f.1)) fs
each_small os [] [] fit = tt
each_small os (d ∷ ds) (f ∷ fs) fit = ((λ some. fits_small (NamesObject os) d.1 f.1 fit.0.1), each_small os ds fs fit.1)
each_small os [] (f ∷ fs) fit = absurd fit
each_small os (d ∷ ds) [] fit = absurd fit

none_large : (ds : DeclaredFields) (gs : List (List ℕ × json.Data)) → AllByRecursion (λ m. IsSmall m.1) gs → flaw_among is_large ds gs ≡ false
none_large ds [] small = refl
none_large ds (g ∷ gs) small = or_false _ _ (never_large (at_name g.0 ds) g.1 small.0) (none_large ds gs small.1)

object_small : (old ts : Declared) (os : Things) (o : List ℕ × Thing) → FitsType old os o.1 → has_flaw is_large ts (part_for o) ≡ false
unfolding has_flaw
object_small old ts os o fits = at (at_name o.1.type_name ts) refl
  where
    small : AllByRecursion (λ m. IsSmall m.1) (pairs (added json.no_members o.1.fields))
    small = each_added IsSmall o.1.fields json.no_members (each_small os fits.fields o.1.fields fits.fit) tt

    at : (found : Option DeclaredFields) → at_name o.1.type_name ts ≡ found → has_flaw is_large ts (part_for o) ≡ false
    at None is = rw is refl
    at (Some ds) is = rw is (none_large ds (pairs (added json.no_members o.1.fields)) small)

-- ---- the first fault is one of types

-- the first fault, if that is none that is known not to be there
one_more : (b : Bool) (e why : BundleFault) (rest : Option BundleFault) → (b ≡ false → rest ≡ Some why → is_of_types why ≡ true) → is_of_types e ≡ true → cond b (Some e) rest ≡ Some why → is_of_types why ≡ true
one_more true e why rest more here is = let same : e ≡ why = cc in rw (← same) here
one_more false e why rest more here is = more refl is

none_here : (b : Bool) (e why : BundleFault) (rest : Option BundleFault) → b ≡ false → cond b (Some e) rest ≡ Some why → rest ≡ Some why
none_here true e why rest none is = cc
none_here false e why rest none is = is

fault_of : (o : Option BundleFault) (b : Bundled) (why : BundleFault) → unless_fault o b ≡ Err why → o ≡ Some why
fault_of None b why is = cc
fault_of (Some e) b why is = let same : e ≡ why = cc in ap (λ x. Some x) same

pub refused_for_types : (old ts : Declared) (asked : Option (List ℕ)) (a : Bundled) (why : BundleFault) → IsWellTyped old a → bundle_read ts asked (bundle_json a) ≡ Err why → is_of_types why ≡ true
refused_for_types old ts asked a why typed e =
    let os = a.objects in
    let ps = map part_for os in
    let d : BundleDraft = record { root = a.root; objects = ps } in
    let read : judged ts asked (Some d) ≡ Err why = ap (judged ts asked) (sym (draft_back a.root os typed.ascending)) ∙ e in
    let fault : draft_fault ts asked d ≡ Some why = fault_of (draft_fault ts asked d) (bundle_of ts d) why read in
    let named : bad_name ps ≡ false = none_made (λ p. not (names p.name)) part_for (λ o. names o.0 ≡ true) os (λ o is. rw is refl) typed.named in
    let rooted : root_missing a.root ps ≡ false = rw (types_agree os a.root) (is_there (at_name a.root os) typed.rooted) in
    let few : nat_lt 256 (length ps) ≡ false = rw length-map (le-ltb 256 (length os) typed.few) in
    let short : large_datum ts ps ≡ false = none_made (has_flaw is_large ts) part_for (λ o. FitsType old os o.1) os (λ o fits. object_small old ts os o fits) typed.typed in
    let small : too_large ts ps ≡ false = or_false _ _ few short in
    one_more (unknown_type ts ps) UnknownType why _ (λ no1. one_more (unknown_field ts ps) UnknownField why _ (λ no2. one_more (wrong_kind ts ps) WrongKind why _ (λ no3. one_more (dangling_ref ts ps) DanglingRef why _
    (λ no4. one_more (ref_type ts ps) RefType why _ (λ no5 is. one_more (root_type asked a.root ps) RootType why _ (λ no6 none. cc) refl (none_here (too_large ts ps) TooLarge why _ small is)) refl) refl) refl) refl) refl
    (none_here (root_missing a.root ps) RootMissing why _ rooted (none_here (bad_name ps) BadName why _ named fault))
