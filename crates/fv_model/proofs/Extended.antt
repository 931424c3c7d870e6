-- What was written of a well-typed bundle is read under any types that have its types and fields.
use Rattle.std.proofs.Common.{◌≡◌, ℕ, List, map, length, false, true, not, nat_lt, Option, Some, None, Ok, is_some, refl, ap, ◌∙◌}
use Rattle.std.specs.List.{AllByRecursion}
use Rattle.std.proofs.lemmas.Bool.{le-ltb}
use Rattle.std.proofs.lemmas.List.{length-map}
use Rattle.serde_json.specs.Data as json
use Rattle.fv_datum.specs.Lookup.{at_name}
use Rattle.fv_datum.specs.Name.{names}
use Rattle.fv_datum.specs.Outcomes.{unless_fault}
use Rattle.fv_bundle.specs.Flaws.{undeclared, misfits, dangles, strays, is_large}
use Rattle.fv_bundle.specs.Names.{ObjectTypes}
use Rattle.fv_bundle.specs.Types.{DeclaredFields, Declared, AreApart, FieldsApart}
use Rattle.fv_datum.proofs.Bools.{or_false}
use Rattle.fv_datum.proofs.Lists.{each_of, none_made}
use Rattle.fv_datum.proofs.Lookups.{found_every}
use Rattle.fv_bundle.specs.Bundles.{Thing, Things, Bundled}
use Rattle.fv_model.specs.Draft.{ObjectDraft, BundleDraft}
use Rattle.fv_model.specs.Extends.{Extends}
use Rattle.fv_model.specs.Reading.{object_types, has_flaw, bundle_conditions, bundle_of, bundle_read}
use Rattle.fv_bundle.specs.WellTyped.{FitsType, IsWellTyped, HasRootType}
use Rattle.fv_model.specs.Writing.{bundle_json}
use Rattle.fv_model.proofs.Conditions.{root_missing, large_datum, draft_fault, judged}
use Rattle.fv_model.proofs.Law.{found_each, Agree, Taken, taken, any_added, flaw_known, part_for, types_agree, draft_back, no_first, root_asked, is_there}

-- no fault at an object
record IsTaken (ts : Declared) (types : ObjectTypes) (o : List ℕ × Thing) : Type 0 where
  typed : not (is_some (at_name o.1.type_name ts)) ≡ false
  declared : has_flaw undeclared ts (part_for o) ≡ false
  fits : has_flaw misfits ts (part_for o) ≡ false
  there : has_flaw (dangles types) ts (part_for o) ≡ false
  own : has_flaw (strays types) ts (part_for o) ≡ false
  short : has_flaw is_large ts (part_for o) ≡ false

object_taken : (old ts : Declared) (os : Things) (types : ObjectTypes) (o : List ℕ × Thing) → Extends old ts → FieldsApart old → Agree types os → FitsType old os o.1 → IsTaken ts types o
object_taken old ts os types o extends apart agree fits_type =
    let fs = o.1.fields in
    let ds : DeclaredFields = fits_type.fields in
    let found = extends o.1.type_name ds fits_type.declared in
    let es : DeclaredFields = found.0 in
    let known = each_of (λ e. at_name e.0 ds ≡ Some e.1) (λ e. at_name e.0 es ≡ Some e.1) ds (λ e is. found.2 e.0 e.1 is) (found_each ds (found_every AreApart o.1.type_name old ds apart fits_type.declared)) in
    let all : Taken types es fs = taken os types es ds fs agree fits_type.fit known in
    let part : ObjectDraft = part_for o in
    record {
      typed = rw found.1 refl;
      declared = flaw_known undeclared ts part es found.1 ∙ any_added (λ g. not (is_some (at_name g.0 es))) fs json.no_members all.declared refl;
      fits = flaw_known misfits ts part es found.1 ∙ any_added (λ g. misfits (at_name g.0 es) g.1) fs json.no_members all.fits refl;
      there = flaw_known (dangles types) ts part es found.1 ∙ any_added (λ g. dangles types (at_name g.0 es) g.1) fs json.no_members all.there refl;
      own = flaw_known (strays types) ts part es found.1 ∙ any_added (λ g. strays types (at_name g.0 es) g.1) fs json.no_members all.own refl;
      short = flaw_known is_large ts part es found.1 ∙ any_added (λ g. is_large (at_name g.0 es) g.1) fs json.no_members all.lengths refl;
    }

-- it is read, by the fields that its objects' types have now
pub read_extended : (old ts : Declared) (asked : Option (List ℕ)) (a : Bundled) → Extends old ts → FieldsApart old → IsWellTyped old a → ((type : List ℕ) → asked ≡ Some type → HasRootType type a)
    → bundle_read ts asked (bundle_json a) ≡ Ok (bundle_of ts (record { root = a.root; objects = map part_for a.objects }))
read_extended old ts asked a extends apart well rooted =
    let os = a.objects in
    let ps : List ObjectDraft = map part_for os in
    let d : BundleDraft = record { root = a.root; objects = ps } in
    let types = object_types ps in
    let all : AllByRecursion (IsTaken ts types) os = each_of (λ o. FitsType old os o.1) (IsTaken ts types) os (λ o fits. object_taken old ts os types o extends apart (types_agree os) fits) well.typed in
    let few : nat_lt 256 (length ps) ≡ false = rw length-map (le-ltb 256 (length os) well.few) in
    let long : large_datum ts ps ≡ false = none_made (has_flaw is_large ts) part_for (IsTaken ts types) os (λ o is. is.short) all in
    let there : root_missing a.root ps ≡ false = rw (types_agree os a.root) (is_there (at_name a.root os) well.rooted) in
    let none : draft_fault ts asked d ≡ None =
    no_first (bundle_conditions ts asked d) (
      none_made (λ p. not (names p.name)) part_for (λ o. names o.0 ≡ true) os (λ o named. rw named refl) well.named,
      (
        there,
        (
          none_made (λ p. not (is_some (at_name p.type_name ts))) part_for (IsTaken ts types) os (λ o is. is.typed) all,
          (
            none_made (has_flaw undeclared ts) part_for (IsTaken ts types) os (λ o is. is.declared) all,
            (
              none_made (has_flaw misfits ts) part_for (IsTaken ts types) os (λ o is. is.fits) all,
              (
                none_made (has_flaw (dangles types) ts) part_for (IsTaken ts types) os (λ o is. is.there) all,
                (
                  none_made (has_flaw (strays types) ts) part_for (IsTaken ts types) os (λ o is. is.own) all,
                  (or_false _ _ few long, (root_asked asked a.root os rooted, tt)),
                ),
              ),
            ),
          ),
        ),
      ),
    ) in
    ap (judged ts asked) (draft_back a.root os well.ascending) ∙ ap (λ f. unless_fault f (bundle_of ts d)) none
