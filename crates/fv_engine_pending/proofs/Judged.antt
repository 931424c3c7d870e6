-- A record is judged, and those that stand on the way, one after another.
use Rattle.std.proofs.Common.{◌≡◌, ◌≢◌, IfOk, IfErr, OnOk, MatchResult, ℕ, ℤ, List, [], ◌∷◌, ◌++◌, map, length, Option, Some, None, option_map, Result, Ok, Err, Less, nat_cmp, Bor, inl, inr, refl, sym, ap, subst, ◌∙◌, append_assoc}
use Rattle.std.specs.Cmp.Lexicographic.{slice_cmp}
use Rattle.std.specs.List.{AllByRecursion}
use Rattle.std.specs.List.Sorted.{IsStrictlySortedBy}
use Rattle.std.specs.Map.{keys_of}
use Rattle.std.proofs.lemmas.List.{append-nil}
use Rattle.sqlite_rules.specs.Lists.{Has}
use Rattle.fv_declare_schema.specs.Declarations.{Declarations}
use Rattle.fv_engine_pending.specs.Judging.{groups_of, IsListingOf, IsOfJudging, IsOverVisited}
use Rattle.fv_engine_pending.specs.Records.{AreJudged, OneIsOver, some_of, with_some}
use Rattle.fv_bundle.specs.WellTyped.{IsWellTyped}
use Rattle.fv_engine_pending.specs.Fits.{AreTyped}
use Rattle.fv_engine_pending.specs.Ways.{Way, way_entry, standing}
use Rattle.fv_registry.specs.Meanings.{Meanings}
use Rattle.fv_store.specs.Records.{Kept}
use Rattle.fv_store.specs.Stored.{stored_view}
use Rattle.fv_store.specs.declared.stored.Stored.{Stored}
use Rattle.fv_datum.specs.Ascending.{IsAscending}
use Rattle.fv_validate.specs.Violations.{Judged, Reported, IsListing}
use Rattle.fv_validate.specs.declared.fault.ValidateFault.{ValidateFault}
use Rattle.fv_validate.specs.declared.fault.ValidateFault.TheVariants.{UnknownGroup, NoSuchField, TooManyVisits}
use Rattle.fv_walk.specs.Visits.{HasTooManyVisits, HasFewVisits}

-- ---- one record

-- what judging a record gives
abbrev pub GivesListing : {V : Type 0} → Meanings → Declarations → ℤ → Kept → (V → List Reported) → Result V ValidateFault → Type 0
GivesListing means ds now k view r = MatchResult r (λ v. IsListingOf means ds now k (view v)) (λ fault. IsOfJudging fault × (fault ≡ TooManyVisits → IsOverVisited ds k))

pub for_groups : {V : Type 0} (means : Meanings) (ds : Declarations) (now : ℤ) (k : Kept) (view : V → List Reported) (gs : List ℕ) (r : Result V ValidateFault) → gs ≡ groups_of ds k.form → IfOk r (λ v. IsListing means ds now k.bundle gs (view v)) → OnOk r (HasFewVisits ds k.bundle gs)
    → IfErr r (λ fault. fault ≡ TooManyVisits → HasTooManyVisits ds k.bundle gs) → IfErr r (λ fault. fault ≢ UnknownGroup) → IfErr r (λ fault. fault ≢ NoSuchField) → GivesListing means ds now k view r
for_groups means ds now k view gs (Ok v) same listing few many known no_field = subst (λ (hs : List ℕ). HasFewVisits ds k.bundle hs × IsListing means ds now k.bundle hs (view v)) same (few, listing)
for_groups means ds now k view gs (Err fault) same listing few many known no_field = ((known, no_field), λ is. subst (λ (hs : List ℕ). HasTooManyVisits ds k.bundle hs) same (many is))

pub none_added : {V : Type 0} (done : List Judged) (id : List ℕ) (view : V → Reported) (vs : List V) → length vs ≡ 0 → done ≡ done ++ some_of id (map view vs)
none_added done id view [] none = sym (append-nil done)
none_added done id view (v ∷ vs) none = cc

pub one_added : {V : Type 0} (id : List ℕ) (view : V → Reported) (vs : List V) → (length vs ≡ 0 → ⊥) → (id, map view vs) ∷ [] ≡ some_of id (map view vs)
one_added id view [] some = absurd (some refl)
one_added id view (v ∷ vs) some = refl

-- ---- the records in order

-- the entries of the code's map
abbrev pub Entries : Type 0
Entries = List (Bor (List ℕ) × Option Stored)

-- the records that stand there
abbrev pub standing_in : Entries → List (List ℕ × Kept)
standing_in es = standing (map way_entry es)

module _ (means : Meanings) (ds : Declarations) (now : ℤ) where
  -- these are the records that have violations, but for those among the rest
  abbrev pub Leads : List Judged → List (List ℕ × Kept) → List (List ℕ × Kept) → Type 0
  Leads done rest all = (ls : List Judged) → AreJudged means ds now rest ls → (whole : List Judged) × AreJudged means ds now all whole × (done ++ with_some ls ≡ with_some whole)

  pub leads_first : (all : List (List ℕ × Kept)) → Leads [] all all
  leads_first all ls judged = (ls, judged, refl)

  pub leads_more : (done more : List Judged) (k : List ℕ × Kept) (rest all : List (List ℕ × Kept)) (vs : List Reported) → IsListingOf means ds now k.1 vs → more ≡ done ++ some_of k.0 vs → Leads done (k ∷ rest) all → Leads more rest all
  leads_more done more k rest all vs listing is leads ls judged =
      let found = leads ((k.0, vs) ∷ ls) (vs, ls, refl, listing, judged) in
      let moved : (done ++ some_of k.0 vs) ++ with_some ls ≡ done ++ (some_of k.0 vs ++ with_some ls) = simp append_assoc in
      (found.0, found.1, ap (λ xs. xs ++ with_some ls) is ∙ moved ∙ found.2)

  pub leads_last : (done : List Judged) (all : List (List ℕ × Kept)) → Leads done [] all → (ls : List Judged) × AreJudged means ds now all ls × (done ≡ with_some ls)
  leads_last done all leads =
      let found = leads [] refl in
      (found.0, found.1, sym (append-nil done) ∙ found.2)

-- ---- the entries of the map, one by one

no_value : {X : Type 0} (o : Option X) → ((x : X) → o ≡ Some x → ⊥) → o ≡ None
no_value None never = refl
no_value (Some x) never = absurd (never x refl)

module _ (it rest : Entries) (id : Bor (List ℕ)) (o : Option Stored) (steps : it ≡ (id, o) ∷ rest) where
  typed_rest : (ds : Declarations) → AreTyped ds.types (map way_entry it) → AreTyped ds.types (map way_entry rest)
  typed_rest ds all = (subst (λ (x : Entries). AreTyped ds.types (map way_entry x)) steps all).1

  typed_first : (ds : Declarations) (s : Stored) → o ≡ Some s → AreTyped ds.types (map way_entry it) → IsWellTyped ds.types (stored_view s).bundle
  typed_first ds s is all = (subst (λ (x : Entries). AreTyped ds.types (map way_entry x)) steps all).0 (stored_view s) (ap (option_map stored_view) is)

  stands_first : (s : Stored) → o ≡ Some s → standing_in it ≡ (id.now, stored_view s) ∷ standing_in rest
  stands_first s is = ap standing_in steps ∙ ap (λ (x : Option Stored). standing_in ((id, x) ∷ rest)) is

  stands_not : o ≡ None → standing_in it ≡ standing_in rest
  stands_not is = ap standing_in steps ∙ ap (λ (x : Option Stored). standing_in ((id, x) ∷ rest)) is

-- what a loop keeps that has judged all but the rest of the entries
pub record Judging (means : Meanings) (ds : Declarations) (now : ℤ) (done : List Judged) (rest : Entries) (all : Way) : Type 0 where
  pub typed : AreTyped ds.types (map way_entry rest)
  pub leads : Leads means ds now done (standing_in rest) (standing all)
  pub within : (k : List ℕ × Kept) → Has (standing_in rest) k → Has (standing all) k

module _ (means : Meanings) (ds : Declarations) (now : ℤ) (all : Way) where
  pub judging_first : (es : Entries) → map way_entry es ≡ all → AreTyped ds.types all → Judging means ds now [] es all
  judging_first es is typed = record {
    typed = subst (AreTyped ds.types) (sym is) typed;
    leads = subst (λ (w : Way). Leads means ds now [] (standing w) (standing all)) (sym is) (leads_first means ds now (standing all));
    within = λ k has. subst (λ (w : Way). Has (standing w) k) is has;
  }

  pub judging_last : (done : List Judged) (it : Entries) → it ≡ [] → Judging means ds now done it all → (ls : List Judged) × AreJudged means ds now (standing all) ls × (done ≡ with_some ls)
  judging_last done it is h = leads_last means ds now done (standing all) (subst (λ (x : Entries). Leads means ds now done (standing_in x) (standing all)) is h.leads)

  module _ (done : List Judged) (it rest : Entries) (id : Bor (List ℕ)) (o : Option Stored) (steps : it ≡ (id, o) ∷ rest) (h : Judging means ds now done it all) where
    pub judging_none : ((s : Stored) → o ≡ Some s → ⊥) → Judging means ds now done rest all
    judging_none never =
        let same = stands_not it rest id o steps (no_value o never) in
        record {
          typed = typed_rest it rest id o steps ds h.typed;
          leads = subst (λ (ks : List (List ℕ × Kept)). Leads means ds now done ks (standing all)) same h.leads;
          within = λ k has. h.within k (subst (λ (ks : List (List ℕ × Kept)). Has ks k) (sym same) has);
        }

    module _ (s : Stored) (is : o ≡ Some s) where
      pub judging_typed : IsWellTyped ds.types (stored_view s).bundle
      judging_typed = typed_first it rest id o steps ds s is h.typed

      pub judging_some : (more : List Judged) (vs : List Reported) → IsListingOf means ds now (stored_view s) vs → more ≡ done ++ some_of id.now vs → Judging means ds now more rest all
      judging_some more vs listing added =
          let first = stands_first it rest id o steps s is in
          record {
            typed = typed_rest it rest id o steps ds h.typed;
            leads = leads_more means ds now done more (id.now, stored_view s) (standing_in rest) (standing all) vs listing added (subst (λ (ks : List (List ℕ × Kept)). Leads means ds now done ks (standing all)) first h.leads);
            within = λ k has. h.within k (subst (λ (ks : List (List ℕ × Kept)). Has ks k) (sym first) (inr has));
          }

      pub judging_over : IsOverVisited ds (stored_view s) → OneIsOver ds (standing all)
      judging_over over =
          let k : List ℕ × Kept = (id.now, stored_view s) in
          (k, h.within k (subst (λ (ks : List (List ℕ × Kept)). Has ks k) (sym (stands_first it rest id o steps s is)) (inl refl)), over)

-- ---- their ids

pub entries_ascend : (es : Entries) → IsStrictlySortedBy (λ a b. slice_cmp nat_cmp a.now b.now) (keys_of es) → IsAscending (keys_of (map way_entry es))
unfolding IsStrictlySortedBy
entries_ascend [] sorted = tt
entries_ascend (e ∷ es) sorted = (below e.0 es sorted.0, entries_ascend es sorted.1)
  where
    below : (k : Bor (List ℕ)) (fs : Entries) → AllByRecursion (λ y. slice_cmp nat_cmp k.now y.now ≡ Less) (keys_of fs) → AllByRecursion (λ y. slice_cmp nat_cmp k.now y ≡ Less) (keys_of (map way_entry fs))
    below k [] all = tt
    below k (f ∷ fs) all = (all.0, below k fs all.1)
