-- What is told of the visits that are listed are the violations.
use Rattle.std.proofs.Common.{◌≡◌, ◌<◌, ◌↔◌, ℕ, ℤ, zero, suc, List, [], ◌∷◌, ◌++◌, length, map, get_or, All, inl, inr, refl, sym, ap, ap₂, subst, ◌∙◌, arith, fold}
use Rattle.fv_datum.specs.Data.{Data}
use Rattle.fv_declare_schema.specs.Declarations.{Declarations}
use Rattle.fv_graph.specs.Graph.{IsIn}
use Rattle.fv_declare_schema.specs.Tables.{indices}
use Rattle.fv_local.specs.Own.{own_in}
use Rattle.fv_bundle.specs.Bundles.{Bundled}
use Rattle.fv_path.specs.Nodes.{PathNode}
use Rattle.fv_registry.specs.Meanings.{Meanings}
use Rattle.fv_local.specs.Requests.{object_at, asked_groups, request_for, request_of}
use Rattle.fv_local.specs.Requests as request
use Rattle.fv_local.proofs.Tidy.{judging_tidy, visiting_tidy}
use Rattle.fv_walk_traces.specs.Listing.{IsFailing, IsListed, violation_at}
use Rattle.fv_walk_traces.specs.Reaching.{at_object, violation}
use Rattle.fv_walk_traces.specs.Requests.{Own, Plain, GraphRequest}
use Rattle.fv_walk_traces.specs.Traces.{Arrives}
use Rattle.fv_walk_traces.specs.Turns.{Spot, of_object, at, LocalFailure, Ask, Step, Group, Fail, Free, Rank, Turns, Shadows}
use Rattle.fv_walk_traces.specs.Violations.{Reached, Violation, IsViolation, nodes_to, onward, value_at}
use Rattle.fv_walk_traces.proofs.Listing.{listing_exact}
use Rattle.fv_walk_traces.proofs.Shadowing.{by_recursion, from_recursion}
use Rattle.fv_listing.specs.Arrivals.{Arrival, IsArrival, levels}
use Rattle.fv_listing.specs.Courses.{IsSound, bundle_in, objects_in, visiting, judging}
use Rattle.fv_listing.specs.Listed.{AreFailing, IsHidden, IsToldOf, AreTold, AreViolations}
use Rattle.fv_listing.specs.Visits.{visit_view}
use Rattle.fv_listing.specs.declared.course.Course.{Course}
use Rattle.fv_listing.specs.declared.visit.Visit.{Visit}
use Rattle.fv_listing.proofs.Levels.{all_listed, listed_is}

-- ---- what doesn't depend on what fails

module _ (ds : Declarations) (b : Bundled) (groups : List ℕ) (own other : ℕ → ℕ → Own) where
  arrives_same : (steps : ℕ) (turns : Turns) (object carried : ℕ) (on : List ℕ) → Arrives (request_for own ds b groups) steps turns object carried on → Arrives (request_for other ds b groups) steps turns object carried on
  arrives_same zero turns object carried on h = h
  arrives_same (suc steps) turns object carried on h =
      (h.0, h.1, h.2, h.3, h.4, h.5, arrives_same steps h.0 h.1 h.2 h.3 h.6, h.7, h.8, h.9, h.10, h.11, h.12)

  nodes_same : (object : ℕ) (s : Spot) → nodes_to (request_for own ds b groups) object s ≡ nodes_to (request_for other ds b groups) object s
  nodes_same object of_object = refl
  nodes_same object (at place locus) = refl

  value_same : (object : ℕ) (s : Spot) → value_at (request_for own ds b groups) object s ≡ value_at (request_for other ds b groups) object s
  value_same object of_object = refl
  value_same object (at place locus) = refl

  fail_same : (x : Reached) (f : LocalFailure) → onward (request_for own ds b groups) x (Free (Fail f)) ≡ onward (request_for other ds b groups) x (Free (Fail f))
  fail_same x f =
      ap₂ (λ (ns : List PathNode) (v : Data). record { path = x.path ++ ns; object = x.object; node = f.node; value = v }) (nodes_same x.object f.spot) (value_same x.object f.spot)

  told_same : (x : Reached) (turns : Turns) → fold (onward (request_for own ds b groups)) x turns ≡ fold (onward (request_for other ds b groups)) x turns
  told_same x [] = refl
  told_same x (Free (Ask g) ∷ turns) = told_same x turns
  told_same x (Free (Step way) ∷ turns) = told_same (onward (request_for other ds b groups) x (Free (Step way))) turns
  told_same x (Free (Group h) ∷ turns) = told_same x turns
  told_same x (Free (Fail f) ∷ turns) =
      told_same (onward (request_for own ds b groups) x (Free (Fail f))) turns ∙ ap (λ (y : Reached). fold (onward (request_for other ds b groups)) y turns) (fail_same x f)
  told_same x (Rank i ∷ turns) = told_same x turns

  violation_same : (turns : Turns) (f : LocalFailure) → violation_at (request_for own ds b groups) turns f ≡ violation_at (request_for other ds b groups) turns f
  violation_same turns f =
      let root = at_object [] (request_for own ds b groups).root in
      ap (λ (x : Reached). violation (onward (request_for own ds b groups) x (Free (Fail f)))) (told_same root turns)
      ∙ ap (λ (x : Reached). violation x) (fail_same (fold (onward (request_for other ds b groups)) root turns) f)

-- ---- the violations

get_in : (vs : List Visit) (k : ℕ) (d : Visit) → k < length vs → IsIn (map visit_view vs) (visit_view (get_or vs k d))
get_in [] k d less = absurd (omega arith)
get_in (v ∷ vs) zero d less = inl refl
get_in (v ∷ vs) (suc k) d less = inr (get_in vs k d (omega arith))

module _ (m : Meanings) (now : ℤ) (c : Course) where
  to_visiting : (steps : ℕ) (turns : Turns) (object carried : ℕ) (on : List ℕ) → Arrives (judging m now c) steps turns object carried on → Arrives (visiting c) steps turns object carried on
  to_visiting steps turns object carried on h =
      arrives_same c.schema.now (bundle_in c) (indices c.asked.now) (λ o g. own_in m c.schema.now now (object_at (bundle_in c) o) g) (λ o g. Plain []) steps turns object carried on h

  to_judging : (steps : ℕ) (turns : Turns) (object carried : ℕ) (on : List ℕ) → Arrives (visiting c) steps turns object carried on → Arrives (judging m now c) steps turns object carried on
  to_judging steps turns object carried on h =
      arrives_same c.schema.now (bundle_in c) (indices c.asked.now) (λ o g. Plain []) (λ o g. own_in m c.schema.now now (object_at (bundle_in c) o) g) steps turns object carried on h

  pub told_alike : (turns : Turns) (f : LocalFailure) → violation_at (visiting c) turns f ≡ violation_at (judging m now c) turns f
  told_alike turns f =
      violation_same c.schema.now (bundle_in c) (indices c.asked.now) (λ o g. Plain []) (λ o g. own_in m c.schema.now now (object_at (bundle_in c) o) g) turns f

  module _ (sound : IsSound c) (all : List Arrival) (failing : List Turns) (are : all ≡ levels (visiting c) (objects_in c)) (fail : AreFailing (judging m now c) all failing) where
    -- each that is listed is a visit
    visit_of : (a : Arrival) → IsIn all a → IsArrival (judging m now c) a
    visit_of a h =
        let v = listed_is (visiting c) (objects_in c) a (subst (λ (l : List Arrival). IsIn l a) are h) in
        (v.0, to_judging v.0 a.turns a.object a.carried a.on v.1)

    -- each visit is listed
    listed_at : (steps : ℕ) (turns : Turns) (object carried : ℕ) (on : List ℕ) → Arrives (judging m now c) steps turns object carried on → IsIn all (record { turns = turns; object = object; carried = carried; on = on })
    listed_at steps turns object carried on h =
        let tidy = visiting_tidy c.schema.now (bundle_in c) (indices c.asked.now) sound.ordered sound.typed sound.differ in
        let rooted = subst (λ (r : ℕ). r < objects_in c) sound.graph.root sound.graph.rooted in
        subst (λ (l : List Arrival). IsIn l (record { turns = turns; object = object; carried = carried; on = on })) (sym are)
        (all_listed (visiting c) (objects_in c) rooted tidy.targets steps turns object carried on (to_visiting steps turns object carried on h))

    -- what hides these turns fails and shadows them
    hider_fails : (turns : Turns) → IsHidden failing turns → (other : Turns) × IsFailing (judging m now c) other × Shadows other turns
    hider_fails turns (other, there, shadows) =
        let h = (fail.exact other).0 there in
        let a = h.0 in
        let v = visit_of a h.1 in
        let same : other ≡ a.turns = h.2 in
        (other, (v.0, a.object, a.carried, a.on, h.3.failure, subst (λ (t : Turns). Arrives (judging m now c) v.0 t a.object a.carried a.on) (sym same) v.1, h.3.fails), from_recursion other turns shadows)

    -- what fails and shadows these turns hides them
    failing_hides : (turns other : Turns) → IsFailing (judging m now c) other → Shadows other turns → IsHidden failing turns
    failing_hides turns other (steps, object, carried, on, f, arrives, local) shadows = (
      other,
      (fail.exact other).1 (record { turns = other; object = object; carried = carried; on = on }, listed_at steps other object carried on arrives, refl, record { failure = f; fails = local }),
      by_recursion other turns shadows,
    )

    to_listed : (v : Violation) → (a : Arrival) × IsIn all a × (IsHidden failing a.turns → ⊥) × IsToldOf (judging m now c) a v → IsListed (judging m now c) v
    to_listed v (a, there, unhidden, told) =
        let visit = visit_of a there in (
          visit.0,
          a.turns,
          a.object,
          a.carried,
          a.on,
          told.0,
          visit.1,
          λ other fails shadows. unhidden (failing_hides a.turns other fails shadows),
          told.1,
          told.2,
        )

    from_listed : (v : Violation) → IsListed (judging m now c) v → (a : Arrival) × IsIn all a × (IsHidden failing a.turns → ⊥) × IsToldOf (judging m now c) a v
    from_listed v (steps, visit, object, carried, on, f, arrives, free, local, is) = (
      record { turns = visit; object = object; carried = carried; on = on },
      listed_at steps visit object carried on arrives,
      λ hidden. (let h = hider_fails visit hidden in free h.0 h.1 h.2),
      (f, local, is),
    )

    -- what is told of the visits that none hides are the violations
    pub told_exactly : (vs : List Violation) → AreTold (judging m now c) failing all vs → AreViolations (judging m now c) vs
    told_exactly vs told = record {
      exact = λ v.
          (let tidy = judging_tidy m c.schema.now now sound.ordered (bundle_in c) (indices c.asked.now) sound.typed sound.differ in
          let law = listing_exact (judging m now c) (objects_in c) tidy v in (
            λ h. law.1 (to_listed v ((told.exact v).0 h)),
            λ h. (told.exact v).1 (from_listed v (law.0 h)),
          ));
    }

-- each that is listed is a visit without what fails as well
pub each_arrives : (c : Course) (vs : List Visit) → map visit_view vs ≡ levels (visiting c) (objects_in c) → All (λ v. IsArrival (visiting c) (visit_view v)) vs
each_arrives c vs seen k d less =
    listed_is (visiting c) (objects_in c) (visit_view (get_or vs k d)) (subst (λ (l : List Arrival). IsIn l (visit_view (get_or vs k d))) seen (get_in vs k d less))

-- the request by what it was asked for
module _ (m : Meanings) (now : ℤ) (old ds : Declarations) (from b : Bundled) (gs asked : List ℕ) (vs : List Violation) (same : old ≡ ds) (there : from ≡ b) (is : gs ≡ asked_groups asked) where
  judging_is : request.judging m old now from gs ≡ request_of m ds now b asked
  judging_is =
      ap (λ (d : Declarations). request.judging m d now from gs) same
      ∙ ap (λ (x : Bundled). request.judging m ds now x gs) there
      ∙ ap (λ (l : List ℕ). request.judging m ds now b l) is

  pub asked_for : AreViolations (request.judging m old now from gs) vs → (v : Violation) → IsIn vs v ↔ IsViolation (request_of m ds now b asked) v
  asked_for h v = subst (λ (r : GraphRequest). IsIn vs v ↔ IsViolation r v) judging_is (h.exact v)
