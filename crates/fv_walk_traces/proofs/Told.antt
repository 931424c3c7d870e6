-- In a tidy request the evaluation that stops early tells exactly the traces that none shadows, and enters exactly the entered visits.
use Rattle.std.proofs.Common.{◌≡◌, ℕ, suc, [], ◌∷◌, ◌++◌, ◌↔◌, sym, ◌∙◌, subst, arith}
use Rattle.fv_graph.specs.Graph.{IsIn, AllDiffer}
use Rattle.fv_walk_traces.specs.Turns.{Turns, Shadows}
use Rattle.fv_walk_traces.specs.Requests.{GraphRequest}
use Rattle.fv_walk_traces.specs.Traces.{IsTrace, IsVisit, IsSpared, IsEntered}
use Rattle.fv_walk_traces.specs.Violations.{Violation, violation_of, IsViolation}
use Rattle.fv_walk_traces.specs.Unfold.{TraceFrom}
use Rattle.fv_walk_traces.specs.Points.{Point, Start, next}
use Rattle.fv_walk_traces.specs.Finite.{IsTidy, IsListOf, AreSoMany, size, tree, tree_of_all, told_traces, entered_visits, all_visits, told_violations}
use Rattle.fv_graph.proofs.Images.{in_map, from_map}
use Rattle.fv_graph.proofs.Lists.{no_longer}
use Rattle.fv_walk_traces.proofs.Exact.{some_failure, kept, all_kept}
use Rattle.fv_walk_traces.proofs.Arrivals.{was_entered, all_entered, visit_listed, listed_visit}
use Rattle.fv_walk_traces.proofs.Once.{failures_differ, entered_differ, visits_differ}
use Rattle.fv_walk_traces.proofs.Facts.{last_shadow}
use Rattle.fv_walk_traces.proofs.Shadowing.{by_recursion, from_recursion}
use Rattle.fv_walk_traces.proofs.Unfolded.{down, up}
use Rattle.fv_walk_traces.proofs.Unfolds.{visit_down, visit_up}
use Rattle.fv_walk_traces.proofs.Parts.{parts_walk, walk_parts}
use Rattle.fv_walk_traces.proofs.Visiting.{visit_parts_walk, visit_walk_parts}
use Rattle.fv_walk_traces.proofs.Tidy.{IsReached, falls, proper, no_turn_twice, stays_reached}
use Rattle.fv_walk_traces.proofs.Prefix.{Path', split_at, join_at, one_way}

-- exactly the traces that none shadows
pub stops : (request : GraphRequest) (n : ℕ) → IsTidy request n → (r : Turns) → IsIn (told_traces request n) r ↔ (IsTrace request r × IsSpared request r)
stops request n tidy r =
    let depth = suc (size n Start) in
    let whole = tree_of_all request n in
    let p = proper request n tidy depth Start tt in
    let f = falls request n tidy in (
      λ h. (let k = kept whole r p h in (
        walk_parts request r (up (next request) depth Start r k.0),
        λ other g s. k.1 other (down (next request) (size n) f depth Start other (omega arith) (parts_walk request other g)) (by_recursion other r s),
      )),
      λ h. all_kept whole r p (down (next request) (size n) f depth Start r (omega arith) (parts_walk request r h.0))
          (λ other g s. h.1 other (walk_parts request other (up (next request) depth Start other g)) (from_recursion other r s)),
    )

pub told_differ : (request : GraphRequest) (n : ℕ) → IsTidy request n → AllDiffer (told_traces request n)
told_differ request n tidy = failures_differ (tree_of_all request n) (proper request n tidy (suc (size n Start)) Start tt)

-- exactly the entered visits, each once
pub enters : (request : GraphRequest) (n : ℕ) → IsTidy request n → IsListOf (IsEntered request) (entered_visits request n)
enters request n tidy =
    let depth = suc (size n Start) in
    let whole = tree_of_all request n in
    let f = falls request n tidy in
    let p = proper request n tidy depth Start tt in (
      entered_differ whole p,
      λ v. (
        λ h. (let k = was_entered whole v p h in (
          visit_walk_parts request v (visit_up (next request) depth Start v k.0),
          λ other g s. k.1 other (down (next request) (size n) f depth Start other (omega arith) (parts_walk request other g)) (by_recursion other v s),
        )),
        λ h. all_entered whole v p (visit_down (next request) (size n) f depth Start v (omega arith) (visit_parts_walk request v h.0))
            (λ other g s. h.1 other (walk_parts request other (up (next request) depth Start other g)) (from_recursion other v s)),
      ),
    )

-- exactly the visits, each once
pub arrives : (request : GraphRequest) (n : ℕ) → IsTidy request n → IsListOf (IsVisit request) (all_visits request n)
arrives request n tidy =
    let depth = suc (size n Start) in
    let whole = tree_of_all request n in
    let p = proper request n tidy depth Start tt in (
      visits_differ whole p,
      λ v. (
        λ h. visit_walk_parts request v (visit_up (next request) depth Start v (listed_visit whole v h)),
        λ h. visit_listed whole v (visit_down (next request) (size n) (falls request n tidy) depth Start v (omega arith) (visit_parts_walk request v h)),
      ),
    )

-- exactly the violations
pub tells : (request : GraphRequest) (n : ℕ) → IsTidy request n → (v : Violation) → IsIn (told_violations request n) v ↔ IsViolation request v
tells request n tidy v = (
  λ h.
      (let k = from_map (violation_of request) (told_traces request n) v h in
      let s = (stops request n tidy k.0).0 k.2 in
      (k.0, s.0, s.1, k.1)),
  λ h.
      subst (λ (u : Violation). IsIn (told_violations request n) u) (sym h.3)
      (in_map (violation_of request) (told_traces request n) h.0 ((stops request n tidy h.0).1 (h.1, h.2))),
)

-- there are no two numbers of the same things
pub one_number : {X : Type 0} (P : X → Type 0) (m n : ℕ) → AreSoMany P m → AreSoMany P n → m ≡ n
one_number {X} P m n h k =
    let a = no_longer h.0 k.0 h.1.0 (λ (x : X) i. (k.1.1 x).1 ((h.1.1 x).0 i)) in
    let b = no_longer k.0 h.0 k.1.0 (λ (x : X) i. (h.1.1 x).1 ((k.1.1 x).0 i)) in
    omega (arith, h.2, k.2, a, b)

-- what is shadowed is shadowed by a trace that none shadows
pub shadowed : (request : GraphRequest) (n : ℕ) → IsTidy request n → (turns other : Turns) → IsTrace request other → Shadows other turns → (last : Turns) × IsTrace request last × IsSpared request last × Shadows last turns
shadowed request n tidy turns other t h =
    let l = last_shadow (tree_of_all request n) turns other (down (next request) (size n) (falls request n tidy) (suc (size n Start)) Start other (omega arith) (parts_walk request other t)) (by_recursion other turns h) in
    let k = (stops request n tidy l.0).0 l.1 in
    (l.0, k.0, k.1, from_recursion l.0 turns l.2)

-- the turns decide the point
pub one_end : (request : GraphRequest) (n : ℕ) → IsTidy request n → (state s t : Point) (p : Turns) → IsReached state → Path' (next request) state p s → Path' (next request) state p t → s ≡ t
one_end request n tidy state s t [] r h k = sym h ∙ k
one_end request n tidy state s t (turn ∷ p) r h k =
    let e = one_way (next request state) turn h.0 k.0 (no_turn_twice request n tidy state r) h.1 k.1 in
    one_end request n tidy k.0 s t p (stays_reached request n tidy state k.0 turn r k.1) (subst (λ (x : Point). Path' (next request) x p s) e h.2) k.2

reached_by : (request : GraphRequest) (n : ℕ) → IsTidy request n → (state s : Point) (p : Turns) → IsReached state → Path' (next request) state p s → IsReached s
reached_by request n tidy state s [] r h = subst (λ (x : Point). IsReached x) h r
reached_by request n tidy state s (turn ∷ p) r h = reached_by request n tidy h.0 s p (stays_reached request n tidy state h.0 turn r h.1) h.2

-- where a trace continues some turns, one does that nothing shadows behind them
pub last_word : (request : GraphRequest) (n : ℕ) → IsTidy request n → (p q : Turns) → IsTrace request (p ++ q) → (best : Turns) × IsTrace request (p ++ best) × ((other : Turns) → IsTrace request (p ++ other) → Shadows other best → ⊥)
last_word request n tidy p q h =
    let k = split_at (next request) Start p q (parts_walk request (p ++ q) h) in
    let depth = suc (size n k.0) in
    let falls = falls request n tidy in
    let f = some_failure (tree request n k.0) q (down (next request) (size n) falls depth k.0 q (omega arith) k.2) in
    let m = kept (tree request n k.0) f.0 (proper request n tidy depth k.0 (reached_by request n tidy Start k.0 p tt k.1)) f.1 in (
      f.0,
      walk_parts request (p ++ f.0) (join_at (next request) Start k.0 p f.0 k.1 (up (next request) depth k.0 f.0 m.0)),
      λ other g s.
          (let l = split_at (next request) Start p other (parts_walk request (p ++ other) g) in
          let e = one_end request n tidy Start l.0 k.0 p tt l.1 k.1 in
          m.1 other (down (next request) (size n) falls depth k.0 other (omega arith) (subst (λ (x : Point). TraceFrom (next request) x other) e l.2)) (by_recursion other f.0 s)),
    )
