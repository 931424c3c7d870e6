-- What the log finds of one object are its local failures.
use Rattle.std.proofs.Common.{◌≡◌, ℕ, suc, List, [], ◌∷◌, map, length, inl, ◌↔◌, refl, sym, ap, ◌∙◌, subst, arith, false, fold}
use Rattle.fv_graph.specs.Graph.{IsIn}
use Rattle.fv_path.specs.Nodes.{PathNode}
use Rattle.fv_walk_traces.specs.Turns.{LocalFailure, FreeTurn, Group, Fail, Turn, Free, Rank, Turns, Shadows}
use Rattle.fv_walk_traces.specs.Reaching.{at_object}
use Rattle.fv_walk_traces.specs.Requests.{GraphRequest}
use Rattle.fv_walk_traces.specs.Traces.{IsOwnEnd}
use Rattle.fv_walk_traces.specs.OneObject.{IsLocal}
use Rattle.fv_walk_traces.specs.Violations.{Reached, onward}
use Rattle.fv_walk_traces.specs.Tree.{Open, IsTraceOfChoices, IsProper, failures_of_choices, entered}
use Rattle.fv_walk_traces.specs.Unfold.{LeadsTo, Any, TraceFrom, choices_of}
use Rattle.fv_walk_traces.specs.Points.{Point, Within, next}
use Rattle.fv_walk_traces.specs.Finite.{size, IsTidy, tree}
use Rattle.fv_walk_traces.specs.Log.{log, log_of_choices, finds, entries}
use Rattle.fv_walk_traces.specs.Frames.{some, own_choices, own_log, own_fails}
use Rattle.fv_graph.proofs.Images.{in_map, from_map}
use Rattle.fv_walk_traces.proofs.Exact.{kept, all_kept}
use Rattle.fv_walk_traces.proofs.Shadowing.{by_recursion, from_recursion}
use Rattle.fv_walk_traces.proofs.Unfolded.{to_choices, from_choices, down, up, proper_node_among}
use Rattle.fv_walk_traces.proofs.Unfolds.{visit_up}
use Rattle.fv_walk_traces.proofs.Arrivals.{was_entered}
use Rattle.fv_walk_traces.proofs.Parts.{own_trace, own_ends}
use Rattle.fv_walk_traces.proofs.Visiting.{no_visit_within}
use Rattle.fv_walk_traces.proofs.Tidy.{falls, proper, map_differ, same_group}
use Rattle.fv_walk_traces.proofs.Ends.{last_fail}
use Rattle.fv_walk_traces.proofs.Listing.{end_last}
use Rattle.fv_walk_traces.proofs.Logs.{finds_choices, entries_log, entries-append}

abbrev options : GraphRequest → ℕ → ℕ → List (FreeTurn × Point)
options request object carried = map (λ h. (Group h, Within (request.own object h))) (request.below carried)

to_end : (request : GraphRequest) (n : ℕ) → IsTidy request n → (object carried : ℕ) (r : Turns) → IsTraceOfChoices (own_choices request n object carried) r → IsOwnEnd request object carried r
to_end request n tidy object carried r h =
    let k = from_choices (tree request n) (options request object carried) r h in
    let m = from_map (λ (h : ℕ). (Group h, Within (request.own object h))) (request.below carried) (k.0, k.1) k.4 in
    let e : k.1 ≡ Within (request.own object m.0) = ap (λ (x : FreeTurn × Point). x.1) m.1 in
    let d : k.0 ≡ Group m.0 = ap (λ (x : FreeTurn × Point). x.0) m.1 in
    let t = up (next request) (suc (size n k.1)) k.1 k.2 k.5 in
    let ends = own_ends request (request.own object m.0) k.2 (subst (λ (s : Point). TraceFrom (next request) s k.2) e t) in
    (m.0, k.2, m.2, ends, k.3 ∙ ap (λ (a : FreeTurn). Free a ∷ k.2) d)

pub from_end : (request : GraphRequest) (n : ℕ) → IsTidy request n → (object carried : ℕ) (r : Turns) → IsOwnEnd request object carried r → IsTraceOfChoices (own_choices request n object carried) r
from_end request n tidy object carried r h =
    let t = down (next request) (size n) (falls request n tidy) (suc (size n (Within (request.own object h.0)))) (Within (request.own object h.0)) h.1 (omega arith) (own_trace request (request.own object h.0) h.1 h.3) in
    subst (λ (l : Turns). IsTraceOfChoices (own_choices request n object carried) l) (sym h.4)
    (to_choices (tree request n) (options request object carried) (Group h.0) (Within (request.own object h.0)) h.1 (in_map (λ (h : ℕ). (Group h, Within (request.own object h))) (request.below carried) h.0 h.2) t)

leads_within : (request : GraphRequest) (n : ℕ) → IsTidy request n → (object carried : ℕ) (turn : Turn FreeTurn) (s : Point) → LeadsTo (Any false (options request object carried)) turn s → IsProper (tree request n s)
leads_within request n tidy object carried (Rank i) s h = absurd h
leads_within request n tidy object carried (Free a) s h =
    let m = from_map (λ (h : ℕ). (Group h, Within (request.own object h))) (request.below carried) (a, s) h in
    let e : s ≡ Within (request.own object m.0) = ap (λ (x : FreeTurn × Point). x.1) m.1 in
    subst (λ (x : Point). IsProper (tree request n x)) (sym e) (proper request n tidy (suc (size n (Within (request.own object m.0)))) (Within (request.own object m.0)) (tidy.own object m.0))

own_proper : (request : GraphRequest) (n : ℕ) → IsTidy request n → (object carried : ℕ) → IsProper (Open false (own_choices request n object carried))
own_proper request n tidy object carried =
    proper_node_among (tree request n) (Any false (options request object carried)) (map_differ (λ g. Group g) (λ g. Within (request.own object g)) same_group (request.below carried) (tidy.below carried))
    (leads_within request n tidy object carried)

-- exactly the ends that no other shadows
pub own_failures : (request : GraphRequest) (n : ℕ) → IsTidy request n → (object carried : ℕ) (r : Turns) → IsIn (failures_of_choices (own_choices request n object carried)) r ↔ (IsOwnEnd request object carried r × ((other : Turns) → IsOwnEnd request object carried other → Shadows other r → ⊥))
own_failures request n tidy object carried r =
    let node = Open false (own_choices request n object carried) in
    let p = own_proper request n tidy object carried in (
      λ h. (let k = kept node r p h in (
        to_end request n tidy object carried r k.0,
        λ other g s. k.1 other (from_end request n tidy object carried other g) (by_recursion other r s),
      )),
      λ h. all_kept node r p (from_end request n tidy object carried r h.0)
          (λ other g s. h.1 other (to_end request n tidy object carried other g) (from_recursion other r s)),
    )

-- what is found of one object are its local failures
pub own_finds : (request : GraphRequest) (n : ℕ) → IsTidy request n → (path : List PathNode) (object carried : ℕ) (y : Reached) → IsIn (finds (own_log request n path object carried)) y ↔ ((f : LocalFailure) × IsLocal request object carried f × (y ≡ onward request (at_object path object) (Free (Fail f))))
own_finds request n tidy path object carried y =
    let x = at_object path object in
    let fs = failures_of_choices (own_choices request n object carried) in
    let e = finds_choices (onward request) x (own_choices request n object carried) in (
      λ h.
          (let m = from_map (λ (r : Turns). fold (onward request) x r) fs y (subst (λ (l : List Reached). IsIn l y) e h) in
          let k = (own_failures request n tidy object carried m.0).0 m.2 in
          let l = end_last request x object carried m.0 k.0 in
          (l.1, (m.0, l.0, k.0, k.1, l.2), m.1 ∙ l.3)),
      λ h.
          (let r = h.1.0 in
          let l = end_last request x object carried r h.1.2 in
          let same = last_fail l.0 h.1.1 l.1 h.0 (sym l.2 ∙ h.1.4) in
          let k = in_map (λ (r : Turns). fold (onward request) x r) fs r ((own_failures request n tidy object carried r).1 (h.1.2, h.1.3)) in
          let d : fold (onward request) x r ≡ y = l.3 ∙ ap (λ (f : LocalFailure). onward request x (Free (Fail f))) same ∙ sym h.2 in
          subst (λ (l : List Reached). IsIn l y) (sym e) (subst (λ (z : Reached). IsIn (map (λ (r : Turns). fold (onward request) x r) fs) z) d k)),
    )

pub same_some : {X Y : Type 0} (xs : List X) (ys : List Y) → ((x : X) → IsIn xs x → (y : Y) × IsIn ys y) → ((y : Y) → IsIn ys y → (x : X) × IsIn xs x) → some xs ≡ some ys
same_some [] [] f g = refl
same_some [] (y ∷ ys) f g = absurd (g y (inl refl)).1
same_some (x ∷ xs) [] f g = absurd (f x (inl refl)).1
same_some (x ∷ xs) (y ∷ ys) f g = refl

-- whether there is any
pub own_some : (request : GraphRequest) (n : ℕ) → IsTidy request n → (object carried : ℕ) (fails : List LocalFailure) → ((f : LocalFailure) → IsIn fails f ↔ IsLocal request object carried f) → own_fails request n object carried ≡ some fails
own_some request n tidy object carried fails is =
    let x = at_object [] object in
    let fs = failures_of_choices (own_choices request n object carried) in
    let e = finds_choices (onward request) x (own_choices request n object carried) in
    same_some fs fails
    (λ r h.
    (let k = (own_finds request n tidy [] object carried (fold (onward request) x r)).0 (subst (λ (l : List Reached). IsIn l (fold (onward request) x r)) (sym e) (in_map (λ (r : Turns). fold (onward request) x r) fs r h)) in
    (k.0, (is k.0).1 k.1)))
    (λ f h.
    (let k = (own_finds request n tidy [] object carried (onward request x (Free (Fail f)))).1 (f, (is f).0 h, refl) in
    let m = from_map (λ (r : Turns). fold (onward request) x r) fs (onward request x (Free (Fail f))) (subst (λ (l : List Reached). IsIn l (onward request x (Free (Fail f)))) e k) in
    (m.0, m.2)))

-- no visit is entered among one object's constraints
pub none_in : {X : Type 0} (xs : List X) → ((x : X) → IsIn xs x → ⊥) → length xs ≡ 0
none_in [] h = refl
none_in (x ∷ xs) h = absurd (h x (inl refl))

within_enters_none : (request : GraphRequest) (n : ℕ) → IsTidy request n → (x : Reached) (object h : ℕ) → entries (log (onward request) x (tree request n (Within (request.own object h)))) ≡ 0
within_enters_none request n tidy x object h =
    let point = Within (request.own object h) in
    let depth = suc (size n point) in
    entries_log (onward request) x (tree request n point)
    ∙ none_in (entered (tree request n point))
    (λ v i. no_visit_within request (request.own object h) v (visit_up (next request) depth point v (was_entered (tree request n point) v (proper request n tidy depth point (tidy.own object h)) i).0))

pub own_enters_none : (request : GraphRequest) (n : ℕ) → IsTidy request n → (path : List PathNode) (object carried : ℕ) → entries (own_log request n path object carried) ≡ 0
own_enters_none request n tidy path object carried = go (request.below carried)
  where
    go : (hs : List ℕ) → entries (log_of_choices (onward request) (at_object path object) (choices_of (tree request n) (map (λ h. (Group h, Within (request.own object h))) hs))) ≡ 0
    go [] = refl
    go (h ∷ hs) =
        let x = at_object path object in
        let e1 = entries-append (log (onward request) x (tree request n (Within (request.own object h)))) (log_of_choices (onward request) x (choices_of (tree request n) (map (λ h. (Group h, Within (request.own object h))) hs))) in
        let e2 = within_enters_none request n tidy x object h in
        let e3 = go hs in
        omega (arith, e1, e2, e3)
