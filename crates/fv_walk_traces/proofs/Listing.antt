-- Listing the visits, dropping those that a failing visit shadows, gives exactly the violations.
use Rattle.std.proofs.Common.{◌≡◌, ℕ, zero, suc, List, [], ◌∷◌, ◌++◌, ◌⊎◌, inl, inr, ◌↔◌, refl, sym, ap, ◌∙◌, subst, fold}
use Rattle.fv_path.specs.Nodes.{PathNode}
use Rattle.fv_walk_traces.specs.Turns.{LocalFailure, FreeTurn, Ask, Step, Group, Fail, Turn, Free, Rank, Turns, IsSmallerRank, Shadows, ShadowsByRecursion}
use Rattle.fv_walk_traces.specs.Reaching.{at_object, violation}
use Rattle.fv_walk_traces.specs.Requests.{Own, Plain, InRanks, GraphRequest}
use Rattle.fv_walk_traces.specs.Traces.{Carried, Arrives, OwnEnds, IsOwnEnd, IsTrace}
use Rattle.fv_walk_traces.specs.Violations.{Violation, but_named, Reached, onward, IsViolation}
use Rattle.fv_walk_traces.specs.Listing.{IsFailing, IsListed}
use Rattle.fv_walk_traces.specs.Points.{Start, Standing}
use Rattle.fv_walk_traces.specs.Finite.{IsTidy}
use Rattle.fv_walk_traces.proofs.Shadowing.{by_recursion, from_recursion, past_common}
use Rattle.fv_walk_traces.proofs.Prefix.{hides_below}
use Rattle.fv_walk_traces.proofs.Parts.{visit_path}
use Rattle.fv_walk_traces.proofs.Told.{one_end}
use Rattle.fv_walk_traces.proofs.Ends.{last_fail, some_local}

-- a turn of a visit: not Group, not Fail
abbrev pub IsVisitTurn : Turn FreeTurn → Type 0
IsVisitTurn (Free (Ask g)) = Unit {0}
IsVisitTurn (Free (Step way)) = Unit {0}
IsVisitTurn (Free (Group h)) = ⊥
IsVisitTurn (Free (Fail f)) = ⊥
IsVisitTurn (Rank i) = Unit {0}

abbrev pub AreVisitTurns : Turns → Type 0
AreVisitTurns [] = Unit {0}
AreVisitTurns (t ∷ turns) = IsVisitTurn t × AreVisitTurns turns

visit_append : (xs ys : Turns) → AreVisitTurns xs → AreVisitTurns ys → AreVisitTurns (xs ++ ys)
visit_append [] ys h k = k
visit_append (x ∷ xs) ys h k = (h.0, visit_append xs ys h.1 k)

mark_visits : (request : GraphRequest) (g : ℕ) (mark : Turns) (carried : ℕ) → Carried request g mark carried → AreVisitTurns mark
mark_visits request g mark carried (inl h) = subst (λ (l : Turns). AreVisitTurns l) (sym h.1) tt
mark_visits request g mark carried (inr h) = subst (λ (l : Turns). AreVisitTurns l) (sym h.2) (tt, tt)

visit_turns : (request : GraphRequest) (steps : ℕ) (turns : Turns) (object carried : ℕ) (on : List ℕ) → Arrives request steps turns object carried on → AreVisitTurns turns
visit_turns request zero turns object carried on h =
    subst (λ (l : Turns). AreVisitTurns l) (sym h.0.4) (tt, mark_visits request h.0.0 h.0.1 carried h.0.3)
visit_turns request (suc steps) turns object carried on (earlier, from, held, before, way, mark, visit, is_way, new, carries, turns_are, object_is, on_is) =
    subst (λ (l : Turns). AreVisitTurns l) (sym turns_are)
    (visit_append earlier (Free (Step way) ∷ mark) (visit_turns request steps earlier from held before visit) (tt, mark_visits request (request.converted from way.place held) mark carried carries))

told_append : (request : GraphRequest) (x : Reached) (xs ys : Turns) → fold (onward request) x (xs ++ ys) ≡ fold (onward request) (fold (onward request) x xs) ys
told_append request x [] ys = refl
told_append request x (t ∷ xs) ys = told_append request (onward request x t) xs ys

mark_told : (request : GraphRequest) (x : Reached) (g : ℕ) (mark : Turns) (carried : ℕ) → Carried request g mark carried → fold (onward request) x mark ≡ x
mark_told request x g mark carried (inl h) = ap (λ (l : Turns). fold (onward request) x l) h.1
mark_told request x g mark carried (inr h) = ap (λ (l : Turns). fold (onward request) x l) h.2

visit_told : (request : GraphRequest) (steps : ℕ) (turns : Turns) (object carried : ℕ) (on : List ℕ) → Arrives request steps turns object carried on → (path : List PathNode) × (fold (onward request) (at_object [] request.root) turns ≡ at_object path object)
visit_told request zero turns object carried on h = (
  [],
  ap (λ (l : Turns). fold (onward request) (at_object [] request.root) l) h.0.4 ∙ mark_told request (at_object [] request.root) h.0.0 h.0.1 carried h.0.3 ∙ ap (λ (o : ℕ). at_object [] o) (sym h.1),
)
visit_told request (suc steps) turns object carried on (earlier, from, held, before, way, mark, visit, is_way, new, carries, turns_are, object_is, on_is) =
    let ih = visit_told request steps earlier from held before visit in
    let step = Free (Step way) in
    let path = ih.0 ++ but_named (request.nodes from way.place way.locus) in (
      path,
      ap (λ (l : Turns). fold (onward request) (at_object [] request.root) l) turns_are
          ∙ told_append request (at_object [] request.root) earlier (step ∷ mark)
          ∙ ap (λ (x : Reached). fold (onward request) x (step ∷ mark)) ih.1
          ∙ mark_told request (at_object path way.target) (request.converted from way.place held) mark carried carries
          ∙ ap (λ (o : ℕ). at_object path o) (sym object_is),
    )

shadow_left : (p v e : Turns) → ShadowsByRecursion p (v ++ e) → ShadowsByRecursion p v ⊎ ((rest : Turns) × (p ≡ v ++ rest) × ShadowsByRecursion rest e)
shadow_left p [] e h = inr (p, refl, h)
shadow_left [] (y ∷ v) e h = absurd h
shadow_left (x ∷ p) (y ∷ v) e (inl h) = inl (inl h)
shadow_left (x ∷ p) (y ∷ v) e (inr h) =
    elim (shadow_left p v e h.1) [
      | inl k ↦ inl (inr (h.0, k))
      | inr k ↦ inr (k.0, cc (h.0, k.1), k.2)
    ]

has_group : (rest v : Turns) (h : ℕ) (l : Turns) → AreVisitTurns (v ++ rest) → ShadowsByRecursion rest (Free (Group h) ∷ l) → ⊥
has_group [] [] h l a s = s
has_group (x ∷ rest) [] h l a (inl s) = rank_of x s
  where
    rank_of : (x : Turn FreeTurn) → IsSmallerRank x (Free (Group h)) → ⊥
    rank_of (Rank i) s = s
    rank_of (Free b) s = s
has_group (x ∷ rest) [] h l a (inr s) = subst (λ (t : Turn FreeTurn). IsVisitTurn t) s.0 a.0
has_group rest (y ∷ v) h l a s = has_group rest v h l a.1 s

same_group : (v w : Turns) (h g : ℕ) (l m : Turns) → AreVisitTurns v → AreVisitTurns w → v ++ Free (Group h) ∷ l ≡ w ++ Free (Group g) ∷ m → (v ≡ w) × (Free (Group h) ∷ l ≡ Free (Group g) ∷ m)
same_group [] [] h g l m a b e = (refl, e)
same_group [] (y ∷ w) h g l m a b e =
    let q : y ≡ Free (Group h) = cc in absurd (subst (λ (t : Turn FreeTurn). IsVisitTurn t) q b.0)
same_group (x ∷ v) [] h g l m a b e =
    let q : x ≡ Free (Group g) = cc in absurd (subst (λ (t : Turn FreeTurn). IsVisitTurn t) q a.0)
same_group (x ∷ v) (y ∷ w) h g l m a b e =
    let q : x ≡ y = cc in
    let r : v ++ Free (Group h) ∷ l ≡ w ++ Free (Group g) ∷ m = cc in
    let k = same_group v w h g l m a.1 b.1 r in
    (cc (q, k.0), k.1)

longer_shadow : (p v e f : Turns) → ShadowsByRecursion p v → ShadowsByRecursion (p ++ e) (v ++ f)
longer_shadow [] v e f h = absurd h
longer_shadow (x ∷ p) [] e f h = absurd h
longer_shadow (x ∷ p) (y ∷ v) e f (inl h) = inl h
longer_shadow (x ∷ p) (y ∷ v) e f (inr h) = inr (h.0, longer_shadow p v e f h.1)

make_trace : (request : GraphRequest) (steps : ℕ) (visit : Turns) (object carried : ℕ) (on : List ℕ) (e : Turns) → Arrives request steps visit object carried on → IsOwnEnd request object carried e → IsTrace request (visit ++ e)
make_trace request steps visit object carried on e v h = (steps, visit, object, carried, on, e, v, h, refl)

-- the end of one object's turns: a failure, and what they lead to
own_last : (request : GraphRequest) (x : Reached) (own : Own) (h : ℕ) (last : Turns) → OwnEnds own last → (before : Turns) × (f : LocalFailure) × (Free (Group h) ∷ last ≡ before ++ Free (Fail f) ∷ []) × (fold (onward request) x (Free (Group h) ∷ last) ≡ onward request x (Free (Fail f)))
own_last request x (Plain fails) h last e =
    (Free (Group h) ∷ [], e.0, ap (λ (l : Turns). Free (Group h) ∷ l) e.2, ap (λ (l : Turns). fold (onward request) x l) e.2)
own_last request x (InRanks lists) h last e =
    (Free (Group h) ∷ Rank e.0 ∷ [], e.2, ap (λ (l : Turns). Free (Group h) ∷ l) e.5, ap (λ (l : Turns). fold (onward request) x l) e.5)

pub end_last : (request : GraphRequest) (x : Reached) (object carried : ℕ) (e : Turns) → IsOwnEnd request object carried e → (before : Turns) × (f : LocalFailure) × (e ≡ before ++ Free (Fail f) ∷ []) × (fold (onward request) x e ≡ onward request x (Free (Fail f)))
end_last request x object carried e (h, last, is_below, ends, e_is) =
    let l = own_last request x (request.own object h) h last ends in
    (l.0, l.1, e_is ∙ l.2, ap (λ (z : Turns). fold (onward request) x z) e_is ∙ l.3)

to_listed : (request : GraphRequest) (t : Violation) → IsViolation request t → IsListed request t
to_listed request t (r, (steps, visit, object, carried, on, own, v, end, r_is), free, t_is) =
    let x = fold (onward request) (at_object [] request.root) visit in
    let l = end_last request x object carried own end in (
      steps,
      visit,
      object,
      carried,
      on,
      l.1,
      v,
      λ other fails s.
          (let e = fails.6.0 in
          free (other ++ e) (make_trace request fails.0 other fails.1 fails.2 fails.3 e fails.5 fails.6.2)
          (from_recursion (other ++ e) r (subst (λ (z : Turns). ShadowsByRecursion (other ++ e) z) (sym r_is) (longer_shadow other visit e own (by_recursion other visit s))))),
      (
        own,
        l.0,
        end,
        λ other o s.
            free (visit ++ other) (make_trace request steps visit object carried on other v o)
            (from_recursion (visit ++ other) r (subst (λ (z : Turns). ShadowsByRecursion (visit ++ other) z) (sym r_is) (past_common visit other own (by_recursion other own s)))),
        l.2,
      ),
      t_is ∙ ap (λ (z : Turns). violation (fold (onward request) (at_object [] request.root) z)) r_is
          ∙ ap (λ (y : Reached). violation y) (told_append request (at_object [] request.root) visit own ∙ l.3),
    )

one_visit : (request : GraphRequest) (n : ℕ) → IsTidy request n → (steps steps' : ℕ) (visit : Turns) (object object' carried carried' : ℕ) (on on' : List ℕ) → Arrives request steps visit object carried on → Arrives request steps' visit object' carried' on' → (object ≡ object') × (carried ≡ carried')
one_visit request n tidy steps steps' visit object object' carried carried' on on' v w =
    let e = one_end request n tidy Start (Standing object carried on) (Standing object' carried' on') visit tt (visit_path request steps visit object carried on v) (visit_path request steps' visit object' carried' on' w) in
    (cc e, cc e)

first_turn : (h : ℕ) (l rest : Turns) → ShadowsByRecursion (Free (Group h) ∷ l) rest → (ys : Turns) × (rest ≡ Free (Group h) ∷ ys)
first_turn h l [] s = absurd s
first_turn h l (y ∷ ys) (inl s) = absurd s
first_turn h l (y ∷ ys) (inr s) = (ys, ap (λ (t : Turn FreeTurn). t ∷ ys) (sym s.0))

-- a trace shadows no listed one
spared : (request : GraphRequest) (n : ℕ) → IsTidy request n → (steps : ℕ) (visit : Turns) (object carried : ℕ) (on : List ℕ) (e other : Turns) → Arrives request steps visit object carried on → ((other : Turns) → IsFailing request other → Shadows other visit → ⊥) → IsOwnEnd request object carried e → ((other : Turns) → IsOwnEnd request object carried other → Shadows other e → ⊥) → IsTrace request other → ShadowsByRecursion other (visit ++ e) → ⊥
spared request n tidy steps visit object carried on e other v free end alone (steps', visit', object', carried', on', own, v', end', other_is) s =
    let s' = subst (λ (z : Turns). ShadowsByRecursion z (visit ++ e)) other_is s in
    elim (hides_below visit' own (visit ++ e) s') [
      | inl k ↦ elim (shadow_left visit' visit e k) [
        | inl m ↦
            (let f = some_local request object' carried' own end' in
            free visit' (steps', object', carried', on', f.0, v', f.1) (from_recursion visit' visit m))
        | inr m ↦
            has_group m.0 visit end.0 end.1 (subst (λ (z : Turns). AreVisitTurns z) m.1 (visit_turns request steps' visit' object' carried' on' v'))
            (subst (λ (z : Turns). ShadowsByRecursion m.0 z) end.4 m.2)
      ]
      | inr k ↦
          (let first = first_turn end'.0 end'.1 k.0 (subst (λ (z : Turns). ShadowsByRecursion z k.0) end'.4 k.2) in
          let joined : visit ++ Free (Group end.0) ∷ end.1 ≡ visit' ++ Free (Group end'.0) ∷ first.0 = ap (λ (z : Turns). visit ++ z) (sym end.4) ∙ k.1 ∙ ap (λ (z : Turns). visit' ++ z) first.1 in
          let same = same_group visit visit' end.0 end'.0 end.1 first.0 (visit_turns request steps visit object carried on v) (visit_turns request steps' visit' object' carried' on' v') joined in
          let one = one_visit request n tidy steps steps' visit object object' carried carried' on on' v (subst (λ (z : Turns). Arrives request steps' z object' carried' on') (sym same.0) v') in
          let here = subst (λ (c : ℕ). IsOwnEnd request object c own) (sym one.1) (subst (λ (o : ℕ). IsOwnEnd request o carried' own) (sym one.0) end') in
          let rest_is : k.0 ≡ e = first.1 ∙ sym same.1 ∙ sym end.4 in
          alone own here (from_recursion own e (subst (λ (z : Turns). ShadowsByRecursion own z) rest_is k.2)))
    ]

from_listed : (request : GraphRequest) (n : ℕ) → IsTidy request n → (t : Violation) → IsListed request t → IsViolation request t
from_listed request n tidy t (steps, visit, object, carried, on, f, v, free, local, t_is) =
    let e = local.0 in
    let end = local.2 in
    let root = at_object [] request.root in
    let x = fold (onward request) root visit in
    let l = end_last request x object carried e end in
    let same = last_fail l.0 local.1 l.1 f (sym l.2 ∙ local.4) in (
      visit ++ e,
      make_trace request steps visit object carried on e v end,
      λ other o s. spared request n tidy steps visit object carried on e other v free end local.3 o (by_recursion other (visit ++ e) s),
      t_is
          ∙ ap (λ (a : LocalFailure). violation (onward request x (Free (Fail a)))) (sym same)
          ∙ ap (λ (y : Reached). violation y) (sym l.3)
          ∙ ap (λ (y : Reached). violation y) (sym (told_append request root visit e)),
    )

pub listing_exact : (request : GraphRequest) (n : ℕ) → IsTidy request n → (t : Violation) → IsViolation request t ↔ IsListed request t
listing_exact request n tidy t = (to_listed request t, from_listed request n tidy t)
