-- A request for one field is the narrowed request.
use Rattle.std.proofs.Common.{◌≡◌, ℕ, zero, suc, List, [], ◌∷◌, ◌++◌, filter, ◌⊎◌, inl, inr, ◌↔◌, refl, sym, ap, ◌∙◌, subst, Bool, true, false, cond, append_assoc, fold}
use Rattle.fv_graph.specs.Graph.{IsIn, AllDiffer}
use Rattle.fv_graph.proofs.Lists.{in_left, in_right, in_cases}
use Rattle.fv_datum.specs.Data.{Data}
use Rattle.fv_path.specs.Nodes.{PathNode}
use Rattle.fv_walk_traces.specs.Turns.{Spot, of_object, at, LocalFailure, Way, FreeTurn, Ask, Step, Group, Fail, Turn, Free, Rank, Turns}
use Rattle.fv_walk_traces.specs.Reaching.{at_object, violation}
use Rattle.fv_walk_traces.specs.Requests.{Own, Plain, InRanks, GraphRequest}
use Rattle.fv_walk_traces.specs.Traces.{Asks, Carried, OwnEnds, IsTrace, IsVisit, IsEntered}
use Rattle.fv_walk_traces.specs.Violations.{Violation, Reached, onward, violation_of, IsViolation, nodes_to, value_at}
use Rattle.fv_walk_traces.specs.OneField.{is_in_field, IsTraceOfField, IsVisitOfField, IsEnteredOfField, IsViolationOfField, own_of_field, narrowed}
use Rattle.fv_walk_traces.specs.Finite.{IsTidy, IsProperOwn}
use Rattle.fv_walk_traces.proofs.Parts.{get_map}
use Rattle.fv_datum.proofs.Lists.{map_get}
use Rattle.fv_walk_traces.proofs.Ends.{last_fail}
use Rattle.fv_graph.proofs.Images.{from_map}

to_filter : {X : Type 0} (test : X → Bool) (xs : List X) (x : X) → IsIn xs x → test x ≡ true → IsIn (filter test xs) x
to_filter test [] x h t = absurd h
to_filter {X} test (y ∷ xs) x h t = go (to_filter test xs x) (test y) refl h
  where
    go : (IsIn xs x → test x ≡ true → IsIn (filter test xs) x) → (b : Bool) → test y ≡ b → (y ≡ x) ⊎ IsIn xs x → IsIn (cond b (y ∷ filter test xs) (filter test xs)) x
    go ih true e (inl d) = inl d
    go ih true e (inr k) = inr (ih k t)
    go ih false e (inl d) = (let q : test y ≡ true = subst (λ (z : X). test z ≡ true) (sym d) t in cc)
    go ih false e (inr k) = ih k t

from_filter : {X : Type 0} (test : X → Bool) (xs : List X) (x : X) → IsIn (filter test xs) x → IsIn xs x × (test x ≡ true)
from_filter test [] x h = absurd h
from_filter {X} test (y ∷ xs) x h = go (from_filter test xs x) (test y) refl h
  where
    go : (IsIn (filter test xs) x → IsIn xs x × (test x ≡ true)) → (b : Bool) → test y ≡ b → IsIn (cond b (y ∷ filter test xs) (filter test xs)) x → ((y ≡ x) ⊎ IsIn xs x) × (test x ≡ true)
    go ih true e (inl d) = (inl d, subst (λ (z : X). test z ≡ true) d e)
    go ih true e (inr k) = (let m = ih k in (inr m.0, m.1))
    go ih false e k = (let m = ih k in (inr m.0, m.1))

filter_differs : {X : Type 0} (test : X → Bool) (xs : List X) → AllDiffer xs → AllDiffer (filter test xs)
filter_differs test [] d = tt
filter_differs test (y ∷ xs) d = go (filter_differs test xs d.1) (test y)
  where
    go : AllDiffer (filter test xs) → (b : Bool) → AllDiffer (cond b (y ∷ filter test xs) (filter test xs))
    go ih true = (λ k. d.0 (from_filter test xs y k).0, ih)
    go ih false = ih

-- an end of a group, and the failure there
last_of_own : (own : Own) (last : Turns) → OwnEnds own last → (before : Turns) × (f : LocalFailure) × (last ≡ before ++ Free (Fail f) ∷ [])
last_of_own (Plain fails) last o = ([], o.0, o.2)
last_of_own (InRanks lists) last o = (Rank o.0 ∷ [], o.2, o.5)

to_own : (field : ℕ) (own : Own) (last before : Turns) (f : LocalFailure) → OwnEnds own last → last ≡ before ++ Free (Fail f) ∷ [] → is_in_field field f ≡ true → OwnEnds (own_of_field field own) last
to_own field (Plain fails) last before f o e b =
    let q = last_fail before [] f o.0 (sym e ∙ o.2) in
    (o.0, to_filter (is_in_field field) fails o.0 o.1 (subst (λ (g : LocalFailure). is_in_field field g ≡ true) q b), o.2)
to_own field (InRanks lists) last before f o e b =
    let q = last_fail before (Rank o.0 ∷ []) f o.2 (sym e ∙ o.5) in
    (o.0, filter (is_in_field field) o.1, o.2, get_map (filter (is_in_field field)) lists o.0 o.1 o.3, to_filter (is_in_field field) o.1 o.2 o.4 (subst (λ (g : LocalFailure). is_in_field field g ≡ true) q b), o.5)

from_own : (field : ℕ) (own : Own) (last : Turns) → OwnEnds (own_of_field field own) last → OwnEnds own last × ((before : Turns) × (f : LocalFailure) × (last ≡ before ++ Free (Fail f) ∷ []) × (is_in_field field f ≡ true))
from_own field (Plain fails) last o =
    let k = from_filter (is_in_field field) fails o.0 o.1 in
    ((o.0, k.0, o.2), ([], o.0, o.2, k.1))
from_own field (InRanks lists) last o =
    let m = map_get (filter (is_in_field field)) lists o.0 o.1 o.3 in
    let k = from_filter (is_in_field field) m.0 o.2 (subst (λ (l : List LocalFailure). IsIn l o.2) m.2 o.4) in
    ((o.0, m.0, o.2, m.1, k.0, o.5), (Rank o.0 ∷ [], o.2, o.5, k.1))

own_turns : (own : Own) (last : Turns) → OwnEnds own last → (way : Way) → IsIn last (Free (Step way)) → ⊥
own_turns (Plain fails) last o way h = no_step (subst (λ (l : Turns). IsIn l (Free (Step way))) o.2 h)
  where
    no_step : IsIn (Free (Fail o.0) ∷ []) (Free (Step way)) → ⊥
    no_step (inl e) = cc
    no_step (inr k) = k
own_turns (InRanks lists) last o way h = no_step (subst (λ (l : Turns). IsIn l (Free (Step way))) o.5 h)
  where
    no_step : IsIn (Rank o.0 ∷ Free (Fail o.2) ∷ []) (Free (Step way)) → ⊥
    no_step (inl e) = cc
    no_step (inr (inl e)) = cc
    no_step (inr (inr k)) = k

mark_turns : (request : GraphRequest) (g carried : ℕ) (mark : Turns) → Carried request g mark carried → (way : Way) → IsIn mark (Free (Step way)) → ⊥
mark_turns request g carried mark (inl c) way h = subst (λ (l : Turns). IsIn l (Free (Step way))) c.1 h
mark_turns request g carried mark (inr c) way h = no_step (subst (λ (l : Turns). IsIn l (Free (Step way))) c.2 h)
  where
    no_step : IsIn (Rank c.0 ∷ []) (Free (Step way)) → ⊥
    no_step (inl e) = cc
    no_step (inr k) = k

-- the turns that ask take no step
ask_turns : (request : GraphRequest) (turns : Turns) (carried : ℕ) → Asks request turns carried → (way : Way) → IsIn turns (Free (Step way)) → ⊥
ask_turns request turns carried a way h = no_step (subst (λ (l : Turns). IsIn l (Free (Step way))) a.4 h)
  where
    no_step : IsIn (Free (Ask a.0) ∷ a.1) (Free (Step way)) → ⊥
    no_step (inl e) = cc
    no_step (inr k) = mark_turns request a.0 carried a.1 a.3 way k

-- the end of a longer list
longer_end : (first last before : Turns) (f : LocalFailure) (turns : Turns) → turns ≡ first ++ last → last ≡ before ++ Free (Fail f) ∷ [] → (longer : Turns) × (turns ≡ longer ++ Free (Fail f) ∷ [])
longer_end first last before f turns e d = (first ++ before, e ∙ ap (λ (l : Turns). first ++ l) d ∙ sym (append_assoc first before (Free (Fail f) ∷ [])))

pub to_narrowed : (request : GraphRequest) (field : ℕ) (turns : Turns) → IsTraceOfField request field turns → IsTrace (narrowed field request) turns
to_narrowed request field turns ((zero, first, object, carried, on, own, v, (h, last, is_below, ends, own_is), turns_are), stays, (before, f, end, begins)) =
    let l = last_of_own (request.own object h) last ends in
    let m = longer_end (first ++ Free (Group h) ∷ []) last l.0 l.1 turns (turns_are ∙ ap (λ (z : Turns). first ++ z) own_is ∙ split first) l.2 in
    let same = last_fail m.0 before l.1 f (sym m.1 ∙ end) in
    (0, first, object, carried, on, own, v, (h, last, is_below, to_own field (request.own object h) last l.0 l.1 ends l.2 (subst (λ (g : LocalFailure). is_in_field field g ≡ true) (sym same) begins), own_is), turns_are)
  where
    split : (xs : Turns) → xs ++ Free (Group h) ∷ last ≡ (xs ++ Free (Group h) ∷ []) ++ last
    split [] = refl
    split (x ∷ xs) = ap (λ (l : Turns). x ∷ l) (split xs)
to_narrowed request field turns ((suc steps, first, object, carried, on, own, v, ends, turns_are), stays, end) =
    absurd (stays v.4 (subst (λ (l : Turns). IsIn l (Free (Step v.4))) (sym turns_are) (in_left first own (Free (Step v.4)) (subst (λ (l : Turns). IsIn l (Free (Step v.4))) (sym v.10) (in_right v.0 (Free (Step v.4) ∷ v.5) (Free (Step v.4)) (inl refl))))))

pub from_narrowed : (request : GraphRequest) (field : ℕ) (turns : Turns) → IsTrace (narrowed field request) turns → IsTraceOfField request field turns
from_narrowed request field turns (zero, first, object, carried, on, own, v, (h, last, is_below, ends, own_is), turns_are) =
    let k = from_own field (request.own object h) last ends in
    let m = longer_end own_before last k.1.0 k.1.1 turns (turns_are ∙ ap (λ (z : Turns). first ++ z) own_is ∙ split first) k.1.2 in (
      (0, first, object, carried, on, own, v, (h, last, is_below, k.0, own_is), turns_are),
      λ way i. elim (in_cases first own (Free (Step way)) (subst (λ (l : Turns). IsIn l (Free (Step way))) turns_are i)) [
        | inl a ↦ ask_turns request first carried v.0 way a
        | inr b ↦ no_step way (subst (λ (l : Turns). IsIn l (Free (Step way))) own_is b)
      ],
      (m.0, k.1.1, m.1, k.1.3),
    )
  where
    own_before : Turns
    own_before = first ++ Free (Group h) ∷ []

    split : (xs : Turns) → xs ++ Free (Group h) ∷ last ≡ (xs ++ Free (Group h) ∷ []) ++ last
    split [] = refl
    split (x ∷ xs) = ap (λ (l : Turns). x ∷ l) (split xs)

    no_step : (way : Way) → IsIn (Free (Group h) ∷ last) (Free (Step way)) → ⊥
    no_step way (inl e) = cc
    no_step way (inr i) = own_turns (own_of_field field (request.own object h)) last ends way i
from_narrowed request field turns (suc steps, first, object, carried, on, own, v, ends, turns_are) = absurd v.7

pub to_narrowed_visit : (request : GraphRequest) (field : ℕ) (turns : Turns) → IsVisitOfField request turns → IsVisit (narrowed field request) turns
to_narrowed_visit request field turns (carried, asks) = (0, request.root, carried, request.root ∷ [], (asks, refl, refl))

pub from_narrowed_visit : (request : GraphRequest) (field : ℕ) (turns : Turns) → IsVisit (narrowed field request) turns → IsVisitOfField request turns
from_narrowed_visit request field turns (zero, object, carried, on, v) = (carried, v.0)
from_narrowed_visit request field turns (suc steps, object, carried, on, v) = absurd v.7

-- a narrowed request sees what the request sees
same_nodes : (request : GraphRequest) (field object : ℕ) (spot : Spot) → nodes_to (narrowed field request) object spot ≡ nodes_to request object spot
same_nodes request field object of_object = refl
same_nodes request field object (at place locus) = refl

same_value : (request : GraphRequest) (field object : ℕ) (spot : Spot) → value_at (narrowed field request) object spot ≡ value_at request object spot
same_value request field object of_object = refl
same_value request field object (at place locus) = refl

-- a failure behind a path, with these nodes further and this value
abbrev failed : Reached → ℕ → List PathNode → Data → Reached
failed x node nodes value = record { path = x.path ++ nodes; object = x.object; node = node; value = value }

same_turn : (request : GraphRequest) (field : ℕ) (x : Reached) (turn : Turn FreeTurn) → onward (narrowed field request) x turn ≡ onward request x turn
same_turn request field x (Free (Ask g)) = refl
same_turn request field x (Free (Step way)) = refl
same_turn request field x (Free (Group h)) = refl
same_turn request field x (Free (Fail f)) =
    ap (λ (l : List PathNode). failed x f.node l (value_at (narrowed field request) x.object f.spot)) (same_nodes request field x.object f.spot)
    ∙ ap (λ (d : Data). failed x f.node (nodes_to request x.object f.spot) d) (same_value request field x.object f.spot)
same_turn request field x (Rank i) = refl

same_told : (request : GraphRequest) (field : ℕ) (x : Reached) (turns : Turns) → fold (onward (narrowed field request)) x turns ≡ fold (onward request) x turns
same_told request field x [] = refl
same_told request field x (turn ∷ turns) =
    ap (λ (y : Reached). fold (onward (narrowed field request)) y turns) (same_turn request field x turn)
    ∙ same_told request field (onward request x turn) turns

same_violation : (request : GraphRequest) (field : ℕ) (turns : Turns) → violation_of (narrowed field request) turns ≡ violation_of request turns
same_violation request field turns = ap (λ (y : Reached). violation y) (same_told request field (at_object [] request.root) turns)

pub field_violation : (request : GraphRequest) (field : ℕ) (v : Violation) → IsViolationOfField request field v ↔ IsViolation (narrowed field request) v
field_violation request field v = (
  λ h. (
    h.0,
    to_narrowed request field h.0 h.1,
    λ other t s. h.2 other (from_narrowed request field other t) s,
    h.3 ∙ sym (same_violation request field h.0),
  ),
  λ h. (
    h.0,
    from_narrowed request field h.0 h.1,
    λ other t s. h.2 other (to_narrowed request field other t) s,
    h.3 ∙ same_violation request field h.0,
  ),
)

pub field_entered : (request : GraphRequest) (field : ℕ) (turns : Turns) → IsEnteredOfField request field turns ↔ IsEntered (narrowed field request) turns
field_entered request field turns = (
  λ h. (to_narrowed_visit request field turns h.0, λ other t s. h.1 other (from_narrowed request field other t) s),
  λ h. (from_narrowed_visit request field turns h.0, λ other t s. h.1 other (to_narrowed request field other t) s),
)

proper_own : (field : ℕ) (own : Own) → IsProperOwn own → IsProperOwn (own_of_field field own)
proper_own field (Plain fails) p = filter_differs (is_in_field field) fails p
proper_own field (InRanks lists) p = λ xs h.
    (let m = from_map (filter (is_in_field field)) lists xs h in
    subst (λ (l : List LocalFailure). AllDiffer l) (sym m.1) (filter_differs (is_in_field field) m.0 (p m.0 m.2)))

pub narrowed_tidy : (request : GraphRequest) (field n : ℕ) → IsTidy request n → IsTidy (narrowed field request) n
narrowed_tidy request field n tidy = record {
  asked = tidy.asked;
  below = tidy.below;
  ways = λ object. tt;
  targets = λ object way h. absurd h;
  own = λ object h. proper_own field (request.own object h) (tidy.own object h);
}
