-- The traces in parts are those of the walk of points.
use Rattle.std.proofs.Common.{◌≡◌, ℕ, zero, suc, ◌≤◌, List, [], ◌∷◌, ◌++◌, map, length, ◌⊎◌, inl, inr, refl, sym, ap, ◌∙◌, subst, arith, Bool, true, false, cond, Some, slice_get, append_assoc, length-append}
use Rattle.fv_graph.proofs.Lists.{in_left, in_right, in_cases}
use Rattle.fv_graph.specs.Graph.{IsIn, mem}
use Rattle.fv_graph.proofs.Images.{in_map, from_map}
use Rattle.fv_walk_traces.proofs.Prefix.{Path', join_at}
use Rattle.fv_walk_traces.specs.Points.{Point, Start, Choosing, Standing, Within, Failed, handed, step_options, next}
use Rattle.fv_walk_traces.specs.Requests.{Own, Plain, InRanks, GraphRequest}
use Rattle.fv_walk_traces.specs.Traces.{Carried, Arrives, OwnEnds, IsTrace}
use Rattle.fv_walk_traces.specs.Turns.{Free, Rank, FreeTurn, LocalFailure, Fail, Ask, Step, Group, Turns, Way}
use Rattle.fv_walk_traces.specs.Unfold.{TraceFrom}
use Rattle.fv_datum.proofs.Lists.{map_get}

path_on : (request : GraphRequest) (state mid after : Point) (p q : Turns) → Path' (next request) state p mid → Path' (next request) mid q after → Path' (next request) state (p ++ q) after
path_on request state mid after [] q e h = subst (λ (s : Point). Path' (next request) s q after) (sym e) h
path_on request state mid after (t ∷ p) q k h = (k.0, k.1, path_on request k.0 mid after p q k.2 h)

pub get_map : {X Y : Type 0} (f : X → Y) (xs : List X) (i : ℕ) (x : X) → slice_get xs i ≡ Some x → slice_get (map f xs) i ≡ Some (f x)
get_map f [] i x e = cc
get_map f (y ∷ xs) zero x e = let q : y ≡ x = cc in ap (λ z. Some (f z)) q
get_map f (y ∷ xs) (suc i) x e = get_map f xs i x e

-- from what was handed on to where it is carried
hand_on : (request : GraphRequest) (object g carried : ℕ) (on : List ℕ) (mark : Turns) → Carried request g mark carried → Path' (next request) (handed request object g on) mark (Standing object carried on)
hand_on request object g carried on mark (inl h) =
    subst (λ (m : Turns). Path' (next request) (handed request object g on) m (Standing object carried on)) (sym h.1)
    (ap (λ b. cond b (Choosing object g on) (Standing object g on)) h.0 ∙ ap (λ c. Standing object c on) (sym h.2))
hand_on request object g carried on mark (inr h) =
    subst (λ (m : Turns). Path' (next request) (handed request object g on) m (Standing object carried on)) (sym h.2)
    (subst (λ (s : Point). Path' (next request) s (Rank h.0 ∷ []) (Standing object carried on)) (sym (ap (λ b. cond b (Choosing object g on) (Standing object g on)) h.1))
    (Standing object carried on, get_map (λ m. Standing object m on) (request.ranks g) h.0 carried h.3, refl))

to_option : (request : GraphRequest) (object carried : ℕ) (on : List ℕ) (ways : List Way) (way : Way) → IsIn ways way → mem on way.target ≡ false → IsIn (step_options request object carried on ways) (Step way, handed request way.target (request.converted object way.place carried) (way.target ∷ on))
to_option request object carried on [] way h new = absurd h
to_option request object carried on (w ∷ ways) way h new = go (to_option request object carried on ways way) (mem on w.target) refl h
  where
    go : (IsIn ways way → mem on way.target ≡ false → IsIn (step_options request object carried on ways) (Step way, handed request way.target (request.converted object way.place carried) (way.target ∷ on))) → (b : Bool) → mem on w.target ≡ b → (w ≡ way) ⊎ IsIn ways way → IsIn (cond b (step_options request object carried on ways) ((Step w, handed request w.target (request.converted object w.place carried) (w.target ∷ on)) ∷ step_options request object carried on ways)) (Step way, handed request way.target (request.converted object way.place carried) (way.target ∷ on))
    go ih true e (inl d) = (let q : mem on w.target ≡ false = subst (λ (x : Way). mem on x.target ≡ false) (sym d) new in cc)
    go ih true e (inr k) = ih k new
    go ih false e (inl d) = inl (ap (λ (x : Way). (Step x, handed request x.target (request.converted object x.place carried) (x.target ∷ on))) d)
    go ih false e (inr k) = inr (ih k new)

pub from_option : (request : GraphRequest) (object carried : ℕ) (on : List ℕ) (ways : List Way) (turn : FreeTurn) (after : Point) → IsIn (step_options request object carried on ways) (turn, after) → (way : Way) × IsIn ways way × (mem on way.target ≡ false) × (turn ≡ Step way) × (after ≡ handed request way.target (request.converted object way.place carried) (way.target ∷ on))
from_option request object carried on [] turn after h = absurd h
from_option request object carried on (w ∷ ways) turn after h = go (from_option request object carried on ways turn after) (mem on w.target) refl h
  where
    go : (IsIn (step_options request object carried on ways) (turn, after) → (way : Way) × IsIn ways way × (mem on way.target ≡ false) × (turn ≡ Step way) × (after ≡ handed request way.target (request.converted object way.place carried) (way.target ∷ on))) → (b : Bool) → mem on w.target ≡ b → IsIn (cond b (step_options request object carried on ways) ((Step w, handed request w.target (request.converted object w.place carried) (w.target ∷ on)) ∷ step_options request object carried on ways)) (turn, after) → (way : Way) × IsIn (w ∷ ways) way × (mem on way.target ≡ false) × (turn ≡ Step way) × (after ≡ handed request way.target (request.converted object way.place carried) (way.target ∷ on))
    go ih true e k = let m = ih k in (m.0, inr m.1, m.2, m.3, m.4)
    go ih false e (inl d) = (w, inl refl, e, sym (ap (λ (x : FreeTurn × Point). x.0) d), sym (ap (λ (x : FreeTurn × Point). x.1) d))
    go ih false e (inr k) = let m = ih k in (m.0, inr m.1, m.2, m.3, m.4)

pub visit_path : (request : GraphRequest) (steps : ℕ) (turns : Turns) (object carried : ℕ) (on : List ℕ) → Arrives request steps turns object carried on → Path' (next request) Start turns (Standing object carried on)
visit_path request zero turns object carried on h =
    subst (λ (t : Turns). Path' (next request) Start t (Standing object carried on)) (sym h.0.4) (
      handed request request.root h.0.0 (request.root ∷ []),
      in_map (λ g. (Ask g, handed request request.root g (request.root ∷ []))) request.asked h.0.0 h.0.2,
      subst (λ (o : ℕ). Path' (next request) (handed request request.root h.0.0 (request.root ∷ [])) h.0.1 (Standing o carried on)) (sym h.1)
          (subst (λ (l : List ℕ). Path' (next request) (handed request request.root h.0.0 (request.root ∷ [])) h.0.1 (Standing request.root carried l)) (sym h.2)
          (hand_on request request.root h.0.0 carried (request.root ∷ []) h.0.1 h.0.3)),
    )
visit_path request (suc steps) turns object carried on (earlier, from, held, before, way, mark, visit, is_way, new, carries, turns_are, object_is, on_is) =
    let p = visit_path request steps earlier from held before visit in
    let g = request.converted from way.place held in
    let rest = hand_on request way.target g carried (way.target ∷ before) mark carries in
    let lead = in_right (map (λ h. (Group h, Within (request.own from h))) (request.below held)) (step_options request from held before (request.ways from)) _ (to_option request from held before (request.ways from) way is_way new) in
    let q = path_on request Start (Standing from held before) (Standing way.target carried (way.target ∷ before)) earlier (Free (Step way) ∷ mark) p (handed request way.target g (way.target ∷ before), lead, rest) in
    subst (λ (t : Turns). Path' (next request) Start t (Standing object carried on)) (sym turns_are)
    (subst (λ (o : ℕ). Path' (next request) Start (earlier ++ Free (Step way) ∷ mark) (Standing o carried on)) (sym object_is)
    (subst (λ (l : List ℕ). Path' (next request) Start (earlier ++ Free (Step way) ∷ mark) (Standing way.target carried l)) (sym on_is) q))

pub own_trace : (request : GraphRequest) (own : Own) (turns : Turns) → OwnEnds own turns → TraceFrom (next request) (Within own) turns
own_trace request (Plain fails) turns h =
    subst (λ (t : Turns). TraceFrom (next request) (Within (Plain fails)) t) (sym h.2) (Failed, in_map (λ f. (Fail f, Failed)) fails h.0 h.1, refl)
own_trace request (InRanks lists) turns h =
    subst (λ (t : Turns). TraceFrom (next request) (Within (InRanks lists)) t) (sym h.5)
    (Within (Plain h.1), get_map (λ fails. Within (Plain fails)) lists h.0 h.1 h.3, (Failed, in_map (λ f. (Fail f, Failed)) h.1 h.2 h.4, refl))

pub parts_walk : (request : GraphRequest) (turns : Turns) → IsTrace request turns → TraceFrom (next request) Start turns
parts_walk request turns (steps, first, object, carried, on, own, visit, (h, last, is_below, ends, own_is), turns_are) =
    subst (λ (t : Turns). TraceFrom (next request) Start t) (sym (turns_are ∙ ap (λ (l : Turns). first ++ l) own_is))
    (join_at (next request) Start (Standing object carried on) first (Free (Group h) ∷ last) (visit_path request steps first object carried on visit) (
      Within (request.own object h),
      in_left (map (λ g. (Group g, Within (request.own object g))) (request.below carried)) (step_options request object carried on (request.ways object)) _ (in_map (λ g. (Group g, Within (request.own object g))) (request.below carried) h is_below),
      own_trace request (request.own object h) last ends,
    ))

failed_ends : (request : GraphRequest) (turns : Turns) → TraceFrom (next request) Failed turns → turns ≡ []
failed_ends request [] h = refl
failed_ends request (t ∷ turns) h = absurd h.1

plain_ends : (request : GraphRequest) (fails : List LocalFailure) (turns : Turns) → TraceFrom (next request) (Within (Plain fails)) turns → (f : LocalFailure) × IsIn fails f × (turns ≡ Free (Fail f) ∷ [])
plain_ends request fails [] h = cc
plain_ends request fails (Rank i ∷ turns) h = absurd h.1
plain_ends request fails (Free a ∷ turns) h =
    let m = from_map (λ (f : LocalFailure). (Fail f, Failed)) fails (a, h.0) h.1 in
    let e : h.0 ≡ Failed = ap (λ (x : FreeTurn × Point). x.1) m.1 in
    let d : a ≡ Fail m.0 = ap (λ (x : FreeTurn × Point). x.0) m.1 in
    let r = failed_ends request turns (subst (λ (s : Point). TraceFrom (next request) s turns) e h.2) in
    (m.0, m.2, cc (d, r))

pub own_ends : (request : GraphRequest) (own : Own) (turns : Turns) → TraceFrom (next request) (Within own) turns → OwnEnds own turns
own_ends request (Plain fails) turns h = plain_ends request fails turns h
own_ends request (InRanks lists) [] h = cc
own_ends request (InRanks lists) (Free a ∷ turns) h = absurd h.1
own_ends request (InRanks lists) (Rank i ∷ turns) h =
    let m = map_get (λ (fails : List LocalFailure). Within (Plain fails)) lists i h.0 h.1 in
    let k = plain_ends request m.0 turns (subst (λ (s : Point). TraceFrom (next request) s turns) m.2 h.2) in
    (i, m.0, k.0, m.1, k.1, ap (λ (t : Turns). Rank i ∷ t) k.2)

choosing_on : (request : GraphRequest) (object g : ℕ) (on : List ℕ) (turns : Turns) → TraceFrom (next request) (Choosing object g on) turns → (i : ℕ) × (carried : ℕ) × (rest : Turns) × (slice_get (request.ranks g) i ≡ Some carried) × (turns ≡ Rank i ∷ rest) × TraceFrom (next request) (Standing object carried on) rest
choosing_on request object g on [] h = cc
choosing_on request object g on (Free a ∷ turns) h = absurd h.1
choosing_on request object g on (Rank i ∷ turns) h =
    let m = map_get (λ c. Standing object c on) (request.ranks g) i h.0 h.1 in
    (i, m.0, turns, m.1, refl, subst (λ (s : Point). TraceFrom (next request) s turns) m.2 h.2)

took_on : (request : GraphRequest) (object g : ℕ) (on : List ℕ) (turns : Turns) → TraceFrom (next request) (handed request object g on) turns → (mark : Turns) × (carried : ℕ) × (rest : Turns) × Carried request g mark carried × (turns ≡ mark ++ rest) × TraceFrom (next request) (Standing object carried on) rest
took_on request object g on turns h = go (request.is_sequence g) refl h
  where
    go : (b : Bool) → request.is_sequence g ≡ b → TraceFrom (next request) (cond b (Choosing object g on) (Standing object g on)) turns → (mark : Turns) × (carried : ℕ) × (rest : Turns) × Carried request g mark carried × (turns ≡ mark ++ rest) × TraceFrom (next request) (Standing object carried on) rest
    go false e k = ([], g, turns, inl (e, refl, refl), refl, k)
    go true e k =
        let m = choosing_on request object g on turns k in
        (Rank m.0 ∷ [], m.1, m.2, inr (m.0, e, refl, m.3), m.4, m.5)

walk_on : (n : ℕ) (request : GraphRequest) (steps : ℕ) (first : Turns) (object carried : ℕ) (on : List ℕ) (rest : Turns) → Arrives request steps first object carried on → length rest ≤ n → TraceFrom (next request) (Standing object carried on) rest → IsTrace request (first ++ rest)
walk_on n request steps first object carried on [] visit less h = cc
walk_on n request steps first object carried on (Rank i ∷ turns) visit less h = absurd h.1
walk_on zero request steps first object carried on (Free a ∷ turns) visit less h = absurd (omega arith)
walk_on (suc n) request steps first object carried on (Free a ∷ turns) visit less h =
    elim (in_cases (map (λ g. (Group g, Within (request.own object g))) (request.below carried)) (step_options request object carried on (request.ways object)) (a, h.0) h.1) [
      | inl k ↦
          (let m = from_map (λ (g : ℕ). (Group g, Within (request.own object g))) (request.below carried) (a, h.0) k in
          let e : h.0 ≡ Within (request.own object m.0) = ap (λ (x : FreeTurn × Point). x.1) m.1 in
          let d : a ≡ Group m.0 = ap (λ (x : FreeTurn × Point). x.0) m.1 in
          let ends = own_ends request (request.own object m.0) turns (subst (λ (s : Point). TraceFrom (next request) s turns) e h.2) in
          (steps, first, object, carried, on, Free (Group m.0) ∷ turns, visit, (m.0, turns, m.2, ends, refl), ap (λ (x : FreeTurn). first ++ Free x ∷ turns) d))
      | inr k ↦
          (let m = from_option request object carried on (request.ways object) a h.0 k in
          let way = m.0 in
          let g = request.converted object way.place carried in
          let t = took_on request way.target g (way.target ∷ on) turns (subst (λ (s : Point). TraceFrom (next request) s turns) m.4 h.2) in
          let step = Free (Step way) in
          let shorter : length t.2 ≤ n = (let e = ap (λ (l : Turns). length l) t.4 in let d = length-append t.0 t.2 in omega (arith, e, d)) in
          let whole = walk_on n request (suc steps) (first ++ step ∷ t.0) way.target t.1 (way.target ∷ on) t.2 (first, object, carried, on, way, t.0, visit, m.1, m.2, t.3, refl, refl, refl) shorter t.5 in
          let same : (first ++ step ∷ t.0) ++ t.2 ≡ first ++ Free a ∷ turns =
          append_assoc first (step ∷ t.0) t.2 ∙ ap (λ (l : Turns). first ++ step ∷ l) (sym t.4) ∙ ap (λ (x : FreeTurn). first ++ Free x ∷ turns) (sym m.3) in
          subst (λ (l : Turns). IsTrace request l) same whole)
    ]

pub walk_parts : (request : GraphRequest) (turns : Turns) → TraceFrom (next request) Start turns → IsTrace request turns
walk_parts request [] h = cc
walk_parts request (Rank i ∷ turns) h = absurd h.1
walk_parts request (Free a ∷ turns) h =
    let m = from_map (λ (g : ℕ). (Ask g, handed request request.root g (request.root ∷ []))) request.asked (a, h.0) h.1 in
    let e : h.0 ≡ handed request request.root m.0 (request.root ∷ []) = ap (λ (x : FreeTurn × Point). x.1) m.1 in
    let d : a ≡ Ask m.0 = ap (λ (x : FreeTurn × Point). x.0) m.1 in
    let t = took_on request request.root m.0 (request.root ∷ []) turns (subst (λ (s : Point). TraceFrom (next request) s turns) e h.2) in
    let whole = walk_on (length t.2) request 0 (Free (Ask m.0) ∷ t.0) request.root t.1 (request.root ∷ []) t.2 ((m.0, t.0, m.2, t.3, refl), refl, refl) (omega arith) t.5 in
    subst (λ (l : Turns). IsTrace request l) (ap (λ (l : Turns). Free (Ask m.0) ∷ l) (sym t.4) ∙ ap (λ (x : FreeTurn). Free x ∷ turns) (sym d)) whole
