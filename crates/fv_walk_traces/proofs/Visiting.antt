-- The visits in parts are those of the walk of points.
use Rattle.std.proofs.Common.{◌≡◌, ℕ, zero, suc, ◌≤◌, List, [], ◌∷◌, ◌++◌, map, length, inl, inr, refl, sym, ap, ◌∙◌, subst, arith, Bool, true, false, cond, slice_get, Some, append_assoc, length-append}
use Rattle.std.proofs.lemmas.List.{append-nil}
use Rattle.fv_graph.proofs.Lists.{in_cases}
use Rattle.fv_graph.proofs.Images.{from_map}
use Rattle.fv_walk_traces.proofs.Parts.{visit_path, from_option}
use Rattle.fv_datum.proofs.Lists.{map_get}
use Rattle.fv_walk_traces.proofs.Prefix.{Path'}
use Rattle.fv_walk_traces.specs.Points.{Point, Start, Choosing, Standing, Within, Failed, handed, step_options, next}
use Rattle.fv_walk_traces.specs.Requests.{Own, Plain, InRanks, GraphRequest}
use Rattle.fv_walk_traces.specs.Traces.{Carried, Arrives, IsVisit}
use Rattle.fv_walk_traces.specs.Turns.{Free, Rank, FreeTurn, LocalFailure, Fail, Ask, Step, Group, Turns}
use Rattle.fv_walk_traces.specs.Unfold.{VisitFrom}

join_visit : (request : GraphRequest) (state after : Point) (p q : Turns) → Path' (next request) state p after → VisitFrom (next request) after q → VisitFrom (next request) state (p ++ q)
join_visit request state after [] q e h = subst (λ (s : Point). VisitFrom (next request) s q) (sym e) h
join_visit request state after (t ∷ p) q k h = (k.0, k.1, join_visit request k.0 after p q k.2 h)

pub visit_parts_walk : (request : GraphRequest) (turns : Turns) → IsVisit request turns → VisitFrom (next request) Start turns
visit_parts_walk request turns h =
    subst (λ (t : Turns). VisitFrom (next request) Start t) (append-nil turns)
    (join_visit request Start (Standing h.1 h.2 h.3) turns [] (visit_path request h.0 turns h.1 h.2 h.3 h.4) tt)

no_visit_failed : (request : GraphRequest) (turns : Turns) → VisitFrom (next request) Failed turns → ⊥
no_visit_failed request [] h = h
no_visit_failed request (t ∷ turns) h = h.1

no_visit_plain : (request : GraphRequest) (fails : List LocalFailure) (turns : Turns) → VisitFrom (next request) (Within (Plain fails)) turns → ⊥
no_visit_plain request fails [] h = h
no_visit_plain request fails (Rank i ∷ turns) h = h.1
no_visit_plain request fails (Free a ∷ turns) h =
    let m = from_map (λ (f : LocalFailure). (Fail f, Failed)) fails (a, h.0) h.1 in
    let e : h.0 ≡ Failed = ap (λ (x : FreeTurn × Point). x.1) m.1 in
    no_visit_failed request turns (subst (λ (s : Point). VisitFrom (next request) s turns) e h.2)

pub no_visit_within : (request : GraphRequest) (own : Own) (turns : Turns) → VisitFrom (next request) (Within own) turns → ⊥
no_visit_within request (Plain fails) turns h = no_visit_plain request fails turns h
no_visit_within request (InRanks lists) [] h = h
no_visit_within request (InRanks lists) (Free a ∷ turns) h = h.1
no_visit_within request (InRanks lists) (Rank i ∷ turns) h =
    let m = map_get (λ (fails : List LocalFailure). Within (Plain fails)) lists i h.0 h.1 in
    no_visit_plain request m.0 turns (subst (λ (s : Point). VisitFrom (next request) s turns) m.2 h.2)

choosing_on : (request : GraphRequest) (object g : ℕ) (on : List ℕ) (turns : Turns) → VisitFrom (next request) (Choosing object g on) turns → (i : ℕ) × (carried : ℕ) × (rest : Turns) × (slice_get (request.ranks g) i ≡ Some carried) × (turns ≡ Rank i ∷ rest) × VisitFrom (next request) (Standing object carried on) rest
choosing_on request object g on [] h = absurd h
choosing_on request object g on (Free a ∷ turns) h = absurd h.1
choosing_on request object g on (Rank i ∷ turns) h =
    let m = map_get (λ c. Standing object c on) (request.ranks g) i h.0 h.1 in
    (i, m.0, turns, m.1, refl, subst (λ (s : Point). VisitFrom (next request) s turns) m.2 h.2)

took_on : (request : GraphRequest) (object g : ℕ) (on : List ℕ) (turns : Turns) → VisitFrom (next request) (handed request object g on) turns → (mark : Turns) × (carried : ℕ) × (rest : Turns) × Carried request g mark carried × (turns ≡ mark ++ rest) × VisitFrom (next request) (Standing object carried on) rest
took_on request object g on turns h = go (request.is_sequence g) refl h
  where
    go : (b : Bool) → request.is_sequence g ≡ b → VisitFrom (next request) (cond b (Choosing object g on) (Standing object g on)) turns → (mark : Turns) × (carried : ℕ) × (rest : Turns) × Carried request g mark carried × (turns ≡ mark ++ rest) × VisitFrom (next request) (Standing object carried on) rest
    go false e k = ([], g, turns, inl (e, refl, refl), refl, k)
    go true e k =
        let m = choosing_on request object g on turns k in
        (Rank m.0 ∷ [], m.1, m.2, inr (m.0, e, refl, m.3), m.4, m.5)

visit_on : (n : ℕ) (request : GraphRequest) (steps : ℕ) (first : Turns) (object carried : ℕ) (on : List ℕ) (rest : Turns) → Arrives request steps first object carried on → length rest ≤ n → VisitFrom (next request) (Standing object carried on) rest → IsVisit request (first ++ rest)
visit_on n request steps first object carried on [] visit less h =
    subst (λ (l : Turns). IsVisit request l) (sym (append-nil first)) (steps, object, carried, on, visit)
visit_on n request steps first object carried on (Rank i ∷ turns) visit less h = absurd h.1
visit_on zero request steps first object carried on (Free a ∷ turns) visit less h = absurd (omega arith)
visit_on (suc n) request steps first object carried on (Free a ∷ turns) visit less h =
    elim (in_cases (map (λ g. (Group g, Within (request.own object g))) (request.below carried)) (step_options request object carried on (request.ways object)) (a, h.0) h.1) [
      | inl k ↦
          (let m = from_map (λ (g : ℕ). (Group g, Within (request.own object g))) (request.below carried) (a, h.0) k in
          let e : h.0 ≡ Within (request.own object m.0) = ap (λ (x : FreeTurn × Point). x.1) m.1 in
          absurd (no_visit_within request (request.own object m.0) turns (subst (λ (s : Point). VisitFrom (next request) s turns) e h.2)))
      | inr k ↦
          (let m = from_option request object carried on (request.ways object) a h.0 k in
          let way = m.0 in
          let g = request.converted object way.place carried in
          let t = took_on request way.target g (way.target ∷ on) turns (subst (λ (s : Point). VisitFrom (next request) s turns) m.4 h.2) in
          let step = Free (Step way) in
          let shorter : length t.2 ≤ n = (let e = ap (λ (l : Turns). length l) t.4 in let d = length-append t.0 t.2 in omega (arith, e, d)) in
          let whole = visit_on n request (suc steps) (first ++ step ∷ t.0) way.target t.1 (way.target ∷ on) t.2 (first, object, carried, on, way, t.0, visit, m.1, m.2, t.3, refl, refl, refl) shorter t.5 in
          let same : (first ++ step ∷ t.0) ++ t.2 ≡ first ++ Free a ∷ turns =
          append_assoc first (step ∷ t.0) t.2 ∙ ap (λ (l : Turns). first ++ step ∷ l) (sym t.4) ∙ ap (λ (x : FreeTurn). first ++ Free x ∷ turns) (sym m.3) in
          subst (λ (l : Turns). IsVisit request l) same whole)
    ]

pub visit_walk_parts : (request : GraphRequest) (turns : Turns) → VisitFrom (next request) Start turns → IsVisit request turns
visit_walk_parts request [] h = absurd h
visit_walk_parts request (Rank i ∷ turns) h = absurd h.1
visit_walk_parts request (Free a ∷ turns) h =
    let m = from_map (λ (g : ℕ). (Ask g, handed request request.root g (request.root ∷ []))) request.asked (a, h.0) h.1 in
    let e : h.0 ≡ handed request request.root m.0 (request.root ∷ []) = ap (λ (x : FreeTurn × Point). x.1) m.1 in
    let d : a ≡ Ask m.0 = ap (λ (x : FreeTurn × Point). x.0) m.1 in
    let t = took_on request request.root m.0 (request.root ∷ []) turns (subst (λ (s : Point). VisitFrom (next request) s turns) e h.2) in
    let whole = visit_on (length t.2) request 0 (Free (Ask m.0) ∷ t.0) request.root t.1 (request.root ∷ []) t.2 ((m.0, t.0, m.2, t.3, refl), refl, refl) (omega arith) t.5 in
    subst (λ (l : Turns). IsVisit request l) (ap (λ (l : Turns). Free (Ask m.0) ∷ l) (sym t.4) ∙ ap (λ (x : FreeTurn). Free x ∷ turns) (sym d)) whole
