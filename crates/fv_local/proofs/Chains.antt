-- The violation of a trace by the references that its steps follow, one after the other, and the failure at the object they lead to.
use Rattle.std.proofs.Common.{◌≡◌, inl, inr, ℕ, zero, suc, List, [], ◌∷◌, ◌++◌, Some, slice_get, refl, sym, ap, subst, ◌∙◌, fold}
use Rattle.std.proofs.lemmas.List.{append_assoc, append-nil}
use Rattle.fv_graph.specs.Graph.{IsIn}
use Rattle.fv_path.specs.Nodes.{PathNode}
use Rattle.fv_walk_traces.specs.Reaching.{at_object, violation}
use Rattle.fv_walk_traces.specs.Requests.{Own, Plain, InRanks, GraphRequest}
use Rattle.fv_walk_traces.specs.Traces.{Carried, Arrives, OwnEnds, IsOwnEnd, IsTrace}
use Rattle.fv_walk_traces.specs.Turns.{LocalFailure, Way, Step, Fail, Free, Turns}
use Rattle.fv_walk_traces.specs.Violations.{Violation, Reached, but_named, nodes_to, value_at, onward, violation_of, IsViolation}

-- it is among what fails, in a rank where there are ranks
abbrev pub FailsIn : Own → LocalFailure → Type 0
FailsIn (Plain fails) f = IsIn fails f
FailsIn (InRanks lists) f = (i : ℕ) × (fails : List LocalFailure) × (slice_get lists i ≡ Some fails) × IsIn fails f

module _ (request : GraphRequest) where
  -- the first of these references is one of an object, each other is one of the object that the one before it leads to, and they lead to the
  -- last object
  abbrev pub Leads : ℕ → List Way → ℕ → Type 0
  Leads object [] last = object ≡ last
  Leads object (way ∷ ways) last = IsIn (request.ways object) way × Leads way.target ways last

  -- the path that these references of an object take, and what follows it
  abbrev pub path_along : ℕ → List Way → List PathNode → List PathNode
  path_along object [] end = end
  path_along object (way ∷ ways) end = but_named (request.nodes object way.place way.locus) ++ path_along way.target ways end

  -- the violation that a failure of the last object is
  abbrev pub failed_at : List Way → ℕ → LocalFailure → Violation
  failed_at ways last f = record { path = path_along request.root ways (nodes_to request last f.spot); node = f.node; value = value_at request last f.spot }

  leads_on : (object from : ℕ) (ways : List Way) (way : Way) → Leads object ways from → IsIn (request.ways from) way → Leads object (ways ++ way ∷ []) way.target
  leads_on object from [] way h k = (subst (λ (o : ℕ). IsIn (request.ways o) way) (sym h) k, refl)
  leads_on object from (w ∷ ways) way h k = (h.0, leads_on w.target from ways way h.1 k)

  path_on : (object from : ℕ) (ways : List Way) (way : Way) (end : List PathNode) → Leads object ways from
      → path_along object (ways ++ way ∷ []) end ≡ path_along object ways (but_named (request.nodes from way.place way.locus) ++ end)
  path_on object from [] way end h = ap (λ (o : ℕ). but_named (request.nodes o way.place way.locus) ++ end) h
  path_on object from (w ∷ ways) way end h = ap (λ (l : List PathNode). but_named (request.nodes object w.place w.locus) ++ l) (path_on w.target from ways way end h.1)

  path_then : (object : ℕ) (ways : List Way) (ns end : List PathNode) → path_along object ways ns ++ end ≡ path_along object ways (ns ++ end)
  path_then object [] ns end = refl
  path_then object (way ∷ ways) ns end =
      append_assoc (but_named (request.nodes object way.place way.locus)) (path_along way.target ways ns) end
      ∙ ap (λ (l : List PathNode). but_named (request.nodes object way.place way.locus) ++ l) (path_then way.target ways ns end)

  -- one more step
  step_on : (object from : ℕ) (ways : List Way) (way : Way) → Leads object ways from → path_along object ways [] ++ but_named (request.nodes from way.place way.locus) ≡ path_along object (ways ++ way ∷ []) []
  step_on object from ways way h =
      let step = but_named (request.nodes from way.place way.locus) in
      path_then object ways [] step ∙ ap (path_along object ways) (sym (append-nil step)) ∙ sym (path_on object from ways way [] h)

  -- ---- the turns of a trace

  told_append : (x : Reached) (xs ys : Turns) → fold (onward request) x (xs ++ ys) ≡ fold (onward request) (fold (onward request) x xs) ys
  told_append x [] ys = refl
  told_append x (t ∷ xs) ys = told_append (onward request x t) xs ys

  mark_told : (x : Reached) (g : ℕ) (mark : Turns) (carried : ℕ) → Carried request g mark carried → fold (onward request) x mark ≡ x
  mark_told x g mark carried (inl h) = ap (λ (l : Turns). fold (onward request) x l) h.1
  mark_told x g mark carried (inr h) = ap (λ (l : Turns). fold (onward request) x l) h.2

  abbrev start : Reached
  start = at_object [] request.root

  -- what arrives at an object has followed references to it
  along : (steps : ℕ) (turns : Turns) (object carried : ℕ) (on : List ℕ) → Arrives request steps turns object carried on
      → (ways : List Way) × Leads request.root ways object × (fold (onward request) start turns ≡ at_object (path_along request.root ways []) object)
  along zero turns object carried on h = (
    [],
    sym h.1,
    ap (λ (l : Turns). fold (onward request) start l) h.0.4 ∙ mark_told start h.0.0 h.0.1 carried h.0.3 ∙ ap (λ (o : ℕ). at_object [] o) (sym h.1),
  )
  along (suc steps) turns object carried on (earlier, from, held, before, way, mark, visit, is_way, new, carries, turns_are, object_is, on_is) =
      let ih = along steps earlier from held before visit in
      let step = Free (Step way) in
      let ways = ih.0 ++ way ∷ [] in
      let path = path_along request.root ih.0 [] ++ but_named (request.nodes from way.place way.locus) in (
        ways,
        subst (λ (o : ℕ). Leads request.root ways o) (sym object_is) (leads_on request.root from ih.0 way ih.1 is_way),
        ap (λ (l : Turns). fold (onward request) start l) turns_are
            ∙ told_append start earlier (step ∷ mark)
            ∙ ap (λ (x : Reached). fold (onward request) x (step ∷ mark)) ih.2
            ∙ mark_told (at_object path way.target) (request.converted from way.place held) mark carried carries
            ∙ ap (λ (p : List PathNode). at_object p way.target) (step_on request.root from ih.0 way ih.1)
            ∙ ap (λ (o : ℕ). at_object (path_along request.root ways []) o) (sym object_is),
      )

  last_told : (x : Reached) (own : Own) (last : Turns) → OwnEnds own last → (f : LocalFailure) × FailsIn own f × (fold (onward request) x last ≡ onward request x (Free (Fail f)))
  last_told x (Plain fails) last e = (e.0, e.1, ap (λ (l : Turns). fold (onward request) x l) e.2)
  last_told x (InRanks lists) last e = (e.2, (e.0, e.1, e.3, e.4), ap (λ (l : Turns). fold (onward request) x l) e.5)

  end_told : (x : Reached) (object carried : ℕ) (last : Turns) → IsOwnEnd request object carried last
      → (h : ℕ) × (f : LocalFailure) × FailsIn (request.own object h) f × (fold (onward request) x last ≡ onward request x (Free (Fail f)))
  end_told x object carried last (h, turns, is_below, ends, last_is) =
      let k = last_told x (request.own object h) turns ends in
      (h, k.0, k.1, ap (λ (l : Turns). fold (onward request) x l) last_is ∙ k.2)

  -- a violation is that of a failure at the end of references that lead on from the root
  abbrev pub IsAlong : Violation → Type 0
  IsAlong v =
      (ways : List Way) × (last : ℕ) × (h : ℕ) × (f : LocalFailure)
      × Leads request.root ways last × FailsIn (request.own last h) f × (v ≡ failed_at ways last f)

  trace_along : (turns : Turns) → IsTrace request turns → IsAlong (violation_of request turns)
  trace_along turns (steps, first, object, carried, on, last, arrives, ends, turns_are) =
      let a = along steps first object carried on arrives in
      let x = at_object (path_along request.root a.0 []) object in
      let e = end_told x object carried last ends in (
        a.0,
        object,
        e.0,
        e.1,
        a.1,
        e.2,
        ap (λ (l : Turns). violation (fold (onward request) start l)) turns_are
            ∙ ap violation (told_append start first last ∙ ap (λ (y : Reached). fold (onward request) y last) a.2 ∙ e.3)
            ∙ ap (λ (p : List PathNode). record { path = p; node = e.1.node; value = value_at request object e.1.spot }) (path_then request.root a.0 [] (nodes_to request object e.1.spot)),
      )

  pub violation_along : (v : Violation) → IsViolation request v → IsAlong v
  violation_along v (turns, trace, spared, v_is) =
      let a = trace_along turns trace in
      (a.0, a.1, a.2, a.3, a.4, a.5, v_is ∙ a.6)
