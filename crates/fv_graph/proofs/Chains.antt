-- Chains of edges, and lists that are closed under edges.
use Rattle.std.proofs.Common.{◌≡◌, ℕ, List, [], ◌∷◌, ◌++◌, reverse, inl, inr, refl, sym, ap, subst, zero, suc, ◌∙◌, append_assoc}
use Rattle.std.proofs.lemmas.List.{reverse-append, reverse-reverse}
use Rattle.fv_graph.specs.Graph.{IsIn, AllDiffer, LeadsIn, Leads, MeetsCycle, ComesAfter}
use Rattle.fv_graph.specs.Search.{Follows}
use Rattle.fv_graph.proofs.Lists.{from_reverse, reverse-cons}

leads_on_in : (next : ℕ → List ℕ) (more i k j : ℕ) → LeadsIn next more i k → IsIn (next k) j → LeadsIn next (suc more) i j
leads_on_in next zero i k j l e = (k, l, e)
leads_on_in next (suc more) i k j l e = (l.0, l.1, leads_on_in next more l.0 k j l.2 e)

pub leads_on : (next : ℕ → List ℕ) (i k j : ℕ) → Leads next i k → IsIn (next k) j → Leads next i j
leads_on next i k j l e = (suc l.0, leads_on_in next l.0 i k j l.1 e)

pub closed : (next : ℕ → List ℕ) (done : List ℕ) (i j : ℕ) → Follows next done → IsIn done i → IsIn (next i) j → IsIn done j
closed next [] i j f h e = absurd h
closed next (x ∷ done) i j f (inl q) e = inr (f.0 j (subst (λ (w : ℕ). IsIn (next w) j) (sym q) e))
closed next (x ∷ done) i j f (inr h) e = inr (closed next done i j f.1 h e)

closed_on : (next : ℕ → List ℕ) (done : List ℕ) (more i j : ℕ) → Follows next done → IsIn done i → LeadsIn next more i j → IsIn done j
closed_on next done zero i j f h l = closed next done i j f h l
closed_on next done (suc more) i j f h l = closed_on next done more l.0 j f (closed next done i l.0 f h l.1) l.2

-- from the first edge on all stands earlier
lands : (next : ℕ → List ℕ) (done : List ℕ) (more i j : ℕ) → ((k : ℕ) → IsIn (next i) k → IsIn done k) → Follows next done → LeadsIn next more i j → IsIn done j
lands next done zero i j all f l = all j l
lands next done (suc more) i j all f l = closed_on next done more l.0 j f (all l.0 l.1) l.2

pub no_return : (next : ℕ → List ℕ) (done : List ℕ) (more i : ℕ) → Follows next done → AllDiffer done → IsIn done i → LeadsIn next more i i → ⊥
no_return next [] more i f d h l = h
no_return next (x ∷ done) more i f d (inl e) l =
    d.0 (subst (λ (w : ℕ). IsIn done w) (sym e) (lands next done more i i (λ k h. f.0 k (subst (λ (w : ℕ). IsIn (next w) k) (sym e) h)) f.1 l))
no_return next (x ∷ done) more i f d (inr h) l = no_return next done more i f.1 d.1 h l

earlier : (next : ℕ → List ℕ) (after before : List ℕ) (i j : ℕ) → Follows next (after ++ i ∷ before) → IsIn (next i) j → IsIn before j
earlier next [] before i j f h = f.0 j h
earlier next (x ∷ after) before i j f h = earlier next after before i j f.1 h

pub comes_after : (next : ℕ → List ℕ) (done : List ℕ) → Follows next done → ComesAfter next (reverse done)
comes_after next done f before i after e j h =
    let q : done ≡ reverse after ++ i ∷ reverse before =
    sym (reverse-reverse done) ∙ ap (λ (l : List ℕ). reverse l) e ∙ reverse-append before (i ∷ after) ∙ ap (λ (l : List ℕ). l ++ reverse before) (reverse-cons i after) ∙ append_assoc (reverse after) (i ∷ []) (reverse before) in
    from_reverse before j (earlier next (reverse after) (reverse before) i j (subst (λ (l : List ℕ). Follows next l) q f) h)

-- a node on a cycle meets one
pub meets_own : (next : ℕ → List ℕ) (i : ℕ) → Leads next i i → MeetsCycle next i
meets_own next i l = (i, inl refl, l)

-- an edge and then a chain
pub leads_from : (next : ℕ → List ℕ) (i k j : ℕ) → IsIn (next i) k → Leads next k j → Leads next i j
leads_from next i k j e l = (suc l.0, (k, e, l.1))

-- a node whose edge leads to one that meets a cycle
pub meets_from : (next : ℕ → List ℕ) (i k : ℕ) → IsIn (next i) k → MeetsCycle next k → MeetsCycle next i
meets_from next i k e m = elim m.1 [
  | inl q ↦ (m.0, inr (0, subst (λ (w : ℕ). IsIn (next i) w) q e), m.2)
  | inr l ↦ (m.0, inr (leads_from next i k m.0 e l), m.2)
]

pub no_meeting : (next : ℕ → List ℕ) (done : List ℕ) (i : ℕ) → Follows next done → AllDiffer done → IsIn done i → MeetsCycle next i → ⊥
no_meeting next done i f d h m = no_return next done m.2.0 m.0 f d there m.2.1
  where
    there : IsIn done m.0
    there = elim m.1 [ inl q ↦ subst (λ (w : ℕ). IsIn done w) q h | inr l ↦ closed_on next done l.0 i m.0 f h l.1 ]
