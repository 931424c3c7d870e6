use Rattle.std.proofs.Common.{◌<◌, inl, inr, ℕ, List, Bool, length, sym, subst, arith}
use Rattle.fv_graph.specs.Graph.{next_of, IsIn, IsCyclic, MeetsCycle}
use Rattle.fv_graph.proofs.Moves.{is_below}
use Rattle.fv_graph.proofs.Chains.{meets_own}
use Rattle.fv_ring.specs.Rings.{IsFlagged, AreFlagged}
use Rattle.fv_ring.proofs.Links.{flagged_below}
use Rattle.fv_ring.proofs.Meets.{meets_on, leads_below, cyclic_same, ring_same}
use Rattle.fv_ring.proofs.finding.ring.Goals as goal

pub returns-in-None : goal.returns-in-None
returns-in-None c next same cycle =
    let edges = c.args.edges.now in
    let own = next_of edges in
    let order = c.in_ok-order.order.items in
    let flags : AreFlagged (length edges) order c.in_ok-flags.flags.items = subst (λ (ns : List ℕ). AreFlagged (length edges) ns c.in_ok-flags.flags.items) c.deref.ensures.value c.in_ok-flags.ensures in
    let there = cyclic_same next own (λ i. sym (same i)) cycle in
    let less : there.0 < length edges = leads_below own (length edges) there.0 there.0 there.1.0 (is_below edges c.requires) there.1.1 in
    let out : IsIn order there.0 → ⊥ = λ h. (c.in_ok-order.ensures.part.0 there.0 h).1 (meets_own own there.0 there.1) in
    c.in-None.ensures there.0 (subst (λ (fs : List Bool). IsFlagged fs there.0) (sym c.deref-2.ensures.value) (flags.2 there.0 less out))

pub returns : goal.returns
returns c next same =
    let edges = c.args.edges.now in
    let own = next_of edges in
    let order = c.in_ok-order.order.items in
    let i = c.in-Some.start in
    let flags : AreFlagged (length edges) order c.in_ok-flags.flags.items = subst (λ (ns : List ℕ). AreFlagged (length edges) ns c.in_ok-flags.flags.items) c.deref.ensures.value c.in_ok-flags.ensures in
    let is : IsFlagged c.in_ok-flags.flags.items i = subst (λ (fs : List Bool). IsFlagged fs i) c.deref-2.ensures.value c.in-Some.ensures in
    let less : i < length edges = let within = flagged_below c.in_ok-flags.flags.items i is in omega (arith, within, flags.0) in
    let cycle : IsCyclic own = elim (c.in_ok-order.ensures.others i less) [ inl among ↦ absurd (flags.1 i is among) | inr meets ↦ (meets.0, meets.2) ] in
    (cyclic_same own next same cycle, ring_same own next same c.in_ok-ring_behind-in-Some.field-0.items c.in_ok-ring_behind-in-Some.ensures)

pub ring_behind-requires-clause-on : goal.ring_behind-requires-clause-on
ring_behind-requires-clause-on c i is =
    let edges = c.args.edges.now in
    let next = next_of edges in
    let order = c.in_ok-order.order.items in
    let flags : AreFlagged (length edges) order c.deref-in-Some.result.now =
    subst (λ (fs : List Bool). AreFlagged (length edges) order fs) (sym c.deref-in-Some.ensures.value) (subst (λ (ns : List ℕ). AreFlagged (length edges) ns c.in_ok-flags.flags.items) c.deref.ensures.value c.in_ok-flags.ensures) in
    let within : i < length c.deref-in-Some.result.now = flagged_below c.deref-in-Some.result.now i is in
    let less : i < length edges = omega (arith, within, flags.0) in
    let meets : MeetsCycle next i = elim (c.in_ok-order.ensures.others i less) [ inl among ↦ absurd (flags.1 i is among) | inr meets ↦ meets ] in
    let on = meets_on next i meets in
    let there = (is_below edges c.requires i on.0 on.1).1 in
    (on.0, on.1, flags.2 on.0 there (λ h. (c.in_ok-order.ensures.part.0 on.0 h).1 on.2))
