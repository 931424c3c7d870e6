use Rattle.std.proofs.Common.{◌≡◌, map, ap, sym, subst, ◌∙◌, ◌<◌, ℕ, List, Vec, length, arith}
use Rattle.std.proofs.lemmas.List.{get_or-replicate}
use Rattle.std.specs.declared.alloc.Global.{Global}
use Rattle.fv_graph.specs.Graph.{next_of}
use Rattle.fv_graph.specs.Graph as graph
use Rattle.fv_graph.specs.Weight.{own_of}
use Rattle.fv_constraint.specs.Composed.{ComposesItself}
use Rattle.fv_constraint.specs.Meanings.{composes_unknown}
use Rattle.fv_constraint.specs.Numbered.{IsNumbered}
use Rattle.fv_constraint.proofs.Cycles.{cyclic_in, cyclic_out}
use Rattle.fv_constraint.proofs.Unfolded.{are_within, numbered}
use Rattle.fv_constraint.proofs.composition.Composition.new.Goals as goal

pub weigh_all-requires-clause-within : goal.weigh_all-requires-clause-within
weigh_all-requires-clause-within c = rw c.deref.ensures.value (are_within c.in_ok-numbers.numbers c.in_ok-edges.edges.items c.in_ok-edges.ensures)

pub returns-in_default : goal.returns-in_default
returns-in_default c =
    let cycle : graph.IsCyclic (next_of c.deref.result.now) = rw c.in_default.is at c.in_ok-sizes.ensures in
    subst ComposesItself c.in_ok-numbers.ensures (cyclic_out c.in_ok-numbers.numbers c.deref.result.now (ap (map (λ nodes. nodes.items)) c.deref.ensures.value ∙ c.in_ok-edges.ensures) cycle)

pub invariant_of-result : goal.invariant_of-result
invariant_of-result c =
    let ds = c.in_ok-numbers.numbers in
    let are = ap (map (λ nodes. nodes.items)) c.deref.ensures.value ∙ c.in_ok-edges.ensures in
    let found = rw c.in-Some.is at c.in_ok-sizes.ensures in
    let known = ap composes_unknown c.in_ok-numbers.ensures ∙ c.requires in
    let ones : (i : ℕ) → i < length c.deref.result.now → own_of c.deref-2.result.now i ≡ 1 =
    λ i less. ap (λ own. own_of own i) (c.deref-2.ensures.value ∙ c.in_ok-own.ensures.items_if_clones_equal (λ y e. e))
    ∙ get_or-replicate c.len.result i 1 0 (omega (arith, less, ap length c.deref.ensures.value, c.len.ensures)) in
    subst (λ (edges : List (Vec ℕ Global)). IsNumbered ds (map (λ nodes. nodes.items) edges) c.in-Some.sizes.items) c.deref.ensures.value
    (numbered ds c.deref.result.now c.deref-2.result.now c.in-Some.sizes.items are known ones found.0 found.1)

pub returns : goal.returns
returns c =
    let are = ap (map (λ nodes. nodes.items)) c.deref.ensures.value ∙ c.in_ok-edges.ensures in
    let found = rw c.in-Some.is at c.in_ok-sizes.ensures in
    (c.in_ok-numbers.ensures, λ cycle. found.0 (cyclic_in c.in_ok-numbers.numbers c.deref.result.now are (subst ComposesItself (sym c.in_ok-numbers.ensures) cycle)))
