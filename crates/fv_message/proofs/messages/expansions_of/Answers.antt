use Rattle.std.proofs.Common.{◌≡◌, ◌∙◌, List, ℕ, length, Vec, false, Option, Some, None, is_some, MatchOption, refl, sym, ap, subst, arith}
use Rattle.std.specs.declared.alloc.Global.{Global}
use Rattle.fv_graph.specs.Graph.{AreWithin, IsBelow, IsCyclic, IsIn, IsOrder, IsPartOrder, IsRestOrder, next_of}
use Rattle.fv_message.specs.Judged.{HasLongKey}
use Rattle.fv_message.specs.Numbers.{next_keys}
use Rattle.fv_message.specs.Table.{Messages}
use Rattle.fv_message.specs.Whereabouts.{IsLongAt}
use Rattle.fv_message.proofs.Becoming.{long_key}
use Rattle.fv_message.proofs.Circles.{circular_of, cyclic_of}
use Rattle.fv_message.proofs.Cycles.{edges_within, cycle_found, none_found}
use Rattle.fv_message.proofs.Keys.{next_below}
use Rattle.fv_message.proofs.messages.expansions_of.Goals as goal

-- what was ordered, of the edges themselves
ordered : (seen edges : List (Vec ℕ Global)) (order : List ℕ) → seen ≡ edges → IsRestOrder (next_of seen) (length seen) order → IsRestOrder (next_of edges) (length edges) order
ordered seen edges order same rest = subst (λ (l : List (Vec ℕ Global)). IsRestOrder (next_of l) (length l) order) same rest

-- an order of all keys, none of which meets a cycle
whole_order : (next : ℕ → List ℕ) (n m : ℕ) (order seen : List ℕ) → m ≡ n → seen ≡ order → (IsCyclic next → ⊥) × IsOrder next n order → IsPartOrder next m seen
whole_order next n m order seen count same h =
    subst (λ (k : ℕ). IsPartOrder next k seen) (sym count)
    (subst (λ (l : List ℕ). IsPartOrder next n l) (sym same) ((λ i is. ((h.1.1 i).0 is, λ meets. h.0 (meets.0, meets.2))), h.1.2))

-- no key's text becomes too long where none was found
small_of : (ms : Messages) (found : Option ℕ) → found ≡ None → MatchOption found (HasLongKey ms → ⊥) (IsLongAt ms) → HasLongKey ms → ⊥
small_of ms found none h = subst (λ (o : Option ℕ). MatchOption o (HasLongKey ms → ⊥) (IsLongAt ms)) none h

none_there : {X : Type 0} (o : Option X) → is_some o ≡ false → o ≡ None
none_there None e = refl
none_there (Some x) e = absurd (cc)

pub order_rest-requires : goal.order_rest-requires
order_rest-requires c =
    subst (λ (l : List (Vec ℕ Global)). AreWithin l) (sym c.deref.ensures.value) (edges_within c.args.keys.now c.in_ok-edges.edges.items c.in_ok-edges.ensures)

pub returns-in-Some-clause-judged : goal.returns-in-Some-clause-judged
returns-in-Some-clause-judged c =
    let ms = c.args.keys.now in
    long_key ms c.in-Some.key (subst (λ (o : Option ℕ). MatchOption o (HasLongKey ms → ⊥) (IsLongAt ms)) c.in-Some.is c.in_ok-key.ensures)

pub returns-then-len-clause-judged : goal.returns-then-len-clause-judged
returns-then-len-clause-judged c =
    let edges = c.in_ok-edges.edges.items in
    let order = c.in_ok-order.order.items in
    let spelt : is_some c.args.misspelt ≡ false = sym c.is_some.ensures ∙ c.if-is_some.false in (
      small_of c.args.keys.now c.in_ok-key.field-0 c.in_default.is c.in_ok-key.ensures,
      spelt,
      circular_of c.args.keys.now (cycle_found c.args.keys.now edges order c.in_ok-edges.ensures (c.requires (none_there c.args.misspelt spelt)) (ordered c.deref.result.now edges order c.deref.ensures.value c.in_ok-order.ensures)
          (omega (arith, c.len.ensures, c.len-2.ensures, c.if-len.true))),
    )

pub table-requires-clause-within : goal.table-requires-clause-within
table-requires-clause-within c =
    subst (λ (n : ℕ). IsBelow (next_keys c.args.keys.now) n) (sym (c.len-3.ensures ∙ sym c.deref.ensures.len ∙ ap length c.deref.ensures.value ∙ c.in_ok-edges.ensures.0)) (next_below c.args.keys.now)

pub table-requires-clause-order : goal.table-requires-clause-order
table-requires-clause-order c =
    let edges = c.in_ok-edges.edges.items in
    let order = c.in_ok-order.order.items in
    whole_order (next_keys c.args.keys.now) (length c.args.keys.now) c.len-3.result order c.deref-4.result.now (c.len-3.ensures ∙ sym c.deref.ensures.len ∙ ap length c.deref.ensures.value ∙ c.in_ok-edges.ensures.0) c.deref-4.ensures.value
    (none_found c.args.keys.now edges order c.in_ok-edges.ensures (c.requires (none_there c.args.misspelt (sym c.is_some.ensures ∙ c.if-is_some.false))) (ordered c.deref.result.now edges order c.deref.ensures.value c.in_ok-order.ensures)
    (omega (arith, c.len.ensures, c.len-2.ensures, c.if-len.false)))

pub returns-clause-judged : goal.returns-clause-judged
returns-clause-judged c =
    let edges = c.in_ok-edges.edges.items in
    let order = c.in_ok-order.order.items in
    let whole = none_found c.args.keys.now edges order c.in_ok-edges.ensures (c.requires (none_there c.args.misspelt (sym c.is_some.ensures ∙ c.if-is_some.false))) (ordered c.deref.result.now edges order c.deref.ensures.value c.in_ok-order.ensures)
    (omega (arith, c.len.ensures, c.len-2.ensures, c.if-len.false)) in (
      (
        c.in_ok-table.ensures.len ∙ c.len-3.ensures ∙ sym c.deref.ensures.len ∙ ap length c.deref.ensures.value ∙ c.in_ok-edges.ensures.0,
        λ i d less. c.in_ok-table.ensures.right i d (subst (λ (l : List ℕ). IsIn l i) (sym c.deref-4.ensures.value) ((whole.1.1 i).1 less)),
      ),
      record { small = small_of c.args.keys.now c.in_ok-key.field-0 c.in_default.is c.in_ok-key.ensures; spelt = sym c.is_some.ensures ∙ c.if-is_some.false; no_cycle = λ circular. whole.0 (cyclic_of c.args.keys.now circular) },
    )
