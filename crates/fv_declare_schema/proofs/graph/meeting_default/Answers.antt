use Rattle.std.proofs.Common.{◌≡◌, ℕ, List, Bool, Vec, length, sym, subst, ◌↔◌, true}
use Rattle.std.specs.declared.alloc.Global.{Global}
use Rattle.std.proofs.lemmas.Result.{IfOk-weaker}
use Rattle.fv_graph.specs.Graph.{IsBelow, next_of}
use Rattle.fv_graph.proofs.Moves.{is_below}
use Rattle.fv_declare_schema.specs.Marked.{flag_of, AreReaching, AreMeetingIn}
use Rattle.fv_declare_schema.proofs.Reaching.{meeting}
use Rattle.fv_declare_schema.proofs.graph.meeting_default.Goals as goal

pub returns : goal.returns
returns c =
    let inh = c.args.inheritance.now in
    let mem = c.args.expansion.now in
    let count = c.args.count in
    let below : IsBelow (next_of inh) count = subst (λ (n : ℕ). IsBelow (next_of inh) n) c.requires.inheritance (is_below inh c.reaching.ensures.within) in
    let one : (k : ℕ) → (flag_of c.deref.result.now k ≡ true) ↔ (k ≡ 0) =
    λ k. subst (λ (l : List Bool). (flag_of l k ≡ true) ↔ (k ≡ 0)) (sym c.deref.ensures.value) (c.in_ok-only.ensures.one k) in
    let first : AreReaching (next_of inh) count c.deref.result.now c.in_ok-inheriting.inheriting.items =
    subst (λ (n : ℕ). AreReaching (next_of inh) n c.deref.result.now c.in_ok-inheriting.inheriting.items) c.requires.inheritance c.in_ok-inheriting.ensures.flags in
    IfOk-weaker c.reaching-2.result
    (λ (flags : Vec Bool Global). AreReaching (next_of mem) (length mem) c.deref-2.result.now flags.items)
    (λ (flags : Vec Bool Global). AreMeetingIn (next_of inh) (next_of mem) count flags.items)
    (λ flags are. meeting (next_of inh) (next_of mem) count c.deref.result.now c.in_ok-inheriting.inheriting.items flags.items c.requires.some below one first
    (subst (λ (l : List Bool). AreReaching (next_of mem) count l flags.items) c.deref-2.ensures.value
    (subst (λ (n : ℕ). AreReaching (next_of mem) n c.deref-2.result.now flags.items) c.requires.expansion are)))
    c.reaching-2.ensures.flags
