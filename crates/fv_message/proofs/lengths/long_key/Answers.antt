use Rattle.std.proofs.Common.{◌≡◌, ◌<◌, ℕ, List, min, slice_index, length, true, MatchOption, subst, arith}
use Rattle.fv_graph.specs.Graph.{IsIn, next_of}
use Rattle.fv_graph.specs.Weight.{weight, own_of}
use Rattle.fv_message.specs.Measured.{own_len}
use Rattle.fv_message.specs.Table.{Messages}
use Rattle.fv_message.specs.Numbers.{text_at}
use Rattle.fv_message.specs.Reading.{is_template}
use Rattle.fv_message.proofs.Becoming.{long_found}
use Rattle.fv_message.proofs.Cycles.{edges_within}
use Rattle.fv_message.proofs.Weights.{AreOwnLens, long_of, of_long}
use Rattle.fv_message.proofs.lengths.long_key.Goals as goal

own_lens : (ms : Messages) (own : List ℕ) (key : ℕ) → key ≡ length ms
    → (length own ≡ key) × ((i : ℕ) → i < key → is_template (text_at ms i) ≡ true → slice_index own i ≡ own_len ms i) → AreOwnLens ms own
own_lens ms own key end h =
    subst (λ (n : ℕ). (length own ≡ n) × ((i : ℕ) → i < n → is_template (text_at ms i) ≡ true → slice_index own i ≡ own_len ms i)) end h

pub weigh-requires : goal.weigh-requires
weigh-requires c = record {
  within = edges_within c.args.messages.now c.args.edges.now c.requires.edges;
  each = omega (arith, c.deref.ensures.len, c.loop-key.invariant.0, c.requires.edges.0, c.loop-key.auto.key-end, c.loop-key-test.false, c.count-key-end.ensures);
  order = c.requires.order.part;
}

pub returns : goal.returns
returns c =
    let ms = c.args.messages.now in
    let edges = c.args.edges.now in
    let order = c.args.order.now in
    let table = c.in_ok-lens.lens.items in
    let own = own_lens ms c.loop-key.own.items c.loop-key.key (omega (arith, c.loop-key.auto.key-end, c.loop-key-test.false, c.count-key-end.ensures)) c.loop-key.invariant in
    let weights = subst (λ (own : List ℕ). (i : ℕ) → IsIn order i → slice_index table i ≡ min 65537 (weight (own_of own) (next_of edges) (length edges) i))
    c.deref.ensures.value c.in_ok-lens.ensures.weights in
    long_found ms order table c.first_above.result
    (long_of ms edges c.requires.edges c.loop-key.own.items own order table c.requires.order weights)
    (of_long ms edges c.requires.edges c.loop-key.own.items own order table c.requires.order weights)
    (subst (λ (t : List ℕ). MatchOption c.first_above.result ((i : ℕ) → IsIn order i → 65536 < slice_index t i → ⊥) (λ i. IsIn order i × (65536 < slice_index t i))) c.deref-2.ensures.value c.first_above.ensures)
