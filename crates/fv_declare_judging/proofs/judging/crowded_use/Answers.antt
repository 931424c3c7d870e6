use Rattle.std.proofs.Common.{◌≡◌, ◌+◌, ◌≤◌, ◌++◌, ◌∷◌, [], length, map, min, not, is_some, take, sym, ap, ◌∙◌, arith}
use Rattle.std.proofs.lemmas.List.{length-map}
use Rattle.fv_constraint.specs.Meanings.{meant_by}
use Rattle.fv_constraint_tree.specs.Trees.{size}
use Rattle.fv_declare_draft.specs.UseViews.{use_view}
use Rattle.fv_declare_schema.specs.Declarations.{count_nodes}
use Rattle.fv_declare_judging.specs.Used.{used}
use Rattle.fv_declare_judging.proofs.Anys.{use_turn}
use Rattle.fv_declare_judging.proofs.Counts.{own_message, zip_long, taken_long, one_more, count_more, found_more, capped, few}
use Rattle.fv_datum.proofs.Bools.{not_false}
use Rattle.fv_datum.proofs.Bools.{or_left, or_right}
use Rattle.fv_declare_judging.proofs.judging.crowded_use.Goals as goal

pub size_of-requires : goal.size_of-requires
size_of-requires c =
    let x = c.index-uses-number.result in
    not_false (is_some (meant_by c.args.composition.now x.constraint.now)) (or_left _ _ (sym (use_turn (λ u. not (is_some (meant_by c.args.composition.now u.draft.constraint))) c.args.uses.now c.loop-number.number x (omega arith) c.index-uses-number.is) ∙ c.loop-number.invariant.known))

pub overflow_add-count : goal.overflow_add-count
overflow_add-count c =
    let x = c.index-uses-number.result in
    let t = c.size_of.ensures.tree (own_message x) x.given.now in
    let counted = c.loop-number.invariant.counted in
    let one : c.loop-number.count ≤ 1025 = few 1025 _ _ counted.2 in
    let other : c.size_of.result ≤ 1025 = few 1025 _ _ (c.size_of.ensures.size (own_message x) x.given.now t.0 t.1) in
    omega arith

pub loop-number-preserved : goal.loop-number-preserved
loop-number-preserved c =
    let ds = c.args.composition.now in
    let x = c.index-uses-number.result in
    let xs = c.args.uses.now in
    let i = c.loop-number.number in
    let t = c.size_of.ensures.tree (own_message x) x.given.now in
    let counted = c.loop-number.invariant.counted in
    let ts = counted.0 in
    let count : c.min-count.result ≡ min 1025 (count_nodes ts + size t.0) = c.min-count.ensures ∙ capped 1025 _ _ _ _ counted.2 (c.size_of.ensures.size (own_message x) x.given.now t.0 t.1) in
    let long : length ts ≡ i = zip_long _ (map used (map use_view (take i xs))) ts counted.1 ∙ length-map (map use_view (take i xs)) used ∙ length-map (take i xs) use_view ∙ taken_long xs i (omega arith) in
    record {
      counted = (
        ts ++ t.0 ∷ [],
        one_more ds xs i x ts t.0 (omega arith) c.index-uses-number.is counted.1 t.1,
        count ∙ ap (min 1025) (sym (count_more ts t.0)),
        c.first_beyond-crowded.ensures ∙ found_more _ _ i ts t.0 counted.3 count long,
      );
      known = or_right (not (is_some (meant_by ds x.constraint.now))) _ (sym (use_turn (λ u. not (is_some (meant_by ds u.draft.constraint))) xs i x (omega arith) c.index-uses-number.is) ∙ c.loop-number.invariant.known);
    }
