use Rattle.std.proofs.Common.{◌<◌, ℕ, [], length, option_map, option_and_then, subst, ◌∙◌}
use Rattle.std.specs.Option.{option_map_or}
use Rattle.std.proofs.lemmas.List.{length-map}
use Rattle.fv_local.specs.Reached.{AreReached, AreOfGroups, IsRanked, plain_groups, ranks_of, list_at}
use Rattle.fv_local.specs.TableView.{lists_view, rows_view, ranked_view}
use Rattle.fv_local.proofs.Rows.{one_pushed, one_longer, one_shown}
use Rattle.fv_local.proofs.reach.Reach.new.Goals as goal

pub loop-index-preserved : goal.loop-index-preserved
loop-index-preserved c =
    let ds = c.args.schema.now in
    let n = c.loop-index.index in
    let plain = c.loop-index.plain.items in
    let ranked = c.loop-index.ranked.items in
    let row = c.in_ok-of_groups.field-0 in
    let lists = c.in_ok-of_sequence.field-0 in
    let in_row : AreOfGroups ds n (lists_view row.items) =
    subst (λ (type : ℕ). AreOfGroups ds type (lists_view row.items)) c.uses_of-uses.ensures.type_id c.in_ok-of_groups.ensures in
    let in_ranks : IsRanked ds n (ranks_of ds n) (option_map (λ v. lists_view v.items) lists) =
    subst (λ (type : ℕ). IsRanked ds type (ranks_of ds type) (option_map (λ v. lists_view v.items) lists)) c.uses_of-uses.ensures.type_id c.in_ok-of_sequence.ensures in
    record {
      plain_long = one_longer plain c.push.new.self.items row n c.in_ok-push.ensures.items c.loop-index.invariant.plain_long;
      ranked_long = one_longer ranked c.push-in-loop-index.new.self.items lists n c.in_ok-push-2.ensures.items c.loop-index.invariant.ranked_long;
      plain = one_pushed (λ type o. (g : ℕ) → g < length ds.groups → AreReached ds type (plain_groups ds type g) (option_map_or (λ r. list_at r g) o []))
          (rows_view plain) (rows_view c.push.new.self.items) (lists_view row.items) n (one_shown (λ r. lists_view r.items) plain c.push.new.self.items row c.in_ok-push.ensures.items)
          (length-map plain (λ r. lists_view r.items) ∙ c.loop-index.invariant.plain_long) c.loop-index.invariant.plain in_row;
      ranked = one_pushed (λ type o. IsRanked ds type (ranks_of ds type) (option_and_then (λ ls. ls) o))
          (ranked_view ranked) (ranked_view c.push-in-loop-index.new.self.items) (option_map (λ v. lists_view v.items) lists) n
          (one_shown (option_map (λ r. lists_view r.items)) ranked c.push-in-loop-index.new.self.items lists c.in_ok-push-2.ensures.items)
          (length-map ranked (option_map (λ r. lists_view r.items)) ∙ c.loop-index.invariant.ranked_long) c.loop-index.invariant.ranked in_ranks;
    }
