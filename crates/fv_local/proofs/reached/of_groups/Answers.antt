use Rattle.std.proofs.Common.{◌≡◌, [], Bool, subst, ◌∙◌, is_some}
use Rattle.std.specs.Option.{option_map_or}
use Rattle.std.proofs.lemmas.List.{length-map}
use Rattle.fv_declare_schema.specs.Tables.{indices}
use Rattle.fv_local.specs.Below.{groups_at}
use Rattle.fv_local.specs.Reached.{AreReached, plain_groups, ranks_of}
use Rattle.fv_local.specs.TableView.{lists_view}
use Rattle.fv_local.proofs.Rows.{one_pushed, one_longer, one_shown, is_some_mapped}
use Rattle.fv_local.proofs.reached.of_groups.Goals as goal

pub loop-index-preserved : goal.loop-index-preserved
loop-index-preserved c =
    let ds = c.args.schema.now in
    let type = c.args.uses.type_id.index in
    let n = c.loop-index.index in
    let row = c.loop-index.row.items in
    let made = c.in_ok-reached.field-0 in
    let redefined : c.is_some-redefined.result ≡ is_some (ranks_of ds type) =
    c.is_some-redefined.ensures ∙ is_some_mapped (λ g. indices g.now) c.sequence_of.result (ranks_of ds type) c.sequence_of.ensures in
    let here : AreReached ds type (plain_groups ds type n) made.items =
    subst (λ (b : Bool). AreReached ds type (groups_at ds.groups b n) made.items) redefined c.in_ok-reached.ensures in
    record {
      long = one_longer row c.push.new.self.items made n c.in_ok-push.ensures.items c.loop-index.invariant.long;
      each = one_pushed (λ g o. AreReached ds type (plain_groups ds type g) (option_map_or (λ is. is) o [])) (lists_view row) (lists_view c.push.new.self.items) made.items n
          (one_shown (λ v. v.items) row c.push.new.self.items made c.in_ok-push.ensures.items) (length-map row (λ v. v.items) ∙ c.loop-index.invariant.long) c.loop-index.invariant.each here;
    }
