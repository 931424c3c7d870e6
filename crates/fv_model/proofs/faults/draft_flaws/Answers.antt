use Rattle.std.proofs.Common.{map}
use Rattle.fv_model.specs.Ascents.{Ascends}
use Rattle.fv_model.specs.Reading.{object_types, has_flaw}
use Rattle.fv_model.specs.Views.{types_view, part_view}
use Rattle.fv_model.proofs.Anys.{part_turn, each_turn}
use Rattle.fv_bundle.proofs.Telling.{Joins, telling_more}
use Rattle.fv_model.proofs.faults.draft_flaws.Goals as goal

pub loop-part-preserved : goal.loop-part-preserved
loop-part-preserved c =
    let ts = types_view c.args.types.now in
    let types = object_types (map part_view c.args.draft.now.objects.items) in
    let ps = c.deref-part-items.result.now in
    let i = c.loop-part.part-index in
    let p = c.part-item.result in
    let joined = c.and-flaws.ensures in
    let joins : Joins c.loop-part.flaws c.part_flaws.result c.and-flaws.result = record { undeclared = joined.undeclared; dangling = joined.dangling; stray = joined.stray; large = joined.large } in
    record {
      told = telling_more c.loop-part.flaws c.part_flaws.result c.and-flaws.result types (λ flaw. has_flaw flaw ts (part_view p)) _ _ _ joins c.part_flaws.ensures.told
          (λ flaw. part_turn (has_flaw flaw ts) ps i p c.loop-part-test.true c.part-item.is) c.loop-part.invariant.told;
      ascending = λ rest. c.loop-part.invariant.ascending (each_turn (Ascends ts) ps i p c.loop-part-test.true c.part-item.is c.part_flaws.ensures.ascending rest);
    }
