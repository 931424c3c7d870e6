use Rattle.std.proofs.Common.{ap, ◌∙◌, arith}
use Rattle.fv_declare_schema.specs.PlacedView.{placed_view}
use Rattle.fv_declare_schema.specs.declared.place.Placed.{Placed}
use Rattle.fv_declare_schema.specs.PlaceViews.{place_view}
use Rattle.fv_local.proofs.First.{run_longer, is_run}
use Rattle.fv_local.proofs.uses.run_length.Goals as goal

pub loop-count-preserved : goal.loop-count-preserved
loop-count-preserved c = record {
  some = omega arith;
  within = omega arith;
  same = run_longer c.args.occurrences.now c.args.uses.now c.loop-count.count c.index-occurrences-uses-in-loop-count.result _ (place_view c.place.result.now) c.requires.within (omega arith) c.loop-count.invariant.same
      (c.place.ensures ∙ ap (λ (o : Placed). (placed_view o).place) c.index-occurrences-uses-in-loop-count.is) (c.is_same.ensures.0 c.if-is_same.true);
}

pub returns-else-is_same-clause-run : goal.returns-else-is_same-clause-run
returns-else-is_same-clause-run c =
    is_run c.args.occurrences.now c.args.uses.now c.loop-count.count c.index-occurrences-uses.result (place_view c.place-place.result.now) c.requires.within c.requires.some
    (c.place-place.ensures ∙ ap (λ (o : Placed). (placed_view o).place) c.index-occurrences-uses.is) c.loop-count.invariant.same

pub returns-after-loop-count-clause-run : goal.returns-after-loop-count-clause-run
returns-after-loop-count-clause-run c =
    is_run c.args.occurrences.now c.args.uses.now c.loop-count.count c.index-occurrences-uses.result (place_view c.place-place.result.now) c.requires.within c.requires.some
    (c.place-place.ensures ∙ ap (λ (o : Placed). (placed_view o).place) c.index-occurrences-uses.is) c.loop-count.invariant.same
