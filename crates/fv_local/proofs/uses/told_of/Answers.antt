use Rattle.std.proofs.Common.{◌≡◌, ◌<◌, ◌++◌, List, ℕ, map, length, drop, sym, ap, subst, ◌∙◌, arith}
use Rattle.std.proofs.lemmas.Int.{to_z-of_z}
use Rattle.std.proofs.lemmas.List.{take-append-drop}
use mir.Syntax.{w64}
use Rattle.fv_declare_schema.specs.PlacedView.{placed_view}
use Rattle.fv_declare_schema.specs.declared.place.Placed.{Placed}
use Rattle.fv_local.specs.Told.{told_view, AreRun}
use Rattle.fv_bundle.specs.Views.{object_view}
use Rattle.fv_declare_schema.specs.PlaceViews.{place_view}
use Rattle.fv_local.proofs.First.{behind, run_more}
use Rattle.fv_local.proofs.Found.{each_found}
use Rattle.fv_local.proofs.uses.told_of.Goals as goal

pub loop-rest-preserved : goal.loop-rest-preserved
loop-rest-preserved g c =
    let m = g.R.RuleSet.meaning in
    let os = c.args.occurrences.now in
    let n = c.run_length.result in
    let rest = c.loop-rest.rest.now in
    let run = c.split_at.result.0.now in
    let after = c.split_at.result.1.now in
    let split : rest ≡ run ++ after = sym (take-append-drop n rest) ∙ ap (λ (l : List ℕ). l ++ drop n rest) (sym c.split_at.ensures.front) ∙ ap (λ (l : List ℕ). run ++ l) (sym c.split_at.ensures.back) in
    let long : length run ≡ n = c.split_at.ensures.front_len in
    let least : 0 < n = c.run_length.ensures.some in
    let are : AreRun (map placed_view os) run = subst (AreRun (map placed_view os)) (sym c.split_at.ensures.front) c.run_length.ensures.run in
    rw (to_z-of_z w64 c.args.now c.ranges.now) (record {
      within = behind (λ i. i < length os) run after rest split c.loop-rest.invariant.within;
      told = run_more m c.args.now (object_view c.args.object.now) os c.args.uses.now rest run after c.index-occurrences-run.result (place_view c.place.result.now) (map told_view c.loop-rest.failures.items) _
          c.loop-rest.invariant.within split (omega (arith, long, least)) are (c.place.ensures ∙ ap (λ (o : Placed). (placed_view o).place) c.index-occurrences-run.is)
          (rw (to_z-of_z w64 c.args.now c.ranges.now) at c.in_ok-add_run.ensures) (rw (to_z-of_z w64 c.args.now c.ranges.now) at c.loop-rest.invariant.told);
    })

pub returns-clause-found : goal.returns-clause-found
returns-clause-found g c =
    let told = rw (to_z-of_z w64 c.args.now c.ranges.now) at c.loop-rest.invariant.told in
    each_found g.R.RuleSet.meaning c.args.now (object_view c.args.object.now) (map placed_view c.args.occurrences.now) told.0 c.loop-rest.failures.items (λ x h. (told.2 x).0 h)
