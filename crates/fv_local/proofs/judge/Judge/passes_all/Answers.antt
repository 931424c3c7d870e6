use Rattle.std.proofs.Common.{◌≡◌, ℕ, List, map, get_or, false, subst, rules}
use Rattle.std.proofs.lemmas.Int.{to_z-of_z}
use Rattle.std.proofs.lemmas.List.{take_all}
use Rattle.std.specs.List.{All}
use mir.Val.{SFits}
use mir.Syntax.{w64}
use Rattle.fv_datum.specs.View.{view}
use Rattle.fv_datum.specs.declared.datum.Datum.{Datum}
use Rattle.fv_declare_schema.specs.PlacedView.{placed_view}
use Rattle.fv_constraint_tree.specs.Nodes.{Node}
use Rattle.fv_constraint_tree.specs.Reports.{is_bad}
use Rattle.fv_constraint_tree.specs.Says.{of_datum, refuses}
use Rattle.fv_constraint_tree.specs.Trees.{Tree}
use Rattle.fv_local.specs.Told.{picked}
use Rattle.fv_local.proofs.Passing.{Passes, Good, passes_more}
use Rattle.fv_local.proofs.Picked.{asked_at}
use Rattle.fv_local.proofs.judge.Judge.passes_all.Goals as goal

pub loop-index-preserved : goal.loop-index-preserved
loop-index-preserved g c =
    let os = c.args.self.now.occurrences.now in
    let asked = c.args.self.now.asked.now in
    let u = placed_view (get_or os (get_or asked c.loop-index.index-index 0) c.index-self-index.result) in
    let m = g.R.RuleSet.meaning in
    let now = c.args.self.now.moment in
    let fits_now : SFits w64 now = search rules in
    let there = asked_at os asked c.loop-index.index-index c.index-self-index.result c.requires.within (search) in
    let told : All (λ (d : Datum). is_bad (refuses m now (of_datum (view d))) c.occurrence-occurrence.result.now ≡ false) c.args.data.now =
    rw (to_z-of_z w64 now fits_now) at c.in_ok-passes_all.ensures m c.if-not-branch.false in
    let good : All (Good m now u) c.args.data.now =
    subst (λ (t : Tree Node). All (λ (d : Datum). is_bad (refuses m now (of_datum (view d))) t ≡ false) c.args.data.now) c.occurrence-occurrence.ensures told in
    passes_more m now (map placed_view os) asked c.loop-index.index-index u (search) there c.args.data.now c.loop-index.invariant good

pub returns : goal.returns
returns g c =
    λ is.
    let os = c.args.self.now.occurrences.now in
    let all = take_all c.loop-index.index-index c.args.self.now.asked.now c.loop-index-test.false in
    subst (λ (asked : List ℕ). All (Passes g.R.RuleSet.meaning c.args.self.now.moment (picked (map placed_view os) asked)) c.args.data.now) all c.loop-index.invariant
