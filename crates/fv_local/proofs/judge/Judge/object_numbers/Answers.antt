use Rattle.std.proofs.Common.{◌≡◌, ◌≤◌, ◌+◌, ◌++◌, ℕ, List, map, get_or, true, sym, ap, subst, ◌∙◌, rules}
use Rattle.std.proofs.lemmas.Int.{to_z-of_z}
use Rattle.std.specs.List.{AllByRecursion}
use mir.Val.{SFits}
use mir.Syntax.{w64}
use Rattle.fv_declare_schema.specs.Declarations.{Placed}
use Rattle.fv_declare_schema.specs.Fits.{placed_fits}
use Rattle.fv_declare_schema.specs.PlacedView.{placed_view}
use Rattle.fv_bundle.specs.Views.{object_view}
use Rattle.fv_constraint_tree.specs.Fits.{fits}
use Rattle.fv_constraint_tree.specs.Nodes.{Node}
use Rattle.fv_constraint_tree.specs.Reports.{violated}
use Rattle.fv_constraint_tree.specs.Says.{of_object}
use Rattle.fv_constraint_tree.specs.Trees.{Tree, size}
use Rattle.fv_declare_schema.specs.Places.{judged_at}
use Rattle.fv_local.proofs.Fitting.{rules_there}
use Rattle.fv_local.proofs.Picked.{all_at, asked_at, numbers_grow}
use Rattle.fv_local.proofs.Reports.{number, numbers_room}
use Rattle.fv_local.proofs.judge.Judge.object_numbers.Goals as goal

pub report_object-requires-clause-fit : goal.report_object-requires-clause-fit
report_object-requires-clause-fit g c =
    let os = c.args.self.now.occurrences.now in
    let asked = c.args.self.now.asked.now in
    let u = placed_view (get_or os (get_or asked c.loop-index.index-index 0) c.index-self-index.result) in
    let k = g.R.RuleSet.known c.args.self.now.rules.now.rules in
    let there = asked_at os asked c.loop-index.index-index c.index-self-index.result c.requires.within (search) in
    let fit : placed_fits k u ≡ true = all_at (λ (v : Placed). placed_fits k v ≡ true) (map placed_view os) (get_or asked c.loop-index.index-index 0) u c.requires.can.fit there in
    ap (fits k) c.occurrence.ensures ∙ rules_there k (judged_at u.place) u.tree fit

pub add_numbers-requires : goal.add_numbers-requires
add_numbers-requires g c =
    let os = c.args.self.now.occurrences.now in
    let asked = c.args.self.now.asked.now in
    let u = placed_view (get_or os (get_or asked c.loop-index.index-index 0) c.index-self-index.result) in
    let m = g.R.RuleSet.meaning in
    let now = c.args.self.now.moment in
    let fits_now : SFits w64 now = search rules in
    let there = asked_at os asked c.loop-index.index-index c.index-self-index.result c.requires.within (search) in
    let few : u.number + size u.tree ≤ 1024 = all_at (λ (v : Placed). v.number + size v.tree ≤ 1024) (map placed_view os) (get_or asked c.loop-index.index-index 0) u c.requires.can.few there in
    let reported : c.deref.result.now ≡ map number (violated m c.args.self.now.moment (of_object (object_view c.args.object.now)) 0 u.tree) =
    c.deref.ensures.value ∙ (rw (to_z-of_z w64 now fits_now) at c.in_ok-reported.ensures.exact) ∙ ap (λ (t : Tree Node). map number (violated m c.args.self.now.moment (of_object (object_view c.args.object.now)) 0 t)) c.occurrence.ensures in
    subst (λ (n : ℕ). AllByRecursion (λ (i : ℕ). n + i ≤ 1024) c.deref.result.now) (sym c.number.ensures)
    (subst (λ (ns : List ℕ). AllByRecursion (λ (i : ℕ). u.number + i ≤ 1024) ns) (sym reported) (numbers_room m c.args.self.now.moment (of_object (object_view c.args.object.now)) u few))

pub loop-index-preserved : goal.loop-index-preserved
loop-index-preserved g c =
    let os = c.args.self.now.occurrences.now in
    let asked = c.args.self.now.asked.now in
    let u = placed_view (get_or os (get_or asked c.loop-index.index-index 0) c.index-self-index.result) in
    let m = g.R.RuleSet.meaning in
    let now = c.args.self.now.moment in
    let fits_now : SFits w64 now = search rules in
    let there = asked_at os asked c.loop-index.index-index c.index-self-index.result c.requires.within (search) in
    let reported : c.deref.result.now ≡ map number (violated m c.args.self.now.moment (of_object (object_view c.args.object.now)) 0 u.tree) =
    c.deref.ensures.value ∙ (rw (to_z-of_z w64 now fits_now) at c.in_ok-reported.ensures.exact) ∙ ap (λ (t : Tree Node). map number (violated m c.args.self.now.moment (of_object (object_view c.args.object.now)) 0 t)) c.occurrence.ensures in
    let added : map (λ n. c.number.result + n) c.deref.result.now ≡ map (λ n. u.number + n) (map number (violated m c.args.self.now.moment (of_object (object_view c.args.object.now)) 0 u.tree)) =
    ap (λ (n : ℕ). map (λ i. n + i) c.deref.result.now) c.number.ensures ∙ ap (map (λ i. u.number + i)) reported in
    let made : c.add_numbers.new.numbers.items ≡ c.loop-index.numbers.items ++ map (λ n. c.number.result + n) c.deref.result.now = search rules in
    made ∙ ap (λ (ns : List ℕ). ns ++ map (λ n. c.number.result + n) c.deref.result.now) c.loop-index.invariant
    ∙ numbers_grow m c.args.self.now.moment (of_object (object_view c.args.object.now)) (map placed_view os) asked c.loop-index.index-index u _ (search) there added
