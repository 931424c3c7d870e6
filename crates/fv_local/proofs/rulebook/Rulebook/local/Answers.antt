use Rattle.std.proofs.Common.{◌≡◌, ℕ, List, Some, true, sym, ap, ◌∙◌}
use Rattle.std.proofs.lemmas.Int.{to_z-of_z}
use mir.Syntax.{w64}
use Rattle.fv_bundle.specs.Views.{object_view}
use Rattle.fv_local.specs.Below.{below}
use Rattle.fv_local.specs.Reached.{plain_groups}
use Rattle.fv_local.specs.TableView.{lists_view}
use Rattle.fv_bundle.specs.Types.{Declared, number_of_type}
use Rattle.fv_bundle.specs.TypesView.{types_view}
use Rattle.fv_local.proofs.Reaching.{kept_within, ranks_within, local_all}
use Rattle.fv_local.proofs.rulebook.Rulebook.local.Goals as goal

pub told-requires-clause-uses : goal.told-requires-clause-uses
told-requires-clause-uses g c =
    let ds = c.args.self.now in
    kept_within g.R.RuleSet.meaning c.args.now (object_view c.args.object.now) ds c.in-Some.type_id.index (λ u. true) (plain_groups ds c.in-Some.type_id.index c.args.group.index) c.uses-uses.result.now c.uses-uses.ensures

pub told-requires-clause-ranks : goal.told-requires-clause-ranks
told-requires-clause-ranks g c =
    let ds = c.args.self.now in
    ranks_within g.R.RuleSet.meaning c.args.now (object_view c.args.object.now) ds c.in-Some.type_id.index (λ u. true) (below ds.groups c.args.group.index) c.ranks-ranks.result.now c.ranks-ranks.ensures

pub returns-clause-exact : goal.returns-clause-exact
returns-clause-exact g c =
    let ds = c.args.self.now in
    let object = object_view c.args.object.now in
    let type = c.in-Some.type_id.index in
    let named : number_of_type c.self.inside.schema.types object.type_name ≡ Some type =
    ap (λ (ts : Declared). number_of_type ts object.type_name) (sym c.types.ensures) ∙ ap (λ (n : List ℕ). number_of_type (types_view c.types.result.now) n) (sym c.type_name.ensures) ∙ sym c.in-Some.ensures in
    let typed : number_of_type ds.types object.type_name ≡ Some type = rw (← c.self.view_is) named in
    local_all g.R.RuleSet.meaning ds c.args.now object type c.args.group.index c.uses-uses.result.now (lists_view c.ranks-ranks.result.now) c.told.result typed c.uses-uses.ensures c.ranks-ranks.ensures
    (rw (to_z-of_z w64 c.args.now c.ranges.now) at c.told.ensures.told)
