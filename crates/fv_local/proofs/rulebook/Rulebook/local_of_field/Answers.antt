use Rattle.std.proofs.Common.{◌≡◌, ◌<◌, ℕ, List, Vec, Global, All, map, Some, true, sym, ap, subst, ◌∙◌}
use Rattle.std.proofs.lemmas.Int.{to_z-of_z}
use mir.Syntax.{w64}
use Rattle.fv_declare_schema.specs.Declarations.{Declarations}
use Rattle.fv_declare_schema.specs.PlacedView.{placed_view}
use Rattle.fv_bundle.specs.Views.{object_view}
use Rattle.fv_local.specs.Below.{below}
use Rattle.fv_local.specs.Reached.{plain_groups}
use Rattle.fv_local.specs.TableView.{lists_view}
use Rattle.fv_bundle.specs.Types.{Declared, number_of_type}
use Rattle.fv_bundle.specs.TypesView.{types_view}
use Rattle.fv_local.specs.Fields.{stands_in}
use Rattle.fv_local.proofs.Fields.{reached_in_field, ranks_reached_in_field}
use Rattle.fv_local.proofs.Reaching.{same_length, kept_within, ranks_within, field_all}
use Rattle.fv_local.proofs.rulebook.Rulebook.local_of_field.Goals as goal

pub of_field-requires : goal.of_field-requires
of_field-requires g c =
    let ds = c.args.self.now in
    let type = c.in-Some.type_id.index in
    let same : map placed_view c.occurrences-occurrences.result.now ≡ ds.occurrences = c.occurrences-occurrences.ensures.uses ∙ ap (λ (d : Declarations). d.occurrences) c.self.view_is in
    subst (λ (n : ℕ). All (λ i. i < n) c.uses.result.now) (same_length ds.occurrences c.occurrences-occurrences.result.now same)
    (kept_within g.R.RuleSet.meaning c.args.now (object_view c.args.object.now) ds type (λ u. true) (plain_groups ds type c.args.group.index) c.uses.result.now c.uses.ensures)

pub each_of_field-requires : goal.each_of_field-requires
each_of_field-requires g c =
    let ds = c.args.self.now in
    let type = c.in-Some.type_id.index in
    let same : map placed_view c.occurrences-occurrences.result.now ≡ ds.occurrences = c.occurrences-occurrences.ensures.uses ∙ ap (λ (d : Declarations). d.occurrences) c.self.view_is in
    subst (λ (n : ℕ). All (λ (v : Vec ℕ Global). All (λ i. i < n) v.items) c.ranks.result.now) (same_length ds.occurrences c.occurrences-occurrences.result.now same)
    (ranks_within g.R.RuleSet.meaning c.args.now (object_view c.args.object.now) ds type (λ u. true) (below ds.groups c.args.group.index) c.ranks.result.now c.ranks.ensures)

pub told-requires-clause-uses : goal.told-requires-clause-uses
told-requires-clause-uses g c =
    let m = g.R.RuleSet.meaning in
    let ds = c.args.self.now in
    let object = object_view c.args.object.now in
    let type = c.in-Some.type_id.index in
    let hs = plain_groups ds type c.args.group.index in
    let same : map placed_view c.occurrences-occurrences.result.now ≡ ds.occurrences = c.occurrences-occurrences.ensures.uses ∙ ap (λ (d : Declarations). d.occurrences) c.self.view_is in
    kept_within m c.args.now object ds type (stands_in c.args.field) hs c.deref.result.now
    (reached_in_field m c.args.now object c.args.field ds type hs c.uses.result.now c.deref.result.now _ same (c.deref.ensures.value ∙ c.in_ok-uses.ensures) c.uses.ensures)

pub told-requires-clause-ranks : goal.told-requires-clause-ranks
told-requires-clause-ranks g c =
    let m = g.R.RuleSet.meaning in
    let ds = c.args.self.now in
    let object = object_view c.args.object.now in
    let type = c.in-Some.type_id.index in
    let hs = below ds.groups c.args.group.index in
    let same : map placed_view c.occurrences-occurrences.result.now ≡ ds.occurrences = c.occurrences-occurrences.ensures.uses ∙ ap (λ (d : Declarations). d.occurrences) c.self.view_is in
    ranks_within m c.args.now object ds type (stands_in c.args.field) hs c.deref-2.result.now
    (ranks_reached_in_field m c.args.now object c.args.field ds type hs (lists_view c.ranks.result.now) (lists_view c.deref-2.result.now) _ same (ap lists_view c.deref-2.ensures.value ∙ c.in_ok-ranks.ensures) c.ranks.ensures)

pub returns-clause-exact : goal.returns-clause-exact
returns-clause-exact g c =
    let m = g.R.RuleSet.meaning in
    let ds = c.args.self.now in
    let object = object_view c.args.object.now in
    let type = c.in-Some.type_id.index in
    let hs = plain_groups ds type c.args.group.index in
    let below_it = below ds.groups c.args.group.index in
    let same : map placed_view c.occurrences-occurrences.result.now ≡ ds.occurrences = c.occurrences-occurrences.ensures.uses ∙ ap (λ (d : Declarations). d.occurrences) c.self.view_is in
    let named : number_of_type c.self.inside.schema.types object.type_name ≡ Some type =
    ap (λ (ts : Declared). number_of_type ts object.type_name) (sym c.types.ensures) ∙ ap (λ (n : List ℕ). number_of_type (types_view c.types.result.now) n) (sym c.type_name.ensures) ∙ sym c.in-Some.ensures in
    let typed : number_of_type ds.types object.type_name ≡ Some type = rw (← c.self.view_is) named in
    let plain = reached_in_field m c.args.now object c.args.field ds type hs c.uses.result.now c.deref.result.now _ same (c.deref.ensures.value ∙ c.in_ok-uses.ensures) c.uses.ensures in
    let ranked = ranks_reached_in_field m c.args.now object c.args.field ds type below_it (lists_view c.ranks.result.now) (lists_view c.deref-2.result.now) _ same (ap lists_view c.deref-2.ensures.value ∙ c.in_ok-ranks.ensures) c.ranks.ensures in
    field_all m ds c.args.now object type c.args.field c.args.group.index c.deref.result.now (lists_view c.deref-2.result.now) c.told.result typed plain ranked (rw (to_z-of_z w64 c.args.now c.ranges.now) at c.told.ensures.told)
