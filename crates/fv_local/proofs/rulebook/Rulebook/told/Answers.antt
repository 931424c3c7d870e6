use Rattle.std.proofs.Common.{◌≡◌, ◌++◌, map, ap, ◌∙◌, rules}
use Rattle.std.proofs.lemmas.Int.{to_z-of_z}
use mir.Syntax.{w64}
use Rattle.fv_declare_schema.specs.Declarations.{Declarations}
use Rattle.fv_declare_schema.specs.PlacedView.{placed_view}
use Rattle.fv_bundle.specs.Views.{object_view}
use Rattle.fv_local.specs.TableView.{lists_view}
use Rattle.fv_local.proofs.Reaching.{can_ask, told_both, found_both}
use Rattle.fv_local.proofs.rulebook.Rulebook.told.Goals as goal

pub told_of-requires-clause-can : goal.told_of-requires-clause-can
told_of-requires-clause-can g c =
    can_ask (g.R.RuleSet.known c.self.inside.rules.rules) c.self.inside.schema (map placed_view c.occurrences-occurrences.result.now) c.self.invariant.0 c.occurrences-occurrences.ensures.ordered c.occurrences-occurrences.ensures.uses

pub told_in_ranks-requires-clause-can : goal.told_in_ranks-requires-clause-can
told_in_ranks-requires-clause-can g c =
    can_ask (g.R.RuleSet.known c.self.inside.rules.rules) c.self.inside.schema (map placed_view c.occurrences-occurrences.result.now) c.self.invariant.0 c.occurrences-occurrences.ensures.ordered c.occurrences-occurrences.ensures.uses

pub returns-clause-told : goal.returns-clause-told
returns-clause-told g c =
    let both : c.append.new.self.items ≡ c.in_ok-failures.failures.items ++ c.in_ok-ranked.ranked.items = search rules in
    let same : map placed_view c.occurrences-occurrences.result.now ≡ c.args.self.now.occurrences = c.occurrences-occurrences.ensures.uses ∙ ap (λ (d : Declarations). d.occurrences) c.self.view_is in
    rw (← same) (told_both g.R.RuleSet.meaning c.args.now (object_view c.args.object.now) (map placed_view c.occurrences-occurrences.result.now) c.args.uses.now (lists_view c.args.ranks.now)
    c.in_ok-failures.failures.items c.in_ok-ranked.ranked.items c.append.new.self.items both
    (rw (to_z-of_z w64 c.args.now c.ranges.now) at c.in_ok-failures.ensures.told) (rw (to_z-of_z w64 c.args.now c.ranges.now) at c.in_ok-ranked.ensures.told))

pub returns-clause-found : goal.returns-clause-found
returns-clause-found g c =
    let both : c.append.new.self.items ≡ c.in_ok-failures.failures.items ++ c.in_ok-ranked.ranked.items = search rules in
    found_both (object_view c.args.object.now) c.in_ok-failures.failures.items c.in_ok-ranked.ranked.items c.append.new.self.items both c.in_ok-failures.ensures.found c.in_ok-ranked.ensures.found
