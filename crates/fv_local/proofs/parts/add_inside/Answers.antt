use Rattle.std.proofs.Common.{◌≡◌, ◌++◌, List, [], map, append-nil, sym, ap, ◌∙◌}
use Rattle.std.specs.List.{flat_map}
use Rattle.fv_datum.specs.Data.{Data}
use Rattle.fv_declare_schema.specs.PlacedView.{placed_view}
use Rattle.fv_extract.specs.FoundView.{found_view}
use Rattle.fv_extract.specs.InsideView.{inside_left}
use Rattle.fv_extract.specs.Parts.{Locus, parts_below, further}
use Rattle.fv_extract.specs.Views.{step_view, place_view}
use Rattle.fv_local.specs.Told.{picked, told_view, part_told, Told}
use Rattle.fv_local.proofs.Passing.{none_told}
use Rattle.fv_local.proofs.parts.add_inside.Goals as goal

pub returns-then-branch : goal.returns-then-branch
returns-then-branch g c =
    let m = g.R.RuleSet.meaning in
    let now = c.args.judge.now.moment in
    let us = picked (map placed_view c.args.judge.now.occurrences.now) c.args.judge.now.asked.now in
    let place = place_view c.args.place in
    let l = (found_view c.args.part.now).0 in
    let told : List Told = map told_view c.args.failures.now.items in
    let none : flat_map (part_told m now us place) (further (step_view c.args.step) (found_view c.args.part.now)) ≡ [] =
    ap (λ (ps : List (Locus × Data)). flat_map (part_told m now us place) (map (parts_below l) ps)) (sym c.new-inside.ensures ∙ ap inside_left c.in-Elements.is)
    ∙ none_told m now us place l c.in-Elements.field-1 c.in-Elements.items.now (c.in_ok-passes_all.ensures c.if-branch.true) in
    sym (ap (λ (xs : List Told). told ++ xs) none ∙ append-nil told)
