use Rattle.std.proofs.Common.{◌≡◌, ◌++◌, ◌∷◌, [], map, sym, ap, ◌∙◌, append_assoc}
use Rattle.fv_extract.specs.FoundView.{found_view}
use Rattle.fv_declare_schema.specs.NumberViews.{valid_place_view}
use Rattle.fv_bundle.specs.Views.{objects_view}
use Rattle.fv_local.specs.Graphs.{links_among, link_view}
use Rattle.fv_local.proofs.Listed.{map_join, links_join}
use Rattle.fv_local.proofs.way.add_ways_among.Goals as goal

pub loop-locus-preserved : goal.loop-locus-preserved
loop-locus-preserved c =
    let os = objects_view c.args.objects.now in
    let p = valid_place_view c.args.place.now in
    let before = map found_view c.loop-locus.yielded in
    let part = found_view (c.in-Some.locus, c.in-Some.datum) in
    let old = map link_view c.args.ways.now.items in
    c.in_ok-add_way.ensures
    ∙ ap (λ l. l ++ links_among os p (part ∷ [])) c.loop-locus.invariant
    ∙ append_assoc old (links_among os p before) (links_among os p (part ∷ []))
    ∙ ap (λ l. old ++ l) (sym (ap (links_among os p) (map_join found_view c.loop-locus.yielded ((c.in-Some.locus, c.in-Some.datum) ∷ [])) ∙ links_join os p before (part ∷ [])))
