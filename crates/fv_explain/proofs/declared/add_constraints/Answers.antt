use Rattle.std.proofs.Common.{◌≡◌, ◌≤◌, ◌+◌, ◌++◌, ◌∷◌, ℕ, List, [], drop, length, map, append-nil, refl, sym, subst, arith}
use Rattle.std.proofs.lemmas.List.{drop_all, flat_map_more, length-map}
use Rattle.std.specs.List.{AllZip, flat_map}
use Rattle.fv_declare_schema.specs.Declarations.{Placed}
use Rattle.fv_declare_schema.specs.PlacedView.{placed_view}
use Rattle.fv_explain.specs.Adding.{Adds, texts}
use Rattle.fv_explain.specs.Explained.{AreUseLines}
use Rattle.fv_explain.proofs.Adding.{adds_then, completes_more, completes_all}
use Rattle.fv_explain.proofs.Uses.{use_fits, uses_more, use_lines_same}
use Rattle.fv_explain.proofs.declared.add_constraints.Goals as goal

pub loop-index-init : goal.loop-index-init
loop-index-init c =
    let s = c.args.schema.now in
    let lines = c.args.lines.now in (
      [],
      (sym (append-nil (texts lines)), refl),
      λ rest are. subst (λ (us : List Placed). AllZip (AreUseLines lines.json s.groups) us rest) c.occurrences-uses.ensures.uses are,
    )

pub add_use-requires : goal.add_use-requires
add_use-requires c =
    use_fits c.args.schema.now c.occurrences-uses.result.now c.loop-index.index c.index-uses-index.result c.occurrences-uses.ensures.ordered
    c.occurrences-uses.ensures.uses c.loop-index-test.true c.index-uses-index.is

pub loop-index-preserved : goal.loop-index-preserved
loop-index-preserved c =
    let s = c.args.schema.now in
    let lines = c.args.lines.now in
    let was = c.loop-index.invariant in
    let one = c.in_ok-add_use.ensures in
    let us = c.occurrences-uses.result.now in
    let i = c.loop-index.index in
    let p = c.index-uses-index.result in (
      was.0 ++ one.0 ∷ [],
      subst (λ (ls : List (List ℕ)). Adds lines ls c.add_use.new.lines) (flat_map_more (λ (ls : List (List ℕ)). ls) [] was.0 one.0)
          (adds_then lines c.loop-index.lines c.add_use.new.lines (flat_map (λ ls. ls) was.0) one.0 was.1 one.1),
      completes_more (AreUseLines lines.json s.groups) s.occurrences (drop i (map placed_view us)) (drop (i + 1) (map placed_view us))
          (placed_view p) was.0 one.0 (uses_more us i p c.loop-index-test.true c.index-uses-index.is)
          (use_lines_same c.loop-index.lines.json lines.json c.groups-groups.result.now s.groups (placed_view p) one.0 was.1.1 c.groups-groups.ensures one.2) was.2,
    )

pub returns : goal.returns
returns c =
    let s = c.args.schema.now in
    let was = c.loop-index.invariant in
    let us = c.occurrences-uses.result.now in
    let i = c.loop-index.index in
    let past : length (map placed_view us) ≤ i = omega (arith, length-map us placed_view) in (
      flat_map (λ ls. ls) was.0,
      was.1,
      (
        was.0,
        refl,
        completes_all (AreUseLines c.args.lines.now.json s.groups) s.occurrences (drop i (map placed_view us)) was.0
            (drop_all i (map placed_view us) past) was.2,
      ),
    )
