use Rattle.std.proofs.Common.{◌≡◌, ◌<◌, ◌≤◌, ◌+◌, ◌∙◌, List, ℕ, map, length, sym, ap, subst, arith}
use Rattle.std.proofs.lemmas.List.{length-map}
use Rattle.std.specs.List.{list_any}
use Rattle.fv_declare_schema.specs.Declarations as spec
use Rattle.fv_declare_schema.specs.Ordered.{AreGroups}
use Rattle.fv_declare_schema.specs.PlacedView.{placed_view}
use Rattle.fv_declare_schema.specs.Groups.{Groups}
use Rattle.fv_graph.specs.Graph.{mem}
use Rattle.fv_declare_schema.specs.Tables.{indices}
use Rattle.fv_local.specs.Below.{groups_at}
use Rattle.fv_local.proofs.Finding.{AreReachedBefore, at_use, each_use, all_indices, one_more, none_more}
use Rattle.fv_local.proofs.reached.reached.Goals as goal
use Rattle.fv_local.proofs.reached.reached.Goals.{then-stands_for_any+in_ok-push, else-stands_for_any}

pub stands_for_any-requires-clause-others : goal.stands_for_any-requires-clause-others
stands_for_any-requires-clause-others c =
    let ds = c.args.schema.now in
    let n = c.loop-number.number in
    let os = c.occurrences-occurrences.result.now in
    let o = c.index-occurrences-number.result in
    let seen : map placed_view os ≡ ds.occurrences = c.occurrences-occurrences.ensures.uses in
    let less : n < length os = omega (arith, c.requires.uses.within, length-map os placed_view, ap (λ (l : List spec.Placed). length l) seen) in
    let there = at_use os ds.occurrences n o seen less c.index-occurrences-number.is in
    let all : AreGroups ds.groups (placed_view o).groups = each_use (λ u. AreGroups ds.groups u.groups) ds.occurrences n (placed_view o) c.occurrences-occurrences.ensures.ordered.grouped.uses there in
    all_indices (length c.groups-groups.result.now) c.groups.result.now
    (subst (λ (gs : Groups). AreGroups gs (indices c.groups.result.now)) (sym c.groups-groups.ensures)
    (subst (λ (is : List ℕ). AreGroups ds.groups is) (sym c.groups.ensures) all))

pub loop-number-preserved : goal.loop-number-preserved
loop-number-preserved c =
    let ds = c.args.schema.now in
    let t = c.args.uses in
    let hs = groups_at ds.groups c.args.redefined c.args.group.index in
    let n = c.loop-number.number in
    let os = c.occurrences-occurrences.result.now in
    let o = c.index-occurrences-number.result in
    let seen : map placed_view os ≡ ds.occurrences = c.occurrences-occurrences.ensures.uses in
    let less : n < length os = omega (arith, c.requires.uses.within, length-map os placed_view, ap (λ (l : List spec.Placed). length l) seen) in
    let there = at_use os ds.occurrences n o seen less c.index-occurrences-number.is in
    let stands : c.stands_for_any.result ≡ list_any (mem hs) (placed_view o).groups =
    c.stands_for_any.ensures
    ∙ ap (λ (gs : Groups). list_any (mem (groups_at gs c.args.redefined c.args.group.index)) (indices c.groups.result.now)) c.groups-groups.ensures
    ∙ ap (λ (is : List ℕ). list_any (mem hs) is) c.groups.ensures in
    let from : t.first ≤ n = omega arith in
    let until : n < t.end = omega arith in
    elim c.if-stands_for_any.branch [
      | then-stands_for_any+in_ok-push w ↦
          (let grown = ap (λ v. v.items) w.found-is ∙ w.in_ok-push.ensures.items in
          one_more ds t hs c.requires.uses n (placed_view o) there from until c.loop-number.found.items c.if-stands_for_any.found.items
          (sym stands ∙ w.if-stands_for_any.true) grown c.loop-number.invariant)
      | else-stands_for_any w ↦
          subst (λ (is : List ℕ). AreReachedBefore ds t.type_id.index hs (n + 1) is) (sym (ap (λ v. v.items) w.found-is))
          (none_more ds t hs c.requires.uses n (placed_view o) there from until c.loop-number.found.items (sym stands ∙ w.if-stands_for_any.false) c.loop-number.invariant)
    ]
