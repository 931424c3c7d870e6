use Rattle.std.proofs.Common.{rules, ◌≡◌, ◌<ℤ◌, ◌+◌, ◌∷◌, [], ℤ, pos, get_or, FitsSigned, to_z, w64, map, drop, arith, sym, ap, subst, ◌∙◌}
use Rattle.std.proofs.lemmas.Int.{ints, to_z-of_z}
use Rattle.std.proofs.lemmas.List.{drop_more}
use Rattle.fv_store_tables.specs.declared.entry.FoundRow.{FoundRow}
use Rattle.fv_store_tables.specs.declared.text.ObjectText.{ObjectText}
use Rattle.fv_store_tables.specs.Changes.{found_view, objects_view}
use Rattle.fv_store_tables.specs.Updating.{Follow}
use Rattle.fv_store_tables.proofs.RangePlaces.{follow_more, same_names}
use Rattle.fv_store_tables.proofs.updating.are_in_step.Goals as goal

-- what a place past the last would show
abbrev blank : FoundRow
blank = record { name = record { ref_ptr = (0, 0); now = [] }; kind = record { ref_ptr = (0, 0); now = [] }; fields = record { ref_ptr = (0, 0); now = [] }; rowid = pos 0 }

pub loop-at-preserved : goal.loop-at-preserved
loop-at-preserved c =
    let rs = c.args.rows.now in
    let os = c.args.objects.now in
    let at = c.loop-at.at in
    let r : FoundRow = get_or rs at blank in
    let o = c.index-objects-at.result in
    let n = c.rowid_of-rowid.result in
    let is : n ≡ r.rowid = c.rowid_of-rowid.ensures in
    let fits : FitsSigned w64 n = search rules in
    let above : to_z w64 c.loop-at.last-bits <ℤ n = grind (arith, ints, to_z-of_z, fits, c.if-rowid-last.false) in
    let up : to_z w64 c.loop-at.last-bits <ℤ r.rowid = subst (λ (m : ℤ). to_z w64 c.loop-at.last-bits <ℤ m) is above in
    let same = same_names r.name.now c.as_bytes.result.now c.ne.result c.ne.ensures c.if-ne.false ∙ c.as_bytes.ensures.value ∙ ap (λ (x : ObjectText). x.name.now) (sym c.index-objects-at.is) in
    let one = drop_more rs at blank c.loop-at-test.true in
    let two = drop_more os at o (omega (arith, c.loop-at-test.true, c.requires)) ∙ ap (λ x. x ∷ drop (at + 1) os) (sym c.index-objects-at.is) in
    λ rest. c.loop-at.invariant (follow_more (to_z w64 c.loop-at.last-bits) rs os at r o one two up same
    (subst (λ (n : ℤ). Follow n (map found_view (drop (at + 1) rs)) (objects_view (drop (at + 1) os))) (to_z-of_z w64 n fits ∙ is) rest))
