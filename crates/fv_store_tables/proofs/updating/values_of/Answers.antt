use Rattle.std.proofs.Common.{◌≡◌, ◌⊎◌, ◌<◌, ◌≤◌, ◌+◌, inl, inr, length, arith}
use Rattle.std.proofs.lemmas.List.{length-map}
use Rattle.fv_store_tables.specs.Changes.{found_view}
use Rattle.fv_store_tables.proofs.RangePlaces.{same_length, place_pushed}
use Rattle.fv_store_tables.proofs.updating.values_of.Goals.{then-place-rows, else-place-rows}
use Rattle.fv_store_tables.proofs.updating.values_of.Goals as goal

pub bounds-objects-at : goal.bounds-objects-at
bounds-objects-at c =
    let long = same_length c.requires.follow.0 c.args.rows.now c.args.objects.now c.requires.follow.1 in
    let some = c.requires.some in
    let count = length-map c.args.rows.now found_view in
    elim c.if-place-rows.branch [
      | then-place-rows w ↦ omega (arith, long, w.if-place-rows.true, w.at-is)
      | else-place-rows w ↦ omega (arith, long, some, count, w.at-is)
    ]

pub loop-place-preserved : goal.loop-place-preserved
loop-place-preserved c =
    let some = c.requires.some in
    let count = length-map c.args.rows.now found_view in
    let which : (c.if-place-rows.at ≡ c.loop-place.place) ⊎ ((length c.args.rows.now ≤ c.loop-place.place) × (c.if-place-rows.at + 1 ≡ length c.args.rows.now)) = elim c.if-place-rows.branch [
      | then-place-rows w ↦ inl w.at-is
      | else-place-rows w ↦ inr (w.if-place-rows.false, omega (arith, some, count, w.at-is))
    ] in
    let below : c.if-place-rows.at < length c.args.rows.now = elim c.if-place-rows.branch [
      | then-place-rows w ↦ omega (arith, w.if-place-rows.true, w.at-is)
      | else-place-rows w ↦ omega (arith, some, count, w.at-is)
    ] in
    place_pushed c.requires.follow.0 c.args.id.now c.args.rows.now c.args.objects.now c.requires.follow.1 c.loop-place.place c.if-place-rows.at _ c.index-objects-at.result below which c.index-objects-at.is _ _ c.loop-place.invariant c.in_ok-push_place.ensures
