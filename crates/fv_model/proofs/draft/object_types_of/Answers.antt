use Rattle.std.proofs.Common.{◌≡◌, ◌∷◌, ◌+◌, ◌++◌, map, drop, refl, sym, subst, ◌∙◌, List, ℕ, add-one, drop-cons}
use Rattle.std.specs.Map.{keys_of}
use Rattle.fv_bundle.specs.Bundles.{IsAscending}
use Rattle.fv_model.specs.Reading.{object_types}
use Rattle.fv_model.specs.Views.{object_types_view, part_view}
use Rattle.fv_datum.proofs.Inserted.{seen_last}
use Rattle.fv_model.proofs.draft.object_types_of.Goals as goal

pub loop-part-preserved : goal.loop-part-preserved
loop-part-preserved c =
    let ps = c.args.parts.now in
    let i = c.loop-part.part-index in
    let p = c.part-item.result in
    let more = object_types (map part_view (drop (i + 1) ps)) in
    let rest : object_types (map part_view (drop i ps)) ≡ (p.name.now, p.type_name.now) ∷ more = rw (add-one, drop-cons ps i p c.loop-part-test.true, ← c.part-item.is) refl in
    let whole : object_types_view c.loop-part.out ++ (p.name.now, p.type_name.now) ∷ more ≡ object_types (map part_view ps) = rw (← rest) c.loop-part.invariant in
    let ascending = subst (λ (xs : List (List ℕ × List ℕ)). IsAscending (keys_of xs)) (sym whole) c.requires in
    rw c.in_ok-insert.ensures.entries (seen_last (λ k. k.now) (λ k. k.now) c.loop-part.out.entries p.name p.type_name more ascending ∙ whole)
