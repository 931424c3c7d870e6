use Rattle.std.proofs.Common.{◌≡◌, ℕ, List, ◌∷◌, ◌+◌, ◌++◌, ◌||◌, map, drop, not, is_some, string_bytes, refl, sym, ap, subst, ◌∙◌, add-one, drop-cons}
use Rattle.std.specs.List.{list_any}
use Rattle.std.specs.Map.{keys_of}
use Rattle.fv_datum.specs.Lookup.{at_name}
use Rattle.fv_bundle.specs.Bundles.{IsAscending, Things}
use Rattle.fv_model.specs.Fitting.{part_misfits}
use Rattle.fv_model.specs.Reading.{object_of}
use Rattle.fv_model.specs.Views.{types_view, object_view, objects_view, part_view}
use Rattle.fv_model.proofs.Anys.{part_turn}
use Rattle.fv_datum.proofs.Bools.{or_right}
use Rattle.fv_datum.proofs.Inserted.{seen_last}
use Rattle.fv_model.proofs.Listed.{objects_named}
use Rattle.fv_model.proofs.Wrong.{at_exit, right, or_here}
use Rattle.fv_model.proofs.build.objects_for.Goals as goal

pub returns-in_err-object : goal.returns-in_err-object
returns-in_err-object c =
    let ts = types_view c.args.types.now in
    let ps = c.args.parts.now in
    let p = c.part-item.result in
    let all = map part_view ps in
    let turn = part_turn (part_misfits ts) ps c.loop-part.part-index p c.loop-part-test.true c.part-item.is in
    at_exit c.from_residual-in_err-object.result objects_view _ (part_misfits ts (part_view p)) (list_any (part_misfits ts) all) (object_of ts (part_view p)).1 (map (object_of ts) all)
    c.from_residual-in_err-object.ensures.1 c.in_err-object.ensures (λ is. sym c.loop-part.invariant.fit ∙ turn ∙ or_here _ _ is)

pub loop-part-preserved : goal.loop-part-preserved
loop-part-preserved c =
    let ts = types_view c.args.types.now in
    let ps = c.args.parts.now in
    let i = c.loop-part.part-index in
    let p = c.part-item.result in
    let name = c.in_ok-from_str.field-0 in
    let object = c.in_ok-object.object in
    let found = right (part_misfits ts (part_view p)) (object_of ts (part_view p)).1 (object_view object) c.in_ok-object.ensures in
    let more = map (object_of ts) (map part_view (drop (i + 1) ps)) in
    let rest : map (object_of ts) (map part_view (drop i ps)) ≡ object_of ts (part_view p) ∷ more = rw (add-one, drop-cons ps i p c.loop-part-test.true, ← c.part-item.is) refl in
    let entry : (string_bytes name, object_view object) ≡ object_of ts (part_view p) = rw (c.in_ok-from_str.ensures.ok, ← found.1) refl in
    let whole : objects_view c.loop-part.out ++ (string_bytes name, object_view object) ∷ more ≡ map (object_of ts) (map part_view ps) =
    ap (λ x. objects_view c.loop-part.out ++ x ∷ more) entry ∙ ap (λ xs. objects_view c.loop-part.out ++ xs) (sym rest) ∙ c.loop-part.invariant.made in
    let ascending = subst (λ (ns : List (List ℕ)). IsAscending ns) (sym (objects_named ts (map part_view ps))) c.requires.ascending in
    let left = subst (λ (os : Things). IsAscending (keys_of os)) (sym whole) ascending in
    let turn = part_turn (part_misfits ts) ps i p c.loop-part-test.true c.part-item.is in
    record {
      declared = or_right _ _ (sym (part_turn (λ q. not (is_some (at_name q.type_name ts))) ps i p c.loop-part-test.true c.part-item.is) ∙ c.loop-part.invariant.declared);
      fit = sym (turn ∙ ap (λ b. b || list_any (part_misfits ts) (map part_view (drop (i + 1) ps))) found.0) ∙ c.loop-part.invariant.fit;
      made = rw c.in_ok-insert.ensures.entries (seen_last string_bytes object_view c.loop-part.out.entries name object more left ∙ whole);
    }
