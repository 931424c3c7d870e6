use Rattle.std.proofs.Common.{◌≡◌, Ok, ℕ, List, map, sym, subst}
use Rattle.std.specs.List.{list_any}
use Rattle.std.specs.Map.{keys_of}
use Rattle.fv_bundle.specs.Bundles.{IsAscending, Thing, Bundled}
use Rattle.fv_model.specs.Fitting.{part_misfits, unless_wrong}
use Rattle.fv_model.specs.Reading.{object_of}
use Rattle.fv_model.specs.Views.{types_view, objects_view, part_view}
use Rattle.fv_model.proofs.Listed.{objects_named}
use Rattle.fv_model.proofs.Wrong.{right}
use Rattle.fv_model.proofs.build.build.Goals as goal

pub returns-clause-ascending : goal.returns-clause-ascending
returns-clause-ascending c =
    let ts = types_view c.args.types.now in
    let ps = map part_view c.args.draft.now.objects.items in
    let objects = objects_view c.in_ok-objects.objects in
    let answered : unless_wrong (list_any (part_misfits ts) ps) (map (object_of ts) ps) ≡ Ok objects = rw c.deref.ensures.value at c.in_ok-objects.ensures in
    let found = right (list_any (part_misfits ts) ps) (map (object_of ts) ps) objects answered in
    let named = subst (λ (ns : List (List ℕ)). IsAscending ns) (sym (objects_named ts ps)) c.args.draft.now.ascending in
    subst (λ (b : Bundled). IsAscending (keys_of b.objects)) (sym c.new.ensures) (subst (λ (os : List (List ℕ × Thing)). IsAscending (keys_of os)) found.1 named)
