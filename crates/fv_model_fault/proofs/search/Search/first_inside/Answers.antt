use Rattle.std.proofs.Common.{◌≡◌, ap, ◌∙◌}
use Rattle.fv_bundle.specs.Types.{maps, type_use_view}
use Rattle.fv_model_fault.proofs.Seen.{map_view}
use Rattle.fv_model_fault.proofs.search.Search.first_inside.Goals as goal

pub returns-in-Map-clause-told : goal.returns-in-Map-clause-told
returns-in-Map-clause-told c =
    let is_map : type_use_view c.args.type_use.now ≡ maps (type_use_view c.in-Map.held.value) = ap type_use_view c.in-Map.is ∙ map_view c.in-Map.held in
    rw is_map (rw c.deref.ensures at c.inside_object.ensures.told)
