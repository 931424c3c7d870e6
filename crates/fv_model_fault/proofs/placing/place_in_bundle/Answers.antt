use Rattle.std.proofs.Common.{option_map}
use Rattle.serde_json.specs.View.{view as json_view}
use Rattle.fv_bundle.specs.Types.{name_at}
use Rattle.fv_bundle.specs.TypesView.{types_view}
use Rattle.fv_bundle.specs.declared.types.TypeId.{TypeId}
use Rattle.fv_model_fault.proofs.Arms.{found_of}
use Rattle.fv_model_fault.proofs.placing.place_in_bundle.Goals as goal

pub returns-in-Some-clause-found : goal.returns-in-Some-clause-found
returns-in-Some-clause-found c =
    found_of c.place_among.result (types_view c.args.types.now) (option_map (λ (t : TypeId). name_at (types_view c.args.types.now) t.index) c.args.asked) (json_view c.args.value.now) c.args.fault c.place_among.ensures.told
