use Rattle.std.proofs.Common.{◌≡◌, ◌++◌, map}
use Rattle.serde_json.specs.View.{members_view}
use Rattle.fv_datum.specs.Members.{pairs}
use Rattle.fv_bundle.specs.Names.{object_types_view}
use Rattle.fv_model_fault.specs.Given.{type_in}
use Rattle.fv_model_fault.proofs.given.type_names.Given as goal

abbrev pub invariant-loop-name : goal.invariant-loop-name
invariant-loop-name l = object_types_view l.names ++ map (λ o. (o.0, type_in o.1)) (pairs (members_view l.name-iterator))
    ≡ map (λ o. (o.0, type_in o.1)) (pairs (members_view l.objects.entries))
