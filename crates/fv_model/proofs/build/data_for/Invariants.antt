use Rattle.std.proofs.Common.{◌≡◌, ◌++◌, map}
use Rattle.std.specs.List.{All, list_any}
use Rattle.fv_datum.specs.View.{view}
use Rattle.fv_bundle.specs.Types.{use_view, fields_view}
use Rattle.fv_model.specs.Views.{given_view}
use Rattle.fv_model.specs.Reading.{given_field}
use Rattle.fv_model.specs.Fitting.{field_misfits}
use Rattle.fv_model.specs.Writing.{IsWritten}
use Rattle.fv_model.proofs.build.data_for.Given as goal

abbrev pub invariant-loop-name : goal.invariant-loop-name
invariant-loop-name l = record {
  fit : list_any (field_misfits (given_view l.given)) (map use_view l.name-iterator) ≡ list_any (field_misfits (given_view l.given)) (fields_view l.fields);
  made : map view l.out.items ++ map (λ f. (given_field (given_view l.given) f).1) (map use_view l.name-iterator) ≡ map (λ f. (given_field (given_view l.given) f).1) (fields_view l.fields);
  written : All (λ d. IsWritten (view d)) l.out.items;
}
