use Rattle.std.proofs.Common.{◌≡◌, ◌++◌, map}
use Rattle.std.specs.List.{All}
use Rattle.fv_datum.specs.View.{view}
use Rattle.fv_bundle.specs.Types.{use_view, fields_view}
use Rattle.fv_model.specs.Single.{single_field}
use Rattle.fv_model.specs.Writing.{IsWritten}
use Rattle.fv_model.proofs.singles.data_with.Given as goal

abbrev pub invariant-loop-name : goal.invariant-loop-name
invariant-loop-name l = record {
  made : map view l.data.items ++ map (λ f. (single_field l.field (view l.datum) f).1) (map use_view l.name-iterator) ≡ map (λ f. (single_field l.field (view l.datum) f).1) (fields_view l.fields);
  written : All (λ d. IsWritten (view d)) l.data.items;
}
