use Rattle.std.proofs.Common.{◌≡◌, List, ℕ, refl, sym, ap, subst, ◌∙◌}
use Rattle.std.specs.List.{AllByRecursion}
use Rattle.std.specs.Map.{keys_of}
use Rattle.fv_datum.specs.Data.{Data}
use Rattle.fv_bundle.specs.Types.{fields_at}
use Rattle.fv_bundle.specs.Views.{types_view, fields_left, object_view}
use Rattle.fv_bundle.specs.Writing.{IsWritten}
use Rattle.fv_bundle.proofs.Made.{written_fields}
use Rattle.fv_model.proofs.tree.write_fields.Goals as goal

pub loop-name-init : goal.loop-name-init
loop-name-init c =
    let object = c.args.object.now in
    let names = keys_of (fields_at (types_view object.types) object.type_id.index) in
    let all : fields_left c.into_iter-name-iterator.result ≡ (object_view object).fields = ap fields_left c.into_iter-name-iterator.ensures.into_iter_gives ∙ c.fields-name-items.ensures in
    record {
      put = rw (c.new-members.ensures.empty, all) refl;
      written = subst (λ (fs : List (List ℕ × Data)). AllByRecursion (λ f. IsWritten f.1) fs) (sym all) (written_fields names object.data.items object.written);
    }
