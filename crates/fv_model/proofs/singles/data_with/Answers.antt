use Rattle.std.proofs.Common.{◌≡◌, ◌∷◌, ◌++◌, ℕ, List, map, String, sym, rules}
use Rattle.std.specs.declared.alloc.Global.{Global}
use Rattle.std.proofs.lemmas.List.{map-append}
use Rattle.fv_datum.specs.Data.{Data}
use Rattle.fv_datum.specs.View.{view}
use Rattle.fv_bundle.specs.Types as spec
use Rattle.fv_bundle.specs.Types.{use_view, fields_view}
use Rattle.fv_bundle.specs.declared.type_use.TypeUse.{TypeUse}
use Rattle.fv_model.specs.Single.{single_field}
use Rattle.fv_model.proofs.Wrong.{made_more}
use Rattle.fv_model.proofs.singles.data_with.Goals as goal

pub loop-name-preserved : goal.loop-name-preserved
loop-name-preserved c =
    let entry : String Global × TypeUse = (c.in-Some.name.now, c.in-Some.field-0-1.now) in
    let fields = fields_view c.args.fields.now in
    let datum = c.in_ok-datum_where.field-0 in
    let datum_of : List ℕ × spec.TypeUse → Data = λ f. (single_field c.args.field.now (view c.args.datum.now) f).1 in
    let more = map use_view c.next.new.self in
    let made : map view c.loop-name.data.items ++ map datum_of (map use_view (entry ∷ c.next.new.self)) ≡ map datum_of fields = rw c.in-Some.ensures.steps at c.loop-name.invariant.made in
    let same : datum_of (use_view entry) ≡ view datum = rw c.as_str.ensures.value at (sym c.in_ok-datum_where.ensures.exact) in
    record {
      made = rw (c.in_ok-push.ensures.items, map-append) (made_more (map view c.loop-name.data.items) (view datum) (datum_of (use_view entry)) (map datum_of more) (map datum_of fields) same made);
      written = search rules;
    }
