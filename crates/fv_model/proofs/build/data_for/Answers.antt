use Rattle.std.proofs.Common.{◌≡◌, ◌∷◌, ◌++◌, ℕ, List, map, true, false, option_map, String, sym, ◌∙◌, rules}
use Rattle.std.specs.List.{list_any}
use Rattle.std.specs.declared.alloc.Global.{Global}
use Rattle.std.proofs.lemmas.List.{map-append}
use Rattle.serde_json.specs.View.{view as json_view}
use Rattle.fv_datum.specs.Data.{Data}
use Rattle.fv_datum.specs.View.{view}
use Rattle.fv_bundle.specs.declared.type_use.TypeUse.{TypeUse}
use Rattle.fv_model.specs.Fitting.{misfits_given, field_misfits}
use Rattle.fv_model.specs.Reading.{datum_at, given_field}
use Rattle.fv_model.specs.Types as spec
use Rattle.fv_bundle.specs.Types.{type_use_view, use_view, fields_view}
use Rattle.fv_model.specs.Views.{given_view}
use Rattle.fv_model.proofs.Wrong.{at_exit, right, or_here, made_more}
use Rattle.fv_model.proofs.build.data_for.Goals as goal

pub returns-in_err-datum_for-clause-exact : goal.returns-in_err-datum_for-clause-exact
returns-in_err-datum_for-clause-exact c =
    let given = given_view c.args.given in
    let entry : String Global × TypeUse = (c.in-Some.name.now, c.in-Some.type_use.now) in
    let type_use = type_use_view c.in-Some.type_use.now in
    let value = option_map (λ v. json_view v.now) c.find_given.result in
    let fields = fields_view c.args.fields.now in
    let before : list_any (field_misfits given) (map use_view (entry ∷ c.next.new.self)) ≡ list_any (field_misfits given) fields = rw c.in-Some.ensures.steps at c.loop-name.invariant.fit in
    at_exit c.from_residual-in_err-datum_for.result (λ v. map view v.items) _ (misfits_given type_use value) (list_any (field_misfits given) fields) (datum_at type_use value) (map (λ f. (given_field given f).1) fields)
    c.from_residual-in_err-datum_for.ensures.1 c.in_err-datum_for.ensures.exact
    (λ is. let here : field_misfits given (use_view entry) ≡ true = rw (c.find_given.ensures, c.as_str.ensures.value) at is in sym before ∙ or_here _ _ here)

pub loop-name-preserved : goal.loop-name-preserved
loop-name-preserved c =
    let given = given_view c.args.given in
    let entry : String Global × TypeUse = (c.in-Some.name.now, c.in-Some.type_use.now) in
    let type_use = type_use_view c.in-Some.type_use.now in
    let value = option_map (λ v. json_view v.now) c.find_given.result in
    let fields = fields_view c.args.fields.now in
    let datum = c.in_ok-datum_for.field-0 in
    let datum_of : List ℕ × spec.TypeUse → Data = λ f. (given_field given f).1 in
    let more = map use_view c.next.new.self in
    let before : list_any (field_misfits given) (map use_view (entry ∷ c.next.new.self)) ≡ list_any (field_misfits given) fields = rw c.in-Some.ensures.steps at c.loop-name.invariant.fit in
    let made : map view c.loop-name.out.items ++ map datum_of (map use_view (entry ∷ c.next.new.self)) ≡ map datum_of fields = rw c.in-Some.ensures.steps at c.loop-name.invariant.made in
    let found = right (misfits_given type_use value) (datum_at type_use value) (view datum) c.in_ok-datum_for.ensures.exact in
    let fits : field_misfits given (use_view entry) ≡ false = rw (c.find_given.ensures, c.as_str.ensures.value) at found.0 in
    let same : datum_of (use_view entry) ≡ view datum = rw (c.find_given.ensures, c.as_str.ensures.value) at found.1 in
    record {
      fit = rw fits at before;
      made = rw (c.in_ok-push.ensures.items, map-append) (made_more (map view c.loop-name.out.items) (view datum) (datum_of (use_view entry)) (map datum_of more) (map datum_of fields) same made);
      written = search rules;
    }
