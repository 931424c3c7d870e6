use Rattle.std.proofs.Common.{◌≡◌, ◌∙◌, ℕ, List, map, None, cond, option_map, string_bytes, bytes_eq, ap}
use Rattle.std.specs.Option.{option_or}
use Rattle.fv_datum.proofs.Lookups.{option_map-copied}
use Rattle.fv_datum.specs.Attributes.{Attributes, attribute_view, entry_view}
use Rattle.fv_datum.specs.Lookup.{at_name}
use Rattle.fv_declare_definition.specs.DefinitionViews.{attribute_definition_view}
use Rattle.fv_constraint.proofs.Filled.{filled_more, left_ascend}
use Rattle.fv_constraint.proofs.effect.put_declared.Goals as goal

pub loop-name-preserved : goal.loop-name-preserved
loop-name-preserved c =
    let es : Attributes = map entry_view c.loop-name.entries.entries in
    let name = string_bytes c.in-Some.name.now in
    let value : option_map (λ v. attribute_view v.now) c.as_ref.result ≡ option_map attribute_view c.in-Some.attribute.now.default =
    option_map-copied attribute_view c.as_ref.result ∙ ap (option_map attribute_view) c.as_ref.ensures.value in
    let filled = λ (q : List ℕ). c.in_ok-fill.ensures.each q ∙ ap (λ o. option_or (at_name q es) (cond (bytes_eq q name) o None)) value in
    record {
      each = filled_more attribute_definition_view (λ a. a.default) _ _ _ _ es _ _ c.in-Some.ensures.steps c.loop-name.invariant.left c.loop-name.invariant.each filled;
      ascending = λ sorted. c.in_ok-fill.ensures.ascending (c.loop-name.invariant.ascending sorted);
      left = left_ascend _ _ _ _ c.in-Some.ensures.steps c.loop-name.invariant.left;
    }
