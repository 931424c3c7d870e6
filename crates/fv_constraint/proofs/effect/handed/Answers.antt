use Rattle.std.proofs.Common.{◌≡◌, ◌∙◌, ℕ, List, map, None, cond, option_map, option_and_then, string_bytes, bytes_eq, sym, ap}
use Rattle.std.specs.Option.{option_or}
use Rattle.fv_datum.specs.Maps.{ascends}
use Rattle.fv_constraint.proofs.PutIn.{given_alone}
use Rattle.fv_datum.specs.Attributes.{Attributes, attribute_view, entry_view}
use Rattle.fv_datum.specs.Lookup.{at_name}
use Rattle.fv_constraint.specs.Meanings.{declared}
use Rattle.fv_declare_definition.specs.DefinitionViews.{definition_view, override_entry}
use Rattle.fv_constraint.specs.Effect.{effective}
use Rattle.fv_constraint.proofs.Filled.{filled_more, left_ascend}
use Rattle.fv_constraint.proofs.effect.handed.Goals as goal

pub loop-name-preserved : goal.loop-name-preserved
loop-name-preserved c =
    let above = effective (declared (definition_view c.args.definition.now)) c.args.given.now in
    let es : Attributes = map entry_view c.loop-name.entries.entries in
    let name = string_bytes c.in-Some.name.now in
    let value : option_map (λ v. attribute_view v.now) c.effective.result ≡ above (string_bytes c.in-Some.outer.now) = c.effective.ensures ∙ ap above c.as_str.ensures.value in
    let filled = λ (q : List ℕ). c.in_ok-fill.ensures.each q ∙ ap (λ o. option_or (at_name q es) (cond (bytes_eq q name) o None)) value in
    record {
      each = filled_more string_bytes above _ _ _ _ es _ _ c.in-Some.ensures.steps c.loop-name.invariant.left c.loop-name.invariant.each filled;
      ascending = c.in_ok-fill.ensures.ascending c.loop-name.invariant.ascending;
      left = left_ascend _ _ _ _ c.in-Some.ensures.steps c.loop-name.invariant.left;
    }

pub returns : goal.returns
returns c =
    let above = effective (declared (definition_view c.args.definition.now)) c.args.given.now in
    let es : Attributes = map entry_view c.loop-name.entries.entries in
    record {
      each = λ q.
          ap (at_name q) c.new.ensures ∙ sym (given_alone (at_name q es)) ∙ ap (λ it. option_or (at_name q es) (option_and_then above (at_name q (map override_entry it)))) (sym c.in-None.ensures.steps.0)
          ∙ c.loop-name.invariant.each q;
      ascending = ap ascends c.new.ensures ∙ c.loop-name.invariant.ascending;
    }
