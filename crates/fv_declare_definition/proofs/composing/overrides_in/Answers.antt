use Rattle.std.proofs.Common.{◌≡◌, Some, string_bytes, sym, ap, ◌∙◌, arith}
use Rattle.serde_json.specs.View.{view as json_view, members_view}
use Rattle.fv_declare_definition.specs.DefinitionViews.{override_entry}
use Rattle.fv_datum.specs.Members.{pairs}
use Rattle.fv_declare_definition.specs.Written.{override_of}
use Rattle.fv_declare_definition.proofs.Entries.{next_above, more_names, more_made}
use Rattle.fv_declare_definition.proofs.composing.overrides_in.Goals as goal

pub add_last-requires : goal.add_last-requires
add_last-requires c = next_above c.args.members.now.entries _ _ _ _ _ c.iter-name-items.ensures.ordered c.in-Some.ensures.steps c.loop-name.invariant.names

pub loop-name-preserved : goal.loop-name-preserved
loop-name-preserved c =
    let l = c.loop-name in
    let put = c.in_ok-add_last-in-Some-as_str.ensures in
    let name = string_bytes c.in-Some.name.now in
    let outer = c.in_ok-from_str-in-Some-as_str.field-0 in
    let is : override_of (name, json_view c.in-Some.value.now) ≡ Some (name, string_bytes outer) = grind (arith, c.as_str.ensures, c.in-Some-as_str.is, c.in_ok-from_str-in-Some-as_str.ensures.ok) in
    record {
      names = more_names _ _ _ _ put.2 c.args.members.now.entries _ _ _ _ c.in-Some.ensures.steps put.1 l.invariant.names;
      made = more_made _ _ put.0 outer put.2 override_of override_entry _ _ _ _ (ap (λ it. pairs (members_view it)) c.in-Some.ensures.steps) (is ∙ ap (λ n. Some (n, string_bytes outer)) (sym put.1)) l.invariant.made;
    }
