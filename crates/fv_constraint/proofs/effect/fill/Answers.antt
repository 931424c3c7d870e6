use Rattle.std.proofs.Common.{◌≡◌, ◌∙◌, map, cond, None, true, false, option_map, is_some, string_bytes, bytes_eq, nat_cmp, sym, ap}
use Rattle.std.specs.BTreeMap.{insert_entry}
use Rattle.std.specs.Cmp.Lexicographic.{slice_cmp}
use Rattle.std.specs.Option.{option_or}
use Rattle.fv_datum.specs.Maps.{ascends}
use Rattle.fv_datum.proofs.Maps.{put_seen, ascends-insert}
use Rattle.fv_constraint.proofs.PutIn.{stands, given_stays}
use Rattle.fv_datum.specs.Attributes.{AttributeValue, Attributes, attribute_view, entry_view}
use Rattle.fv_datum.specs.Lookup.{at_name}
use Rattle.fv_constraint.proofs.Filled.{fill_stays, fill_put}
use Rattle.fv_constraint.proofs.effect.fill.Goals as goal

pub returns-then-contains_key-clause-each : goal.returns-then-contains_key-clause-each
returns-then-contains_key-clause-each c =
    let old : Attributes = map entry_view c.args.entries.now.entries in
    let name = string_bytes c.args.name.now in
    let there : is_some (at_name name old) ≡ true =
    ap (λ n. is_some (at_name n old)) (sym c.as_str.ensures.value) ∙ sym (stands c.as_str.result.now c.args.entries.now.entries) ∙ sym c.contains_key.ensures ∙ c.if-contains_key.true in
    fill_stays old name _ (given_stays (at_name name old) _ there)

pub returns-in_ok-put-clause-each : goal.returns-in_ok-put-clause-each
returns-in_ok-put-clause-each c =
    let old : Attributes = map entry_view c.args.entries.now.entries in
    let name = string_bytes c.args.name.now in
    let value : AttributeValue = attribute_view c.in-Some.value.now in
    let put = c.in_ok-put.ensures in
    let new : map entry_view c.put.new.entries.entries ≡ insert_entry (slice_cmp nat_cmp) old name value =
    ap (map entry_view) put.2 ∙ put_seen attribute_view c.args.entries.now.entries put.0 c.in_ok-copy_of.field-0
    ∙ ap (λ n. insert_entry (slice_cmp nat_cmp) old n (attribute_view c.in_ok-copy_of.field-0)) put.1 ∙ ap (insert_entry (slice_cmp nat_cmp) old name) c.in_ok-copy_of.ensures in
    let free : is_some (at_name name old) ≡ false =
    ap (λ n. is_some (at_name n old)) (sym c.as_str.ensures.value) ∙ sym (stands c.as_str.result.now c.args.entries.now.entries) ∙ sym c.contains_key.ensures ∙ c.if-contains_key.false in
    λ q. ap (at_name q) new ∙ fill_put old name value free q ∙ ap (λ o. option_or (at_name q old) (cond (bytes_eq q name) (option_map (λ v. attribute_view v.now) o) None)) (sym c.in-Some.is)

pub returns-in_ok-put-clause-ascending : goal.returns-in_ok-put-clause-ascending
returns-in_ok-put-clause-ascending c = λ sorted.
    let old : Attributes = map entry_view c.args.entries.now.entries in
    let put = c.in_ok-put.ensures in
    ap ascends (ap (map entry_view) put.2 ∙ put_seen attribute_view c.args.entries.now.entries put.0 c.in_ok-copy_of.field-0)
    ∙ ascends-insert old (string_bytes put.0) (attribute_view c.in_ok-copy_of.field-0) sorted
