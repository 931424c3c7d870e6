use Rattle.std.proofs.Common.{◌≡◌, ◌∙◌, ℕ, List, map, cond, Some, false, option_map, is_some, string_bytes, bytes_eq, nat_cmp, sym, ap, subst}
use Rattle.std.specs.BTreeMap.{insert_entry}
use Rattle.std.specs.Cmp.Lexicographic.{slice_cmp}
use Rattle.fv_datum.specs.Attributes.{AttributeValue, Attributes, attribute_view, entry_view}
use Rattle.fv_datum.specs.Lookup.{at_name}
use Rattle.fv_builtin.specs.Given.{in_effect}
use Rattle.fv_datum.specs.Maps.{ascends}
use Rattle.fv_builtin.specs.Table.{default_of}
use Rattle.fv_builtin.proofs.PutIn.{stands, given_stays, each_stays, each_put}
use Rattle.fv_datum.proofs.Maps.{put_seen, ascends-insert}
use Rattle.fv_builtin.proofs.defaults.put_default.Goals as goal

pub returns-then-contains_key-clause-each : goal.returns-then-contains_key-clause-each
returns-then-contains_key-clause-each c =
    let old : Attributes = map entry_view c.args.entries.now.entries in
    each_stays c.args.which old c.args.name.now (given_stays (at_name c.args.name.now old) (default_of c.args.which c.args.name.now)
    (sym (stands c.args.name.now c.args.entries.now.entries) ∙ sym c.contains_key.ensures ∙ c.if-contains_key.true))

pub returns-in_ok-insert-clause-each : goal.returns-in_ok-insert-clause-each
returns-in_ok-insert-clause-each c =
    let old : Attributes = map entry_view c.args.entries.now.entries in
    let value : AttributeValue = attribute_view c.in-Some.value in
    let put : map entry_view c.insert.new.self.entries ≡ insert_entry (slice_cmp nat_cmp) old c.args.name.now value =
    ap (map entry_view) c.in_ok-insert.ensures.entries ∙ put_seen attribute_view c.args.entries.now.entries c.in_ok-from_str.field-0 c.in-Some.value
    ∙ ap (λ n. insert_entry (slice_cmp nat_cmp) old n value) c.in_ok-from_str.ensures.ok in
    let default : default_of c.args.which c.args.name.now ≡ Some value = sym c.default_of.ensures ∙ ap (option_map attribute_view) c.in-Some.is in
    let free : is_some (at_name c.args.name.now old) ≡ false = sym (stands c.args.name.now c.args.entries.now.entries) ∙ sym c.contains_key.ensures ∙ c.if-contains_key.false in
    subst (λ (es : Attributes). (q : List ℕ) → at_name q es ≡ cond (bytes_eq q c.args.name.now) (in_effect c.args.which old q) (at_name q old)) (sym put)
    (each_put c.args.which old c.args.name.now value default free)

pub returns-in_ok-insert-clause-ascending : goal.returns-in_ok-insert-clause-ascending
returns-in_ok-insert-clause-ascending c = λ sorted.
    let old : Attributes = map entry_view c.args.entries.now.entries in
    ap ascends (ap (map entry_view) c.in_ok-insert.ensures.entries ∙ put_seen attribute_view c.args.entries.now.entries c.in_ok-from_str.field-0 c.in-Some.value)
    ∙ ascends-insert old (string_bytes c.in_ok-from_str.field-0) (attribute_view c.in-Some.value) sorted
