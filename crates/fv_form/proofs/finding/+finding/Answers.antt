use Rattle.std.proofs.Common.{◌≡◌, ◌≤◌, ◌+◌, drop, Some, None, map, option_map, string_bytes, refl, sym, ap, ◌∙◌, rules, arith}
use Rattle.serde_json.specs.Data.{depth, items_depth, members_depth}
use Rattle.serde_json.specs.Data as json
use Rattle.serde_json.specs.Find.{as_object, get_member}
use Rattle.serde_json.specs.View.{view as json_view, items_view, members_view}
use Rattle.fv_form.specs.Asked.{asked}
use Rattle.fv_form.specs.FormViews.{entry_view}
use Rattle.fv_form.specs.MisfitViews.{misfit_view}
use Rattle.fv_form.specs.Misfits.{members, object, first_misfit}
use Rattle.fv_form.proofs.Inside.{deeper, items_deep, members_deep, items_turn, item_past, member_past, members_found, entry_found, object_found}
use Rattle.fv_form.proofs.finding.+finding.Goals as goal

pub first_misfit-returns-in-Some-as_object-2 : goal.first_misfit-returns-in-Some-as_object-2
first_misfit-returns-in-Some-as_object-2 t c =
    let j = json_view c.args.value.now in
    let ms = members_view c.in-Some-as_object-2.members.now.entries in
    let es = map entry_view c.in-Object.entries.now in
    let is : as_object j ≡ Some ms = search rules in
    let asks : asked c.args.form j ≡ object es = search rules in
    rw (object_found asked c.args.form j ms es is asks) c.in_object.ensures

pub first_misfit-returns-in-Some-as_object : goal.first_misfit-returns-in-Some-as_object
first_misfit-returns-in-Some-as_object t c =
    let j = json_view c.args.value.now in
    let ms = members_view c.in-Some-as_object.members.now.entries in
    let is : as_object j ≡ Some ms = search rules in
    let asks : asked c.args.form j ≡ members c.in-Members.inner = search rules in
    rw (members_found asked c.args.form c.in-Members.inner j ms is asks) c.in_members.ensures

pub in_entry-first_misfit-requires : goal.in_entry-first_misfit-requires
in_entry-first_misfit-requires t c =
    let ms = members_view c.args.members.now.entries in
    let found : get_member c.args.entry.now.name.now ms ≡ Some (json_view c.in-Some.value.now) = search rules in
    let below : depth (json_view c.in-Some.value.now) ≤ members_depth ms = deeper c.args.entry.now.name.now ms (json_view c.in-Some.value.now) found in
    (omega arith, tt)

pub in_entry-returns-in-None : goal.in_entry-returns-in-None
in_entry-returns-in-None t c =
    let ms = members_view c.args.members.now.entries in
    let none : get_member c.args.entry.now.name.now ms ≡ None = search rules in
    ap (λ m. Some m) c.here.ensures ∙ sym (entry_found asked c.args.form (entry_view c.args.entry.now) ms None none ∙ rw c.if-entry.true refl)

pub in_entry-returns-in-None-2 : goal.in_entry-returns-in-None-2
in_entry-returns-in-None-2 t c =
    let ms = members_view c.args.members.now.entries in
    let none : get_member c.args.entry.now.name.now ms ≡ None = search rules in
    sym (entry_found asked c.args.form (entry_view c.args.entry.now) ms None none ∙ rw c.if-entry.false refl)

pub in_entry-returns-in_ok-first_misfit-in-Some : goal.in_entry-returns-in_ok-first_misfit-in-Some
in_entry-returns-in_ok-first_misfit-in-Some t c =
    let e = entry_view c.args.entry.now in
    let ms = members_view c.args.members.now.entries in
    let found : get_member e.name ms ≡ Some (json_view c.in-Some.value.now) = search rules in
    rw (entry_found asked c.args.form e ms (Some (json_view c.in-Some.value.now)) found, ← c.in_ok-first_misfit-in-Some.ensures) c.under.ensures

pub in_items-loop-number-preserved : goal.in_items-loop-number-preserved
in_items-loop-number-preserved t c =
    let l = c.loop-number in
    let vs = c.args.items.now in
    let j = json_view c.index-items-number.result in
    let rest = items_view (drop (l.number + 1) vs) in
    let turn = items_turn vs l.number c.index-items-number.result c.loop-number-test.true c.index-items-number.is in
    let none : first_misfit asked c.args.form j ≡ None = sym c.in_ok-misfit.ensures ∙ ap (option_map misfit_view) c.in_default.is in
    record {
      found = item_past asked c.args.form l.number j rest (items_view (drop l.number vs)) _ turn none l.invariant.found;
      inside = (items_deep j rest (items_view (drop l.number vs)) (items_depth (items_view vs)) turn l.invariant.inside).1;
    }

pub in_members-loop-name-preserved : goal.in_members-loop-name-preserved
in_members-loop-name-preserved t c =
    let l = c.loop-name in
    let name = string_bytes c.in-Some.name.now in
    let j = json_view c.in-Some.value.now in
    let left = members_view l.name-iterator in
    let rest = members_view c.next.new.self in
    let turn : left ≡ json.member name j rest = ap members_view c.in-Some.ensures.steps in
    let none : first_misfit asked c.args.form j ≡ None = sym c.in_ok-misfit.ensures ∙ ap (option_map misfit_view) c.in_default.is in
    record {
      found = member_past asked c.args.form name j rest left _ turn none l.invariant.found;
      inside = (members_deep name j rest left (members_depth (members_view c.args.members.now.entries)) turn l.invariant.inside).1;
    }
