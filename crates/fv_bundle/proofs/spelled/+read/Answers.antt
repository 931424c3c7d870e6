use Rattle.std.proofs.Common.{◌≡◌, ◌<◌, ℕ, suc, List, arith, ◌∷◌, ◌++◌, map, length, Some, Ok, option_map, string_bytes, sym, ap, ◌∙◌, rules}
use Rattle.std.specs.Option.{ok_or}
use Rattle.std.proofs.lemmas.List.{map-append}
use Rattle.serde_json.specs.Data as json
use Rattle.serde_json.specs.View.{view as json_view, items_view as json_items, members_view}
use Rattle.fv_datum.specs.Data.{text, optional}
use Rattle.fv_datum.specs.Members.{pairs, each_some}
use Rattle.fv_datum.specs.View.{view, pair_view}
use Rattle.fv_datum.proofs.Values.{members_ascend, array_is}
use Rattle.fv_datum.specs.declared.fault.DatumFault.TheVariants.{WrongKind}
use Rattle.fv_bundle.specs.Spelled.{datum_of, entry_read, only_item}
use Rattle.fv_bundle.specs.Types.{nested, lists, maps, optionals, type_use_view}
use Rattle.fv_bundle.specs.Writing.{IsWritten}
use Rattle.fv_bundle.proofs.Orders.{keyed}
use Rattle.fv_bundle.proofs.Seen.{view-List, view-Map, view-Optional, view-DataText, view-DataOptional}
use Rattle.fv_bundle.proofs.Spelling.{optional_spelled, part_taken, some_of, several, entries_more}
use Rattle.fv_bundle.proofs.Writable.{all_seen, list_writable, entries_writable}
use Rattle.fv_bundle.proofs.spelled.+read.Goals as goal

pub read-read_list-requires : goal.read-read_list-requires
read-read_list-requires t c =
    let is_list : type_use_view c.args.type_use.now ≡ lists (type_use_view c.in-List.held.value) = ap type_use_view c.in-List.is ∙ view-List c.in-List.held in
    let more : nested (type_use_view c.args.type_use.now) ≡ suc (nested (type_use_view c.deref.result.now)) = ap nested is_list ∙ ap (λ u. suc (nested (type_use_view u))) (sym c.deref.ensures) in
    (omega arith, tt)

pub read-read_map-requires : goal.read-read_map-requires
read-read_map-requires t c =
    let is_map : type_use_view c.args.type_use.now ≡ maps (type_use_view c.in-Map.held.value) = ap type_use_view c.in-Map.is ∙ view-Map c.in-Map.held in
    let more : nested (type_use_view c.args.type_use.now) ≡ suc (nested (type_use_view c.deref-in-Map.result.now)) = ap nested is_map ∙ ap (λ u. suc (nested (type_use_view u))) (sym c.deref-in-Map.ensures) in
    (omega arith, tt)

pub read-read_optional-requires : goal.read-read_optional-requires
read-read_optional-requires t c =
    let is_optional : type_use_view c.args.type_use.now ≡ optionals (type_use_view c.in-Optional.held.value) = ap type_use_view c.in-Optional.is ∙ view-Optional c.in-Optional.held in
    let more : nested (type_use_view c.args.type_use.now) ≡ suc (nested (type_use_view c.deref-in-Optional.result.now)) = ap nested is_optional ∙ ap (λ u. suc (nested (type_use_view u))) (sym c.deref-in-Optional.ensures) in
    (omega arith, tt)

pub read-returns-in-Map-clause-exact : goal.read-returns-in-Map-clause-exact
read-returns-in-Map-clause-exact t c =
    let is_map : type_use_view c.args.type_use.now ≡ maps (type_use_view c.in-Map.held.value) = ap type_use_view c.in-Map.is ∙ view-Map c.in-Map.held in
    rw is_map (rw c.deref-in-Map.ensures at c.read_map.ensures.exact)

pub read_optional-returns-in_ok-new-in-Some-clause-exact : goal.read_optional-returns-in_ok-new-in-Some-clause-exact
read_optional-returns-in_ok-new-in-Some-clause-exact t c =
    let u = type_use_view c.args.held.now in
    let js = json_items c.in-Some.items.now.items in
    let is_array : json_view c.args.value.now ≡ json.array js = array_is (json_view c.args.value.now) js (ap (option_map (λ v. json_items v.now.items)) (sym c.in-Some.is) ∙ c.as_array.ensures) in
    let read = optional_spelled u (json_view c.args.value.now) js is_array in
    part_taken optional (only_item (datum_of u) js) _ (view c.in_ok-content-in-Some.content) read c.in_ok-content-in-Some.ensures.exact
    ∙ ap (λ x. Ok (optional (view x))) (sym c.in_ok-new-in-Some.ensures.ok) ∙ ap (λ d. Ok d) (sym (view-DataOptional c.in_ok-new-in-Some.field-0))

pub read_content-returns-then-len-gt1-clause-exact : goal.read_content-returns-then-len-gt1-clause-exact
read_content-returns-then-len-gt1-clause-exact t c =
    let many : 1 < length c.args.items.now.items = omega (arith, c.len.ensures, c.if-len-gt1.true, c.args.items.now.ok.0) in
    λ other. ap (λ o. ok_or o WrongKind) (several (datum_of (type_use_view c.args.held.now)) c.args.items.now.items many)

pub read_each-returns-clause-written : goal.read_each-returns-clause-written
read_each-returns-clause-written t c = list_writable (map view c.loop-item.out.items) (all_seen IsWritten view c.loop-item.out.items c.loop-item.invariant.written)

pub read_entries-loop-name-preserved : goal.read_entries-loop-name-preserved
read_entries-loop-name-preserved t c =
    let f = datum_of (type_use_view c.args.held.now) in
    let out = map pair_view c.loop-name.out.items in
    let m : List ℕ × json.Data = (string_bytes c.in-Some.name.now, json_view c.in-Some.value.now) in
    let left = pairs (members_view c.next.new.self) in
    let is : f (json_view c.in-Some.value.now) ≡ Some (view c.in_ok-datum.datum) = some_of _ _ c.in_ok-datum.ensures.exact in
    let before : option_map (λ more. out ++ more) (option_map keyed (each_some (entry_read f) (pairs (members_view ((c.in-Some.name.now, c.in-Some.value.now) ∷ c.next.new.self))))) ≡ option_map keyed (each_some (entry_read f) (pairs (members_view c.args.members.now.entries))) =
    rw c.in-Some.ensures.steps at c.loop-name.invariant.read in
    let key = view-DataText c.in_ok-clone.field-0 ∙ ap text c.in_ok-clone.ensures.cases in
    record {
      read = rw (c.in_ok-push.ensures.items, map-append, key) (sym (entries_more f out m left (view c.in_ok-datum.datum) is) ∙ before);
      written = search rules;
    }

pub read_entries-returns-clause-written : goal.read_entries-returns-clause-written
read_entries-returns-clause-written t c =
    let es = c.args.members.now.entries in
    entries_writable (datum_of (type_use_view c.args.held.now)) (pairs (members_view es)) (pairs (members_view c.loop-name.name-iterator)) (map pair_view c.loop-name.out.items)
    (ap (λ it. pairs (members_view it)) c.in-None.ensures.steps.0) c.loop-name.invariant.read (members_ascend es c.iter-name-items.ensures.ordered)
    (all_seen (λ e. IsWritten e.1) pair_view c.loop-name.out.items c.loop-name.invariant.written)
