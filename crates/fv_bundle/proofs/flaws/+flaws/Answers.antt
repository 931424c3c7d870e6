use Rattle.std.proofs.Common.{◌≡◌, nat_lt, length, false, ap, ◌∙◌, arith, rules}
use Rattle.serde_json.specs.Data as json
use Rattle.serde_json.specs.View.{view as json_view, items_view, members_view}
use Rattle.serde_json.proofs.Views.{view-Array, view-Object}
use Rattle.fv_datum.specs.Members.{pairs, listed}
use Rattle.fv_datum.proofs.Values.{length-items}
use Rattle.fv_bundle.specs.Flaws.{IsNeverFlawed}
use Rattle.fv_bundle.specs.Names.{object_types_view}
use Rattle.fv_bundle.specs.Types.{lists, maps, optionals, type_use_view}
use Rattle.fv_bundle.proofs.Contained.{IsOfSize, list_tells, map_tells, optional_tells}
use Rattle.fv_bundle.proofs.Flawless.{none_flawed}
use Rattle.fv_bundle.proofs.Seen.{view-List, view-Map, view-Optional}
use Rattle.fv_bundle.proofs.Telling.{Joins}
use Rattle.fv_bundle.proofs.flaws.+flaws.Goals as goal

pub value_flaws-returns-in-Array : goal.value_flaws-returns-in-Array
value_flaws-returns-in-Array t c =
    let held = c.in-List.held in
    let vs = c.in-Array.items.items in
    let is_list : type_use_view c.args.type_use.now ≡ lists (type_use_view held.value) = ap type_use_view c.in-List.is ∙ view-List held in
    let is_array : json_view c.args.value.now ≡ json.array (items_view vs) = ap json_view c.in-Array.is ∙ view-Array c.in-Array.items in
    let own = c.of_size-in-Array.ensures in
    let counted : c.len.result ≡ length vs = omega (arith, c.len.ensures, c.in-Array.items.ok.0) in
    let size : IsOfSize c.of_size-in-Array.result (nat_lt 65536 (length (listed (items_view vs)))) =
    record { undeclared = own.undeclared; dangling = own.dangling; stray = own.stray; large = rw (length-items vs) (own.large ∙ ap (nat_lt 65536) counted) } in
    let both = c.and.ensures in
    let joins : Joins c.of_size-in-Array.result c.item_flaws.result c.and.result = record { undeclared = both.undeclared; dangling = both.dangling; stray = both.stray; large = both.large } in
    rw (is_list, is_array) (list_tells (object_types_view c.args.types.now) (type_use_view held.value) (items_view vs) c.of_size-in-Array.result c.item_flaws.result c.and.result size joins (rw c.deref.ensures at c.item_flaws.ensures))

pub value_flaws-returns-in-Object : goal.value_flaws-returns-in-Object
value_flaws-returns-in-Object t c =
    let held = c.in-Map.held in
    let es = c.in-Object.members.entries in
    let is_map : type_use_view c.args.type_use.now ≡ maps (type_use_view held.value) = ap type_use_view c.in-Map.is ∙ view-Map held in
    let is_object : json_view c.args.value.now ≡ json.object (members_view es) = ap json_view c.in-Object.is ∙ view-Object c.in-Object.members in
    let own = c.of_size-in-Object.ensures in
    let size : IsOfSize c.of_size-in-Object.result _ = record { undeclared = own.undeclared; dangling = own.dangling; stray = own.stray; large = own.large ∙ c.is_large_map.ensures } in
    let both = c.and-in-Object.ensures in
    let joins : Joins c.of_size-in-Object.result c.member_flaws.result c.and-in-Object.result = record { undeclared = both.undeclared; dangling = both.dangling; stray = both.stray; large = both.large } in
    rw (is_map, is_object) (map_tells (object_types_view c.args.types.now) (type_use_view held.value) (members_view es) c.of_size-in-Object.result c.member_flaws.result c.and-in-Object.result size joins (rw c.deref-in-Object.ensures at c.member_flaws.ensures))

pub value_flaws-returns-in-Array-value : goal.value_flaws-returns-in-Array-value
value_flaws-returns-in-Array-value t c =
    let held = c.in-Optional.held in
    let vs = c.in-Array-value.items.items in
    let is_optional : type_use_view c.args.type_use.now ≡ optionals (type_use_view held.value) = ap type_use_view c.in-Optional.is ∙ view-Optional held in
    let is_array : json_view c.args.value.now ≡ json.array (items_view vs) = ap json_view c.in-Array-value.is ∙ view-Array c.in-Array-value.items in
    rw (is_optional, is_array) (optional_tells (object_types_view c.args.types.now) (type_use_view held.value) (items_view vs) c.item_flaws-in-Array-value.result (rw c.deref-in-Array-value.ensures at c.item_flaws-in-Array-value.ensures))

pub item_flaws-returns-then-not-can_be_flawed : goal.item_flaws-returns-then-not-can_be_flawed
item_flaws-returns-then-not-can_be_flawed t c =
    let plain : IsNeverFlawed (type_use_view c.args.held.now) = c.can_be_flawed.ensures (search rules) in
    let none = c.none.ensures in
    let size : IsOfSize c.none.result false = record { undeclared = none.undeclared; dangling = none.dangling; stray = none.stray; large = none.large } in
    none_flawed (λ j. j) (object_types_view c.args.types.now) (type_use_view c.args.held.now) (listed (items_view c.args.items.now.items)) c.none.result plain size

pub member_flaws-returns-then-not-can_be_flawed : goal.member_flaws-returns-then-not-can_be_flawed
member_flaws-returns-then-not-can_be_flawed t c =
    let plain : IsNeverFlawed (type_use_view c.args.held.now) = c.can_be_flawed.ensures (search rules) in
    let none = c.none.ensures in
    let size : IsOfSize c.none.result false = record { undeclared = none.undeclared; dangling = none.dangling; stray = none.stray; large = none.large } in
    none_flawed (λ m. m.1) (object_types_view c.args.types.now) (type_use_view c.args.held.now) (pairs (members_view c.args.members.now.entries)) c.none.result plain size
