use Rattle.std.proofs.Common.{◌≡◌, length, drop}
use Rattle.serde_json.specs.View.{members_view, items_view}
use Rattle.fv_explain_over.specs.Same.{has_members, same_items, same_members}
use Rattle.fv_explain_over.proofs.same.+same.Given as goal

-- the items that are left are the same exactly where all are
abbrev pub invariant-have_same_items-loop-item : goal.invariant-have_same_items-loop-item
invariant-have_same_items-loop-item l =
    same_items (items_view (drop (length l.yielded) l.own)) (items_view (drop (length l.yielded) l.other))
    ≡ same_items (items_view l.own) (items_view l.other)

-- the same of the members that are left
abbrev pub invariant-have_same_members-loop-name : goal.invariant-have_same_members-loop-name
invariant-have_same_members-loop-name l =
    has_members (members_view l.name-iterator) (members_view l.other.entries)
    ≡ same_members (members_view l.own.entries) (members_view l.other.entries)
