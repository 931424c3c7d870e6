use Rattle.std.proofs.Common.{◌≡◌, ◌++◌, map, drop}
use Rattle.std.specs.List.{flat_map, enumerate_from}
use Rattle.fv_declare_draft.specs.DraftViews.{field_view}
use Rattle.fv_declare_draft.specs.UseViews.{use_view}
use Rattle.fv_declare_draft.specs.AllUses.{field_uses}
use Rattle.fv_declare_draft.proofs.all_uses.add_fields.Given as goal

abbrev pub invariant-loop-number : goal.invariant-loop-number
invariant-loop-number l =
    map use_view l.uses.items ++ flat_map (field_uses l.type_index) (enumerate_from l.number (map field_view (drop l.number l.fields)))
    ≡ map use_view l.initial.uses.items ++ flat_map (field_uses l.type_index) (enumerate_from 0 (map field_view l.fields))
