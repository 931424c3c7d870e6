use Rattle.std.proofs.Common.{◌≡◌, List, map, min, not, is_some, false, take, drop}
use Rattle.std.specs.List.{list_any}
use Rattle.fv_constraint.specs.Composed.{Planned}
use Rattle.fv_constraint.specs.Meanings.{meant_by}
use Rattle.fv_flatten.specs.Flattening.{AreTreesOfUses}
use Rattle.fv_constraint_tree.specs.Trees.{Tree}
use Rattle.fv_declare_schema.specs.Declarations.{count_nodes}
use Rattle.fv_declare_judging.specs.LimitPlaces.{crowded_from}
use Rattle.fv_declare_judging.specs.Used.{used}
use Rattle.fv_declare_draft.specs.UseViews.{use_view}
use Rattle.fv_declare_judging.proofs.judging.crowded_use.Given as goal

abbrev pub invariant-loop-number : goal.invariant-loop-number
invariant-loop-number l = record {
  counted : (ts : List (Tree Planned)) × AreTreesOfUses l.composition (map used (map use_view (take l.number l.uses))) ts × (l.count ≡ min 1025 (count_nodes ts)) × (l.crowded ≡ crowded_from 0 0 ts);
  known : list_any (λ u. not (is_some (meant_by l.composition u.draft.constraint))) (map use_view (drop l.number l.uses)) ≡ false;
}
