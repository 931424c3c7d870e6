use Rattle.std.proofs.Common.{◌≡◌, ◌++◌, map, drop}
use Rattle.std.specs.List.{AllByRecursion}
use Rattle.fv_datum.specs.View.{view, pair_view}
use Rattle.fv_bundle.specs.Writing.{IsWritten}
use Rattle.fv_model.proofs.Containers.{rest_tokens, entry_named}
use Rattle.fv_model.proofs.InOrder.{member_tokens}
use Rattle.fv_model.proofs.text.+write.Given as goal

abbrev pub invariant-write_items-loop-item : goal.invariant-write_items-loop-item
invariant-write_items-loop-item l = record {
  written : AllByRecursion IsWritten (map view (drop l.item-index l.item-items)) → AllByRecursion IsWritten (map view l.item-items);
  put : l.out.tokens ++ rest_tokens (map view (drop l.item-index l.item-items)) ≡ l.initial.out.tokens ++ rest_tokens (map view l.item-items);
  before : l.out.before ≡ l.initial.out.before;
}

abbrev pub invariant-write_entries-loop-entry : goal.invariant-write_entries-loop-entry
invariant-write_entries-loop-entry l = record {
  written : AllByRecursion (λ e. IsWritten e.1) (map pair_view (drop l.entry-index l.entry-items)) → AllByRecursion (λ e. IsWritten e.1) (map pair_view l.entry-items);
  put : l.out.tokens ++ member_tokens (map entry_named (map pair_view (drop l.entry-index l.entry-items))) ≡ l.initial.out.tokens ++ member_tokens (map entry_named (map pair_view l.entry-items));
  before : l.out.before ≡ l.initial.out.before;
}
