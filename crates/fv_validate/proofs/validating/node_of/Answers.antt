use Rattle.std.proofs.Common.{◌≡◌, ◌-◌, leb, sym, ◌∙◌, arith, rules}
use Rattle.std.proofs.lemmas.List.Sorted.{IsPartitionPoint-from_clause, IsPartitionedBy-leb}
use Rattle.fv_declare_schema.specs.PlacedView.{placed_view}
use Rattle.fv_declare_schema.specs.declared.place.Placed.{Placed}
use Rattle.fv_constraint_tree.specs.Views.{node_view, entry_view}
use Rattle.fv_validate.proofs.Numbers.{rise, number_le, node_at, none_at, node_of_entry}
use Rattle.fv_validate.proofs.validating.node_of.Goals as goal

pub returns-in_err-checked_sub : goal.returns-in_err-checked_sub
returns-in_err-checked_sub c =
    let xs = c.args.occurrences.now in
    let n = c.args.number in
    let found = IsPartitionPoint-from_clause (λ (o : Placed). leb (placed_view o).number n) xs c.partition_point-behind.result c.partition_point-behind.ensures.partitioned
    (IsPartitionedBy-leb (λ (o : Placed). (placed_view o).number) xs n (rise placed_view 0 xs c.requires)) (λ a r q k. search rules) in
    let none = c.in_err-checked_sub.ensures in
    let start : c.partition_point-behind.result ≡ 0 = omega (arith, none) in
    rw c.from_residual.ensures (sym (none_at placed_view xs n c.requires (λ k d low high. found.1 k d (omega arith) high)))

pub overflow_sub-number : goal.overflow_sub-number
overflow_sub-number c =
    let xs = c.args.occurrences.now in
    let n = c.args.number in
    let found = IsPartitionPoint-from_clause (λ (o : Placed). leb (placed_view o).number n) xs c.partition_point-behind.result c.partition_point-behind.ensures.partitioned
    (IsPartitionedBy-leb (λ (o : Placed). (placed_view o).number) xs n (rise placed_view 0 xs c.requires)) (λ a r q k. search rules) in
    let at = c.in_ok-checked_sub.ensures in
    let le = number_le placed_view xs n c.partition_point-behind.result c.requires found c.in_ok-checked_sub.field-0 c.in_ok-placed.placed.now (omega (arith, at)) c.in_ok-placed.ensures.lookup.1 in
    omega (arith, le, c.number.ensures)

pub returns : goal.returns
returns c =
    let xs = c.args.occurrences.now in
    let n = c.args.number in
    let placed = c.in_ok-placed.placed.now in
    let found = IsPartitionPoint-from_clause (λ (o : Placed). leb (placed_view o).number n) xs c.partition_point-behind.result c.partition_point-behind.ensures.partitioned
    (IsPartitionedBy-leb (λ (o : Placed). (placed_view o).number) xs n (rise placed_view 0 xs c.requires)) (λ a r q k. search rules) in
    let at = c.in_ok-checked_sub.ensures in
    let lookup = c.in_ok-placed.ensures.lookup in
    let all = node_at placed_view xs n c.partition_point-behind.result c.requires found c.in_ok-checked_sub.field-0 placed (omega (arith, at)) lookup.3.0 lookup.1 in
    let one = node_of_entry (λ n. node_view n.now) (λ n. entry_view n.now) c.node.result (placed_view placed).tree (n - (placed_view placed).number) (λ x. search rules) (rw (c.occurrence.ensures, c.number.ensures) at c.node.ensures) in
    one ∙ sym all
