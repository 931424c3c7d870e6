use Rattle.std.proofs.Common.{ℕ, ◌≡◌, List, slice_get, map, length, nat_lt, leb, sym, ap, subst, ◌∙◌, arith, rules}
use Rattle.std.proofs.lemmas.List.{length-map}
use Rattle.std.proofs.lemmas.List.Sorted.{IsPartitionPoint-from_clause, IsPartitionedBy-leb, IsPartitionedBy-ltb}
use Rattle.fv_declare_schema.specs.Declarations as spec
use Rattle.fv_declare_schema.specs.Ordered.{IsRising}
use Rattle.fv_declare_schema.specs.PlacedView.{placed_view}
use Rattle.fv_declare_schema.specs.declared.place.Placed.{Placed}
use Rattle.fv_local.proofs.Spans.{types_rise, between}
use Rattle.fv_local.proofs.type_uses.uses_of.Goals as goal

pub returns-clause-uses : goal.returns-clause-uses
returns-clause-uses c =
    let xs = c.occurrences-occurrences.result.now in
    let us = c.args.schema.now.occurrences in
    let type = c.args.type_id.index in
    let first = c.partition_point-first.result in
    let end = c.partition_point-end.result in
    let seen : map placed_view xs ≡ us = c.occurrences-occurrences.ensures.uses in
    let T : Placed → ℕ = λ o. (placed_view o).type in
    let rise = types_rise placed_view xs (subst IsRising (sym seen) c.occurrences-occurrences.ensures.ordered.uses) in
    let lower = IsPartitionPoint-from_clause (λ (o : Placed). nat_lt (placed_view o).type type) xs first c.partition_point-first.ensures.partitioned (IsPartitionedBy-ltb T xs type rise) (λ a r q k. search rules) in
    let upper = IsPartitionPoint-from_clause (λ (o : Placed). leb (placed_view o).type type) xs end c.partition_point-end.ensures.partitioned (IsPartitionedBy-leb T xs type rise) (λ a r q k. search rules) in
    record {
      within = omega (arith, c.partition_point-end.ensures.bound, length-map xs placed_view, ap (λ (l : List spec.Placed). length l) seen);
      each = λ i u e. between placed_view xs type first end lower upper i u (ap (λ (l : List spec.Placed). slice_get l i) seen ∙ e);
    }
