use Rattle.std.proofs.Common.{length, sym}
use Rattle.fv_declare_schema.specs.Tables.{indices}
use Rattle.fv_local.proofs.Finding.{all_indices}
use Rattle.fv_local.proofs.Rows.{ranks_within}
use Rattle.fv_local.proofs.reached.of_sequence.Goals as goal

pub of_ranks-requires-clause-ranks : goal.of_ranks-requires-clause-ranks
of_ranks-requires-clause-ranks c =
    let ds = c.args.schema.now in
    all_indices (length ds.groups) c.in-Some.ranks.now
    (ranks_within ds.groups ds.sequences c.args.uses.type_id.index (indices c.in-Some.ranks.now) c.requires.ordered.grouped.sequences (sym c.in-Some.ensures))
