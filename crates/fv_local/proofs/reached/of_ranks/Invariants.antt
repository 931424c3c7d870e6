use Rattle.std.proofs.Common.{take}
use Rattle.fv_declare_schema.specs.Tables.{indices}
use Rattle.fv_local.specs.Reached.{AreOfRanks}
use Rattle.fv_local.specs.TableView.{lists_view}
use Rattle.fv_local.proofs.reached.of_ranks.Given as goal

abbrev pub invariant-loop-rank : goal.invariant-loop-rank
invariant-loop-rank l = AreOfRanks l.schema l.uses.type_id.index (indices (take l.rank-index l.ranks)) (lists_view l.lists.items)
