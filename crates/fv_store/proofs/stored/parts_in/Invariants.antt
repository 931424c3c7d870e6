use Rattle.std.proofs.Common.{◌≡◌, ◌++◌, map, drop}
use Rattle.fv_model.specs.Draft.{part_written}
use Rattle.fv_model.specs.Views.{part_view}
use Rattle.fv_store.specs.ReadRows.{read_view}
use Rattle.fv_store.proofs.stored.parts_in.Given as goal

abbrev pub invariant-loop-read : goal.invariant-loop-read
invariant-loop-read l = map part_written (map part_view l.parts.items) ++ map read_view (drop l.read-index l.rows) ≡ map read_view l.rows
