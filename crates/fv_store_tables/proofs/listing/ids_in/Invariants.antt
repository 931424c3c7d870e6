use Rattle.std.proofs.Common.{◌≡◌, map, take, string_bytes}
use Rattle.sqlite.specs.declared.types.Value.TheVariants.{Text}
use Rattle.sqlite.specs.Order.{column}
use Rattle.fv_store_tables.proofs.listing.ids_in.Given as goal

abbrev pub invariant-loop-row : goal.invariant-loop-row
invariant-loop-row l = map (λ r. column r 0) (take l.row-index l.rows) ≡ map (λ s. Text (string_bytes s)) l.ids.items
