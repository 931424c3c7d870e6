use Rattle.std.proofs.Common.{◌≡◌, ◌++◌, map}
use Rattle.fv_datum.specs.Attributes.{entry_view}
use Rattle.fv_constraint.proofs.copying.copy_entries.Given as goal

abbrev pub invariant-loop-name : goal.invariant-loop-name
invariant-loop-name l = map entry_view l.copies.entries ++ map entry_view l.name-iterator ≡ map entry_view l.entries.entries
