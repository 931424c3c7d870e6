use Rattle.std.proofs.Common.{◌≡◌, drop}
use Rattle.fv_datum.specs.View.{entries_view}
use Rattle.fv_datum.specs.Written.{keys_fit}
use Rattle.fv_datum.proofs.writing.keys_fit.Given as goal

abbrev pub invariant-loop-i : goal.invariant-loop-i
invariant-loop-i l = keys_fit (entries_view (drop l.i l.entries)) ≡ keys_fit (entries_view l.entries)
