use Rattle.std.proofs.Common.{◌≡◌, map}
use Rattle.fv_datum.specs.Attributes.{entry_view}
use Rattle.fv_builtin.specs.Given.{has_foreign}
use Rattle.fv_builtin.proofs.given.has_foreign.Given as goal

abbrev pub invariant-loop-name : goal.invariant-loop-name
invariant-loop-name l = has_foreign l.which (map entry_view l.name-iterator) ≡ has_foreign l.which l.attrs
