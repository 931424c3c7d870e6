use Rattle.std.proofs.Common.{◌≡◌, ◌++◌, ℕ, false, List, length, map, string_bytes, take}
use Rattle.std.specs.List.{AllZip}
use Rattle.fv_bundle.specs.Names.{object_types_view}
use Rattle.fv_bundle.specs.TypesView.{types_view}
use Rattle.fv_explain_over.specs.Misfits.{IsMisfit}
use Rattle.fv_explain_over.proofs.telling.add_misfits.Given as goal

-- so far there is a line more for each narrowing
abbrev pub invariant-loop-narrowed : goal.invariant-loop-narrowed
invariant-loop-narrowed l =
    (told : List (List ℕ)) × (map string_bytes l.lines.items ≡ map string_bytes l.initial.lines.items ++ told)
    × (length told ≡ l.narrowed-index)
    × (l.json ≡ false → AllZip (IsMisfit (types_view l.old.types.now) (object_types_view l.old.forms.now) (types_view l.new.types.now)) (take l.narrowed-index l.found) told)
