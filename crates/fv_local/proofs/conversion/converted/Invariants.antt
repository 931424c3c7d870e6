use Rattle.std.proofs.Common.{◌≡◌, map, drop}
use Rattle.fv_declare_schema.specs.NumberViews.{conversion_numbers}
use Rattle.fv_local.specs.Conversions.{convert}
use Rattle.fv_local.proofs.conversion.converted.Given as goal

abbrev pub invariant-loop-conversion : goal.invariant-loop-conversion
invariant-loop-conversion l =
    convert (map conversion_numbers (drop l.conversion-index l.conversions)) l.group.index ≡ convert (map conversion_numbers l.conversions) l.group.index
