-- The report that a violation is, and a record with those that it has.
use Rattle.std.specs.Prelude.{map, string_bytes}
use Rattle.fv_datum.specs.View.{view}
use Rattle.fv_validate.specs.declared.validating.Judged.{Judged}
use Rattle.fv_validate.specs.declared.validating.Violation.{Violation}
use Rattle.fv_validate.specs.Violations as spec
use Rattle.fv_validate.specs.Violations.{Reported}

-- the report that a violation is
abbrev pub violation_view : Violation → Reported
violation_view v = record {
  path = string_bytes v.path;
  constraint = string_bytes v.constraint;
  occurrence = v.occurrence;
  message = string_bytes v.message;
  value = view v.value;
}

-- the record with its violations
abbrev pub judged_view : Judged → spec.Judged
judged_view j = (string_bytes j.id, map violation_view j.violations.items)
