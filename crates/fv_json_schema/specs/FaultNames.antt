-- The names of faults.
use Rattle.std.specs.Prelude.{ℕ, List, codes}
use Rattle.fv_json_schema.specs.declared.bundle.SchemaFault.{SchemaFault}
use Rattle.fv_json_schema.specs.declared.bundle.SchemaFault.TheVariants.{UnknownForm, Memory}

-- the name of why there is no schema
abbrev pub schema_fault_name : SchemaFault → List ℕ
schema_fault_name UnknownForm = codes "UnknownForm"
schema_fault_name Memory = codes "Memory"
