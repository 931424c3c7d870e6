-- The value of declared types.
use Rattle.fv_bundle.specs.Types.{Declared, declared_view}
use Rattle.fv_bundle.specs.declared.types.Types.{Types}

-- the declared types
abbrev pub types_view : Types → Declared
types_view ts = declared_view ts.declared.value
