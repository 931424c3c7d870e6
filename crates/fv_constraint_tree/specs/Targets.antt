-- What a constraint stands on.
use Rattle.fv_datum.specs.declared.kind.Kind.{Kind}

-- an object, or data of a kind
pub data Target : Type 0 where
  on_object : Target
  on_data : Kind → Target
