-- Where uses of constraints stand.
use Rattle.std.specs.Prelude.{ℕ, List}
use Rattle.fv_datum.specs.declared.kind.Kind.{Kind}
use Rattle.fv_extract.specs.Places.{PlaceStep}
use Rattle.fv_constraint_tree.specs.Targets.{Target, on_object, on_data}

-- where a use stands: at the type itself, or where these steps lead in the field of that number, at data of the kind
pub data Place : Type 0 where
  whole : Place
  field : ℕ → List PlaceStep → Kind → Place

-- what is judged there: objects, or data of the kind
abbrev pub judged_at : Place → Target
judged_at whole = on_object
judged_at (field number steps kind) = on_data kind
