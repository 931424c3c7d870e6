-- What the reader of places gathers, for private clauses.
use Rattle.std.specs.Prelude.{List}
use Rattle.fv_extract.specs.Places.{PlaceStep}
use Rattle.fv_bundle.specs.Types.{TypeUse}
use Rattle.fv_declare_draft.specs.Places.{Holding, PlaceDraft, PlacedUse, PlacedCascade, type_at, type_held, uses_at, uses_inside, cascades_at, cascades_inside}

-- what a place holds, with uses and cascades in order
pub record Gathered : Type 0 where
  pub type : TypeUse
  pub uses : List PlacedUse
  pub cascades : List PlacedCascade

-- all of a place that these steps lead to
abbrev pub gathered : List PlaceStep → PlaceDraft → Gathered
gathered steps p = record { type = type_at p; uses = uses_at steps p; cascades = cascades_at steps p }

-- all inside a place that these steps lead to
abbrev pub inside : List PlaceStep → Holding → Gathered
inside steps held = record { type = type_held held; uses = uses_inside steps held; cascades = cascades_inside steps held }
