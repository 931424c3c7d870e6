-- The places and parts that contracts see.
use Rattle.std.specs.Prelude.{[], ◌∷◌, map, Option, Some, None}
use Rattle.std.specs.Borrow.{Bor}
use Rattle.fv_datum.specs.Data.{Data}
use Rattle.fv_datum.specs.View.{view}
use Rattle.fv_datum.specs.declared.datum.Datum.{Datum}
use Rattle.fv_extract.specs.Places as place
use Rattle.fv_extract.specs.Parts as part
use Rattle.fv_extract.specs.declared.place.Step.{Step}
use Rattle.fv_extract.specs.declared.place.Step.TheVariants as step
use Rattle.fv_extract.specs.declared.place.Place.{Place}
use Rattle.fv_extract.specs.declared.place.Part.{Part}
use Rattle.fv_extract.specs.declared.place.Part.TheVariants as code

-- a step
abbrev pub step_view : Step → place.PlaceStep
step_view step.Element = place.element
step_view step.Key = place.key
step_view step.Value = place.value
step_view step.Content = place.content

-- a place
abbrev pub place_view : Place → place.FieldPlace
place_view p = record { field = p.field; steps = map step_view p.steps.now }

-- a part of a container
abbrev pub part_view : Part → part.LocusPart
part_view (code.Index i) = part.at_index i
part_view (code.Key k) = part.at_key k.now

-- what a step adds to a locus
abbrev pub added_view : Option Part → part.Locus
added_view None = []
added_view (Some p) = part_view p ∷ []

-- what lies one step inside a datum
abbrev pub inside_view : Option Part × Bor Datum → part.Locus × Data
inside_view p = (added_view p.0, view p.1.now)
