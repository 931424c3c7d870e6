-- What is told of the parts at a place, from what is told of each.
use Rattle.std.proofs.Common.{◌≡◌, ℕ, ℤ, List, [], ◌∷◌, ◌++◌, Some, slice_get, refl, sym, ap, ◌∙◌}
use Rattle.std.specs.List.{flat_map}
use Rattle.fv_datum.specs.Data.{Data}
use Rattle.fv_declare_schema.specs.Declarations.{Placed}
use Rattle.fv_extract.specs.Parts.{Locus, further, parts_of, parts_at}
use Rattle.fv_extract.specs.Places.{PlaceStep, FieldPlace}
use Rattle.fv_extract.proofs.Longer.{parts_of-push}
use Rattle.fv_bundle.specs.Bundles.{Thing}
use Rattle.fv_registry.specs.Meanings.{Meanings}
use Rattle.fv_local.specs.Told.{part_told, field_told}

module _ (m : Meanings) (now : ℤ) (us : List Placed) (object : Thing) (place : FieldPlace) (f : List ℕ × Data) (stands : Some f ≡ slice_get object.fields place.field) where
  told_field : flat_map (part_told m now us place) (parts_of place.steps f.1) ≡ field_told m now us object place
  told_field = rw (← stands) refl

  -- the parts at the steps above the last
  above : (steps : List PlaceStep) → parts_at object (record { field = place.field; steps = steps }) ≡ parts_of steps f.1
  above steps = rw (← stands) refl

  -- what is told of the parts one step further inside those above the last
  pub told_inside : (steps : List PlaceStep) (step : PlaceStep) (found : List (Locus × Data)) → place.steps ≡ steps ++ step ∷ [] → found ≡ parts_at object (record { field = place.field; steps = steps })
      → flat_map (part_told m now us place) (flat_map (further step) found) ≡ field_told m now us object place
  told_inside steps step found split is =
      ap (flat_map (part_told m now us place)) (ap (flat_map (further step)) (is ∙ above steps) ∙ sym (parts_of-push steps step f.1) ∙ ap (λ (l : List PlaceStep). parts_of l f.1) (sym split)) ∙ told_field
