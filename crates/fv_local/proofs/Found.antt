-- The datum that is told with a failure at a part is the part's.
use Rattle.std.proofs.Common.{◌<◌, ℕ, ℤ, zero, suc, List, [], ◌∷◌, map, length, get_or, inl, inr, refl, sym, subst, arith}
use Rattle.std.specs.List.{All}
use Rattle.fv_datum.specs.Data.{Data}
use Rattle.fv_declare_schema.specs.Declarations.{Placed}
use Rattle.fv_extract.specs.Parts.{parts_at}
use Rattle.fv_extract.specs.Places as to
use Rattle.fv_graph.specs.Graph.{IsIn}
use Rattle.fv_bundle.specs.Bundles.{Thing}
use Rattle.fv_constraint_tree.specs.Says.{of_datum, of_object}
use Rattle.fv_registry.specs.Meanings.{Meanings}
use Rattle.fv_walk_traces.specs.Turns as turn
use Rattle.fv_graph.proofs.Images.{from_flat_map, from_map, in_map}
use Rattle.fv_declare_schema.specs.Places.{Place, whole, field}
use Rattle.fv_local.specs.FailureView.{spot_view, IsFoundIn}
use Rattle.fv_local.specs.Told.{Told, datum_of, told_view, numbers_of, told_part, part_told, told_at, IsTold}
use Rattle.fv_local.specs.declared.failure.LocalFailure as code
use Rattle.fv_local.specs.declared.failure.Spot as code_spot
use Rattle.fv_local.specs.declared.failure.Spot.TheVariants as spot

-- what is told with a spot: the datum there, where it is a part
abbrev IsThere : Thing → turn.Spot → Data → Type 0
IsThere object turn.of_object d = Unit {0}
IsThere object (turn.at place locus) d = IsIn (parts_at object place) (locus, d)

module _ (m : Meanings) (now : ℤ) (object : Thing) where
  there : (us : List Placed) (place : Place) (x : Told) → IsIn (told_at m now us object place) x → IsThere object x.0.spot x.1
  there us whole x h =
      let r = from_map _ (numbers_of m now (of_object object) us) x h in
      subst (λ (t : Told). IsThere object t.0.spot t.1) (sym r.1) tt
  there us (field number steps kind) x h =
      let place : to.FieldPlace = record { field = number; steps = steps } in
      let p = from_flat_map (part_told m now us place) (parts_at object place) x h in
      let r = from_map (told_part place p.0) (numbers_of m now (of_datum p.0.1) us) x p.2 in
      subst (λ (t : Told). IsThere object t.0.spot t.1) (sym r.1) p.1

  found : (s : code_spot.Spot) → IsThere object (spot_view s) (datum_of s) → IsFoundIn object s
  found spot.Object h = tt
  found (spot.Part place locus datum) h = h

  in_items : (v : List code.LocalFailure) (k : ℕ) (d : code.LocalFailure) → k < length v → IsIn v (get_or v k d)
  in_items [] k d less = absurd (omega arith)
  in_items (f ∷ v) zero d less = inl refl
  in_items (f ∷ v) (suc k) d less = inr (in_items v k d (omega arith))

  -- all that is told has its datum
  pub each_found : (os : List Placed) (is : List ℕ) (v : List code.LocalFailure) → ((x : Told) → IsIn (map told_view v) x → IsTold m now object os is x) → All (λ f. IsFoundIn object f.spot) v
  each_found os is v told k d less =
      let f = get_or v k d in
      let t = told (told_view f) (in_map told_view v f (in_items v k d less)) in
      found f.spot (there (t.1 ∷ []) t.1.place (told_view f) t.4)
