-- The references of an object differ, and lead to objects of the bundle.
use Rattle.std.proofs.Common.{◌≡◌, ◌<◌, ℕ, List, [], ◌∷◌, length, filter_map, option_map, option_and_then, Bool, true, false, cond, nat_lt, Option, Some, None, refl, sym, ap, subst, ◌∙◌, arith}
use Rattle.std.proofs.lemmas.Bool.{ltb-true}
use Rattle.std.specs.List.{AllByRecursion, position_or_len}
use Rattle.std.specs.Str.{bytes_eq}
use Rattle.fv_datum.specs.Data.{Data}
use Rattle.fv_declare_schema.specs.Declarations.{Declarations}
use Rattle.fv_declare_schema.specs.Ordered.{AreOrdered}
use Rattle.fv_extract.specs.Pairs.{Pairwise, Differ}
use Rattle.fv_extract.specs.Parts.{Locus, parts_at}
use Rattle.fv_extract.specs.Places.{FieldPlace}
use Rattle.fv_graph.specs.Graph.{IsIn, AllDiffer}
use Rattle.fv_bundle.specs.Bundles.{Thing, Things}
use Rattle.fv_graph.proofs.Images.{from_flat_map, nothing, something, from_filter_map}
use Rattle.fv_walk_traces.specs.Turns.{Way}
use Rattle.fv_local.specs.Conversions.{valid_places_at}
use Rattle.fv_local.specs.Ways.{object_number_in, name_of, target_of, way_place, way_at, ways_at, ways_of}
use Rattle.fv_local.specs.Sound.{IsSound}
use Rattle.fv_local.proofs.Numbers.{each_in, flat_differ}
use Rattle.fv_local.proofs.LocatedParts.{parts_apart}
use Rattle.fv_local.proofs.Places.{places_apart}

-- a reference at a place has the place and the locus of its part
pub way_is : (os : Things) (place : FieldPlace) (part : Locus × Data) (w : Way) → way_at os place part ≡ Some w → (w.place ≡ place) × (w.locus ≡ part.0) × (target_of os part.1 ≡ Some w.target)
way_is os place part w e = go (target_of os part.1) refl e
  where
    go : (o : Option ℕ) → target_of os part.1 ≡ o → option_map (λ target. record { place = place; locus = part.0; target = target }) o ≡ Some w → (w.place ≡ place) × (w.locus ≡ part.0) × (target_of os part.1 ≡ Some w.target)
    go None t k = cc
    go (Some target) t k =
        let same : ◌≡◌ {A = Way} (record { place = place; locus = part.0; target = target }) w = cc (k) in
        (sym (ap (λ (x : Way). x.place) same), sym (ap (λ (x : Way). x.locus) same), t ∙ ap (λ (x : Way). Some x.target) same)

pub number_within : (os : Things) (name : List ℕ) (t : ℕ) → object_number_in os name ≡ Some t → t < length os
number_within os name t e = go (nat_lt n (length os)) refl e
  where
    n : ℕ
    n = position_or_len (λ o. bytes_eq name o.0) os

    go : (b : Bool) → nat_lt n (length os) ≡ b → cond b (Some n) None ≡ Some t → t < length os
    go false less k = cc
    go true less k = let same : n ≡ t = cc (k) in let within = ltb-true n (length os) less in omega (arith, same, within)

target_within : (os : Things) (d : Data) (t : ℕ) → target_of os d ≡ Some t → t < length os
target_within os d t e = go (name_of d) e
  where
    go : (o : Option (List ℕ)) → option_and_then (object_number_in os) o ≡ Some t → t < length os
    go None k = cc
    go (Some name) k = number_within os name t k

-- each leads to an object
pub ways_within : (ds : Declarations) (os : Things) (object : Thing) (w : Way) → IsIn (ways_of ds os object) w → w.target < length os
ways_within ds os object w h =
    let p = from_flat_map (ways_at os object) (valid_places_at ds object) w h in
    let part = from_filter_map (way_at os (way_place p.0)) (parts_at object (way_place p.0)) w p.2 in
    target_within os part.0.1 w.target (way_is os (way_place p.0) part.0 w part.2).2

-- where no two parts have one locus, no two references have
not_among : (os : Things) (place : FieldPlace) (part : Locus × Data) (parts : List (Locus × Data)) (w : Way) → AllByRecursion (Differ part) parts → w.locus ≡ part.0 → IsIn (filter_map (way_at os place) parts) w → ⊥
not_among os place part parts w differ locus h =
    let k = from_filter_map (way_at os place) parts w h in
    each_in (Differ part) parts k.0 differ k.1 (sym locus ∙ (way_is os place k.0 w k.2).1)

among_differ : (os : Things) (place : FieldPlace) (parts : List (Locus × Data)) → Pairwise Differ parts → AllDiffer (filter_map (way_at os place) parts)
among_differ os place [] apart = tt
among_differ os place (part ∷ parts) apart = go (way_at os place part) refl (among_differ os place parts apart.1)
  where
    go : (o : Option Way) → way_at os place part ≡ o → AllDiffer (filter_map (way_at os place) parts) → AllDiffer (filter_map (way_at os place) (part ∷ parts))
    go None e ih = subst AllDiffer (sym (nothing (way_at os place) part parts e)) ih
    go (Some w) e ih =
        subst AllDiffer (sym (something (way_at os place) part parts w e))
        (λ h. not_among os place part parts w apart.0 (way_is os place part w e).1 h, ih)

-- the references of an object differ
pub ways_differ : (ds : Declarations) (os : Things) (object : Thing) → AreOrdered ds → IsSound object → AllDiffer (ways_of ds os object)
ways_differ ds os object ordered sound =
    flat_differ (ways_at os object) way_place (λ (w : Way). w.place)
    (λ p w h. (let k = from_filter_map (way_at os (way_place p)) (parts_at object (way_place p)) w h in (way_is os (way_place p) k.0 w k.2).0))
    (λ p. among_differ os (way_place p) (parts_at object (way_place p)) (parts_apart object (way_place p) sound)) (valid_places_at ds object) (places_apart ds object ordered)
