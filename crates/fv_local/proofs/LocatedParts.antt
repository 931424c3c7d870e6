-- A part of an object by its locus.
use Rattle.std.proofs.Common.{◌≡◌, ◌≢◌, inl, inr, ℕ, List, [], ◌∷◌, Bool, true, false, cond, Option, Some, None, slice_get, refl, sym, ap, ap₂, ◌∙◌}
use Rattle.std.proofs.lemmas.Bool.{and_parts, and_from, false≢true}
use Rattle.std.proofs.lemmas.Slice.Eq.{bytes_eq-Decides}
use Rattle.std.specs.Cmp.Lexicographic.{pointwise}
use Rattle.std.specs.Map.{lookup}
use Rattle.std.specs.Option.{option_map_or, unwrap_or}
use Rattle.fv_datum.specs.Data.{Data, null}
use Rattle.fv_extract.proofs.Loci.{parts_differ}
use Rattle.fv_extract.specs.Pairs.{Pairwise, Differ}
use Rattle.fv_extract.specs.Parts.{LocusPart, at_index, at_key, Locus, parts_of, parts_at}
use Rattle.fv_extract.specs.Places.{FieldPlace}
use Rattle.fv_graph.proofs.Lists.{eq_of, eq_same}
use Rattle.fv_graph.specs.Graph.{IsIn}
use Rattle.fv_bundle.specs.Bundles.{Thing}
use Rattle.fv_local.specs.Loci.{leads}
use Rattle.fv_local.specs.Paths.{field_name}
use Rattle.fv_local.proofs.Leading.{IsLedTo, parts_led}
use Rattle.fv_local.specs.Sound.{IsSound}
use Rattle.fv_local.specs.Requests.{is_same_part, datum_of_part}
use Rattle.fv_local.proofs.Numbers.{each_in}

part_same : (p q : LocusPart) → is_same_part p q ≡ true → p ≡ q
part_same (at_index i) (at_index j) e = ap at_index (eq_of i j e)
part_same (at_key k) (at_key l) e = ap at_key ((bytes_eq-Decides k l).0 e)
part_same (at_index i) (at_key l) e = absurd (false≢true e)
part_same (at_key k) (at_index j) e = absurd (false≢true e)

same_part : (p : LocusPart) → is_same_part p p ≡ true
same_part (at_index i) = eq_same i
same_part (at_key k) = (bytes_eq-Decides k k).1 refl

locus_same : (l m : Locus) → pointwise is_same_part l m ≡ true → l ≡ m
locus_same [] [] e = refl
locus_same [] (q ∷ m) e = absurd (false≢true e)
locus_same (p ∷ l) [] e = absurd (false≢true e)
locus_same (p ∷ l) (q ∷ m) e = let parts = and_parts (is_same_part p q) (pointwise is_same_part l m) e in ap₂ (λ x xs. x ∷ xs) (part_same p q parts.0) (locus_same l m parts.1)

same_locus : (l : Locus) → pointwise is_same_part l l ≡ true
same_locus [] = refl
same_locus (p ∷ l) = and_from (is_same_part p p) (pointwise is_same_part l l) (same_part p) (same_locus l)

-- the datum of the part that has the locus
abbrev datum_in : List (Locus × Data) → Locus → Option Data
datum_in ps locus = lookup (λ l. pointwise is_same_part l locus) ps

abbrev datum_among : List (Locus × Data) → Locus → Data
datum_among ps locus = unwrap_or (datum_in ps locus) null

-- among parts with loci of their own, the locus of one gives its datum
among : (ps : List (Locus × Data)) (p : Locus × Data) → Pairwise Differ ps → IsIn ps p → datum_among ps p.0 ≡ p.1
among [] p differ h = absurd h
among (q ∷ qs) p differ (inl same) = ap (λ (b : Bool). unwrap_or (cond b (Some q.1) (datum_in qs p.0)) null) (ap (λ (r : Locus × Data). pointwise is_same_part q.0 r.0) (sym same) ∙ same_locus q.0) ∙ ap (λ (r : Locus × Data). r.1) same
among (q ∷ qs) p differ (inr k) = go (pointwise is_same_part q.0 p.0) refl (among qs p differ.1 k)
  where
    go : (b : Bool) → pointwise is_same_part q.0 p.0 ≡ b → datum_among qs p.0 ≡ p.1 → unwrap_or (cond b (Some q.1) (datum_in qs p.0)) null ≡ p.1
    go true e ih = absurd (each_in (λ r. q.0 ≢ r.0) qs p differ.0 k (locus_same q.0 p.0 e))
    go false e ih = ih

-- what is known of a part of an object
pub record IsPart (object : Thing) (place : FieldPlace) (p : Locus × Data) : Type 0 where
  pub of : List ℕ × Data
  pub there : slice_get object.fields place.field ≡ Some of
  pub name : field_name object place.field ≡ of.0
  pub led : leads place.steps p.0 ≡ true
  pub datum : datum_of_part object place p.0 ≡ p.1

pub part_there : (object : Thing) (place : FieldPlace) (p : Locus × Data) → IsSound object → IsIn (parts_at object place) p → IsPart object place p
part_there object place p sound h = go (slice_get object.fields place.field) refl h
  where
    go : (o : Option (List ℕ × Data)) → slice_get object.fields place.field ≡ o → IsIn (option_map_or (λ f. parts_of place.steps f.1) o []) p → IsPart object place p
    go None e k = absurd k
    go (Some f) e k =
        let written = sound.written place.field f e in
        let all : parts_at object place ≡ parts_of place.steps f.1 = ap (λ (o : Option (List ℕ × Data)). option_map_or (λ f. parts_of place.steps f.1) o []) e in
        record {
          of = f;
          there = e;
          name = ap (λ (o : Option (List ℕ × Data)). option_map_or (λ f. f.0) o []) e;
          led = each_in (IsLedTo place.steps) (parts_of place.steps f.1) p (parts_led place.steps f.1 written (sound.indexed place.field f e)) k;
          datum = ap (λ (ps : List (Locus × Data)). datum_among ps p.0) all ∙ among (parts_of place.steps f.1) p (parts_differ place.steps f.1 written) k;
        }

-- the parts at a place have loci of their own
pub parts_apart : (object : Thing) (place : FieldPlace) → IsSound object → Pairwise Differ (parts_at object place)
parts_apart object place sound = go (slice_get object.fields place.field) refl
  where
    go : (o : Option (List ℕ × Data)) → slice_get object.fields place.field ≡ o → Pairwise Differ (option_map_or (λ f. parts_of place.steps f.1) o [])
    go None e = tt
    go (Some f) e = parts_differ place.steps f.1 (sound.written place.field f e)
