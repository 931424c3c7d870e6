-- What a loop adds over lists.
use Rattle.std.proofs.Common.{◌≡◌, ℕ, List, [], ◌∷◌, ◌++◌, map, filter_map, Option, Some, None, refl, sym, ap, ◌∙◌, append_assoc, append-nil}
use Rattle.fv_extract.specs.Parts.{Locus}
use Rattle.fv_datum.specs.Data.{Data}
use Rattle.fv_declare_schema.specs.ValidPlaces.{ValidPlace}
use Rattle.fv_bundle.specs.Bundles.{Things}
use Rattle.fv_walk_traces.specs.Turns.{Way}
use Rattle.fv_local.specs.Graphs.{Link, links_among}
use Rattle.fv_local.specs.Ways.{way_place, way_at}

pub map_join : {X Y : Type 0} (f : X → Y) (xs ys : List X) → map f (xs ++ ys) ≡ map f xs ++ map f ys
map_join f [] ys = refl
map_join f (x ∷ xs) ys = ap (λ l. f x ∷ l) (map_join f xs ys)

filter_map_join : {X Y : Type 0} (h : X → Option Y) (xs ys : List X) → filter_map h (xs ++ ys) ≡ filter_map h xs ++ filter_map h ys
filter_map_join h [] ys = refl
filter_map_join {X} {Y} h (x ∷ xs) ys = go (h x) refl (filter_map_join h xs ys)
  where
    go : (o : Option Y) → h x ≡ o → filter_map h (xs ++ ys) ≡ filter_map h xs ++ filter_map h ys → filter_map h (x ∷ (xs ++ ys)) ≡ filter_map h (x ∷ xs) ++ filter_map h ys
    go None d ih = rw d ih
    go (Some z) d ih = rw d (ap (λ l. z ∷ l) ih)

-- the references among some parts and others
pub links_join : (os : Things) (p : ValidPlace) (parts others : List (Locus × Data)) → links_among os p (parts ++ others) ≡ links_among os p parts ++ links_among os p others
links_join os p parts others =
    ap (map (λ (w : Way). (p, w))) (filter_map_join (way_at os (way_place p)) parts others)
    ∙ map_join (λ (w : Way). (p, w)) (filter_map (way_at os (way_place p)) parts) (filter_map (way_at os (way_place p)) others)
