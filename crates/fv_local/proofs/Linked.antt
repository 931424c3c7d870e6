-- The references that a graph keeps are those of the request, and each converts as the request does.
use Rattle.std.proofs.Common.{◌≡◌, ◌<◌, inl, inr, ℕ, zero, suc, List, [], ◌∷◌, ◌++◌, map, length, filter, get_or, Bool, true, false, cond, nat_eq, Option, Some, None, slice_get, Vec, refl, sym, ap, ap₂, subst, ◌∙◌, arith}
use Rattle.std.specs.List.{AllByRecursion, flat_map}
use Rattle.std.specs.Option.{option_map_or}
use Rattle.std.specs.declared.alloc.Global.{Global}
use Rattle.fv_declare_schema.specs.Declarations.{Declarations}
use Rattle.fv_declare_schema.specs.Ordered.{AreConversions, AreOrdered}
use Rattle.fv_extract.specs.Parts.{parts_at}
use Rattle.fv_graph.specs.Graph.{IsIn}
use Rattle.fv_declare_schema.specs.NumberViews.{valid_place_view}
use Rattle.fv_declare_schema.specs.ValidPlaces.{ValidPlace}
use Rattle.fv_bundle.specs.Bundles.{Thing, Things, Bundled}
use Rattle.fv_graph.proofs.Images.{from_flat_map, from_map}
use Rattle.fv_walk_traces.specs.Turns as turn
use Rattle.fv_bundle.specs.Types.{number_of_type}
use Rattle.fv_local.specs.declared.way.Way.{Way}
use Rattle.fv_local.specs.Conversions.{convert, converted_among, valid_places_of, valid_places_at}
use Rattle.fv_local.specs.Graphs.{Link, way_view, link_view, links_among, links_at, links_of, ways_view}
use Rattle.fv_local.specs.Requests.{object_at}
use Rattle.fv_local.specs.Ways.{way_place, ways_at, ways_of}
use Rattle.fv_local.proofs.Numbers.{each_in, from_filter}
use Rattle.fv_local.proofs.Places.{places_apart, converts_at}

pub all_from_in : {X : Type 0} (P : X → Type 0) (xs : List X) → ((x : X) → IsIn xs x → P x) → AllByRecursion P xs
all_from_in P [] h = tt
all_from_in P (x ∷ xs) h = (h x (inl refl), all_from_in P xs (λ y k. h y (inr k)))

all_mapped : {X Y : Type 0} (f : X → Y) (P : Y → Type 0) (xs : List X) → AllByRecursion P (map f xs) → AllByRecursion (λ x. P (f x)) xs
all_mapped f P [] h = tt
all_mapped f P (x ∷ xs) h = (h.0, all_mapped f P xs h.1)

map_join : {X Y : Type 0} (f : X → Y) (xs ys : List X) → map f (xs ++ ys) ≡ map f xs ++ map f ys
map_join f [] ys = refl
map_join f (x ∷ xs) ys = ap (λ l. f x ∷ l) (map_join f xs ys)

-- ---- references without their places

paired : (p : ValidPlace) (ws : List turn.Way) → map (λ (l : Link). l.1) (map (λ w. (p, w)) ws) ≡ ws
paired p [] = refl
paired p (w ∷ ws) = ap (λ (l : List turn.Way). w ∷ l) (paired p ws)

unpaired : (os : Things) (object : Thing) (ps : List ValidPlace) → map (λ (l : Link). l.1) (flat_map (links_at os object) ps) ≡ flat_map (ways_at os object) ps
unpaired os object [] = refl
unpaired os object (p ∷ ps) =
    map_join (λ (l : Link). l.1) (links_at os object p) (flat_map (links_at os object) ps)
    ∙ ap₂ (λ (x y : List turn.Way). x ++ y) (paired p (ways_at os object p)) (unpaired os object ps)

seen_ways : (ws : List Way) → map (λ (l : Link). l.1) (map link_view ws) ≡ map way_view ws
seen_ways [] = refl
seen_ways (w ∷ ws) = ap (λ (l : List turn.Way). way_view w ∷ l) (seen_ways ws)

-- ---- the references of an object

links_in : (ds : Declarations) (os : Things) (object : Thing) (l : Link) → IsIn (links_of ds os object) l → IsIn (valid_places_at ds object) l.0
links_in ds os object l h =
    let k = from_flat_map (links_at os object) (valid_places_at ds object) l h in
    let m = from_map (λ (w : turn.Way). (k.0, w)) (ways_at os object k.0) l k.2 in
    subst (IsIn (valid_places_at ds object)) (sym (ap (λ (x : Link). x.0) m.1)) k.1

declared_in : (ds : Declarations) (object : Thing) (p : ValidPlace) → IsIn (valid_places_at ds object) p → IsIn ds.valid_places p
declared_in ds object p h = go (number_of_type ds.types object.type_name) h
  where
    go : (o : Option ℕ) → IsIn (option_map_or (valid_places_of ds) o []) p → IsIn ds.valid_places p
    go None k = absurd k
    go (Some type) k = from_filter (λ (q : ValidPlace). nat_eq q.type type) ds.valid_places p k

module _ (ds : Declarations) (os : Things) (object : Thing) (ws : List Way) (kept : map link_view ws ≡ links_of ds os object) where
  pub ways_kept : map way_view ws ≡ ways_of ds os object
  ways_kept = sym (seen_ways ws) ∙ ap (map (λ (l : Link). l.1)) kept ∙ unpaired os object (valid_places_at ds object)

  each_place : (P : ValidPlace → Type 0) → ((p : ValidPlace) → IsIn (valid_places_at ds object) p → P p) → AllByRecursion (λ w. P (valid_place_view w.place.now)) ws
  each_place P each =
      all_mapped link_view (λ (l : Link). P l.0) ws
      (subst (λ (ls : List Link). AllByRecursion (λ l. P l.0) ls) (sym kept) (all_from_in (λ (l : Link). P l.0) (links_of ds os object) (λ l h. each l.0 (links_in ds os object l h))))

  pub conversions_kept : AreOrdered ds → AllByRecursion (λ w. (g : ℕ) → convert (valid_place_view w.place.now).conversions g ≡ converted_among (valid_places_at ds object) (way_place (valid_place_view w.place.now)) g) ws
  conversions_kept ordered =
      each_place (λ (p : ValidPlace). (g : ℕ) → convert p.conversions g ≡ converted_among (valid_places_at ds object) (way_place p) g)
      (λ p h g. sym (converts_at (valid_places_at ds object) p g (places_apart ds object ordered) h))

  pub groups_kept : AreOrdered ds → AllByRecursion (λ w. AreConversions ds.groups (valid_place_view w.place.now).conversions) ws
  groups_kept ordered =
      each_place (λ (p : ValidPlace). AreConversions ds.groups p.conversions)
      (λ p h. each_in (λ (q : ValidPlace). AreConversions ds.groups q.conversions) ds.valid_places p ordered.grouped.conversions (declared_in ds object p h))

-- ---- by the numbers of objects

get_map : {X Y Z : Type 0} (f : X → Z) (g : Y → Z) (xs : List X) (ys : List Y) (i : ℕ) (y : Y) → map f xs ≡ map g ys → slice_get ys i ≡ Some y → (x : X) × (slice_get xs i ≡ Some x) × (f x ≡ g y)
get_map f g [] [] i y e at = cc
get_map f g [] (z ∷ ys) i y e at = cc
get_map f g (x ∷ xs) [] i y e at = cc
get_map f g (x ∷ xs) (z ∷ ys) zero y e at =
    let first : f x ≡ g z = cc (e) in
    let same : z ≡ y = cc (at) in
    (x, refl, first ∙ ap g same)
get_map f g (x ∷ xs) (z ∷ ys) (suc i) y e at = let later : map f xs ≡ map g ys = cc (e) in get_map f g xs ys i y later at

-- the references that are kept for an object are its own
pub kept_at : (ds : Declarations) (b : Bundled) (lists : List (Vec Way Global)) (i : ℕ) (o : List ℕ × Thing) → ways_view lists ≡ map (λ p. links_of ds b.objects p.1) b.objects → slice_get b.objects i ≡ Some o
    → (v : Vec Way Global) × (slice_get lists i ≡ Some v) × (map link_view v.items ≡ links_of ds b.objects (object_at b i))
kept_at ds b lists i o e at =
    let k = get_map (λ (v : Vec Way Global). map link_view v.items) (λ (p : List ℕ × Thing). links_of ds b.objects p.1) lists b.objects i o e at in
    let same : o.1 ≡ object_at b i = sym (ap (λ (x : Option (List ℕ × Thing)). option_map_or (λ p. p.1) x (record { type_name = []; fields = [] })) at) in
    (k.0, k.1, k.2 ∙ ap (links_of ds b.objects) same)

pub same_length : (ds : Declarations) (b : Bundled) (lists : List (Vec Way Global)) → ways_view lists ≡ map (λ p. links_of ds b.objects p.1) b.objects → length lists ≡ length b.objects
same_length ds b lists e = go (λ (v : Vec Way Global). map link_view v.items) (λ (p : List ℕ × Thing). links_of ds b.objects p.1) lists b.objects e
  where
    go : {X Y Z : Type 0} (f : X → Z) (g : Y → Z) (xs : List X) (ys : List Y) → map f xs ≡ map g ys → length xs ≡ length ys
    go f g [] [] e = refl
    go f g [] (y ∷ ys) e = cc
    go f g (x ∷ xs) [] e = cc
    go f g (x ∷ xs) (y ∷ ys) e = let later : map f xs ≡ map g ys = cc (e) in ap suc (go f g xs ys later)

pub there : (b : Bundled) (i : ℕ) → i < length b.objects → (o : List ℕ × Thing) × (slice_get b.objects i ≡ Some o)
there b i less = go b.objects i less
  where
    go : {X : Type 0} (xs : List X) (i : ℕ) → i < length xs → (x : X) × (slice_get xs i ≡ Some x)
    go [] i less = absurd (omega arith)
    go (x ∷ xs) zero less = (x, refl)
    go (x ∷ xs) (suc i) less = go xs i (omega arith)
