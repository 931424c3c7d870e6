-- What fails in an object, as it is told of the bundle.
use Rattle.std.proofs.Common.{◌≡◌, ◌<◌, ◌+◌, ℕ, zero, suc, List, [], ◌∷◌, ◌++◌, map, take, get_or, length, inl, inr, Option, Some, None, MatchOption, slice_get, Vec, Bor, refl, sym, ap, ap₂, subst, ◌∙◌, arith, append-nil, append_assoc}
use Rattle.std.proofs.lemmas.List.{map-append, take_more}
use Rattle.std.specs.Option.{option_map_or}
use Rattle.std.specs.declared.alloc.Global.{Global}
use Rattle.fv_datum.specs.Data.{Data}
use Rattle.fv_datum.specs.View.{view}
use Rattle.fv_datum.specs.declared.datum.Datum.{Datum}
use Rattle.fv_declare_schema.specs.Declarations.{Declarations}
use Rattle.fv_extract.specs.Parts.{Locus, parts_at}
use Rattle.fv_extract.specs.Places.{FieldPlace}
use Rattle.fv_extract.specs.Views.{part_view, place_view}
use Rattle.fv_extract.specs.declared.place.Part.{Part}
use Rattle.fv_extract.specs.declared.place.Place as code
use Rattle.fv_graph.specs.Graph.{IsIn}
use Rattle.fv_local.specs.FailureView.{IsFoundIn, failure_view}
use Rattle.fv_local.specs.declared.failure.LocalFailure.{LocalFailure}
use Rattle.fv_local.specs.declared.failure.Spot.{Spot}
use Rattle.fv_local.specs.declared.failure.Spot.TheVariants as spot
use Rattle.fv_bundle.specs.Bundles.{Thing, Things}
use Rattle.fv_path.proofs.Chains.{path_front}
use Rattle.fv_path.specs.Nodes.{PathNode}
use Rattle.fv_path.specs.Paths.{IsPath}
use Rattle.fv_path.specs.Views.{node_view}
use Rattle.fv_path.specs.declared.node.Node.{Node}
pub use Rattle.fv_local.proofs.LocatedParts.{part_there}
use Rattle.fv_local.proofs.Ways.{way_is}
use Rattle.fv_graph.proofs.Images.{from_filter_map, from_flat_map}
use Rattle.fv_local.specs.Conversions.{valid_places_at}
use Rattle.fv_local.specs.Requests.{nodes_at, object_at}
use Rattle.fv_local.specs.Sound.{IsSound}
use Rattle.fv_local.specs.Ways.{way_place, way_at, ways_at, ways_of}
use Rattle.fv_local.specs.Paths.{field_name}
use Rattle.fv_walk_traces.specs.Requests.{GraphRequest}
use Rattle.fv_walk_traces.specs.Turns.{Way}
use Rattle.fv_walk_traces.specs.Violations.{Violation, but_named}
use Rattle.fv_walk.proofs.Frames.{path_push}
use Rattle.fv_walk.proofs.Paths.{field_alone, last_dropped}
use Rattle.fv_walk.specs.Courses.{visiting, bundle_in}
use Rattle.fv_walk.specs.declared.course.Course.{Course}
use Rattle.fv_walk.specs.declared.course.Frame.{Frame}
use Rattle.fv_walk.specs.Paths.{TakesField}
use Rattle.fv_walk.specs.Stacks.{way_before, nodes_above, path_on}
use Rattle.fv_walk.specs.Walks.{told_at}

-- a part of an object stands at a place, with a locus
abbrev pub HasPart : Thing → FieldPlace → Locus → Type 0
HasPart object place l = (d : Data) × IsIn (parts_at object place) (l, d)

-- ---- the nodes to the object that a reference names

pub seen_empty : {X Y : Type 0} (f : X → Y) (xs : List X) → length xs ≡ 0 → map f xs ≡ []
seen_empty f [] e = refl
seen_empty f (x ∷ xs) e = absurd (omega arith)

pub empty_seen : {X Y : Type 0} (f : X → Y) (xs : List X) → map f xs ≡ [] → length xs ≡ 0
empty_seen f [] e = refl
empty_seen f (x ∷ xs) e = cc

-- from a path, by those of a reference, to where a field may follow
abbrev pub LeadsOn : Thing → FieldPlace → Locus → List PathNode → List PathNode → Type 0
LeadsOn object place l old new = (new ≡ old ++ but_named (nodes_at object place l)) × TakesField new

module _ (object : Thing) (place : FieldPlace) (l : Locus) (old whole : List PathNode) (sound : IsSound object) (there : HasPart object place l) (pushed : whole ≡ old ++ nodes_at object place l) (path : IsPath whole) where
  -- without a locus nothing is dropped
  pub field_leads : l ≡ [] → LeadsOn object place l old whole
  field_leads none = field_alone old whole (field_name object place.field) place.steps l (part_there object place (l, there.0) sound there.1).led pushed path none

  not_empty : (ns : List PathNode) (n : PathNode) (ms : List PathNode) → ns ++ n ∷ ms ≡ [] → ⊥
  not_empty [] n ms e = cc
  not_empty (m ∷ ns) n ms e = cc

  -- with one the last node is
  pub popped_leads : (l ≡ [] → ⊥) → (o : Option Node) (new : List PathNode) → MatchOption o ((whole ≡ []) × (new ≡ [])) (λ n. whole ≡ new ++ node_view n ∷ []) → LeadsOn object place l old new
  popped_leads some None new none = absurd (not_empty old _ _ (sym pushed ∙ none.0))
  popped_leads some (Some n) new popped = go l refl
    where
      kept : IsPath new
      kept = path_front new (node_view n) (subst IsPath popped path)

      go : (m : Locus) → l ≡ m → LeadsOn object place l old new
      go [] e = absurd (some e)
      go (x ∷ rest) e =
          last_dropped old whole (field_name object place.field) place.steps l (part_there object place (l, there.0) sound there.1).led pushed path x rest e new (node_view n) popped kept

-- ---- frames

-- each reference of an object is a part of it
pub way_part : (ds : Declarations) (os : Things) (object : Thing) (w : Way) → IsIn (ways_of ds os object) w → HasPart object w.place w.locus
way_part ds os object w h =
    let p = from_flat_map (ways_at os object) (valid_places_at ds object) w h in
    let part = from_filter_map (way_at os (way_place p.0)) (parts_at object (way_place p.0)) w p.2 in
    let is = way_is os (way_place p.0) part.0 w part.2 in
    (part.0.1, subst (λ (q : FieldPlace). IsIn (parts_at object q) (w.locus, part.0.1)) (sym is.0) (subst (λ (m : Locus). IsIn (parts_at object (way_place p.0)) (m, part.0.1)) (sym is.1) part.1))

got_in : (ways : List Way) (k : ℕ) (w : Way) → slice_get ways k ≡ Some w → IsIn ways w
got_in [] k w e = cc
got_in (v ∷ ways) zero w e = let same : v ≡ w = cc (e) in inl same
got_in (v ∷ ways) (suc k) w e = inr (got_in ways k w e)

before_in : (ways : List Way) (next : ℕ) (w : Way) → way_before ways next ≡ Some w → IsIn ways w
before_in ways zero w e = cc
before_in ways (suc k) w e = got_in ways k w e

module _ (c : Course) (f : Frame) (object : Thing) (is : object ≡ object_at (bundle_in c) f.object) where
  -- the reference before a frame's place is a part of the frame's object
  pub before_part : (w : Way) → way_before ((visiting c).ways f.object) f.next ≡ Some w → HasPart object w.place w.locus
  before_part w e =
      subst (λ (o : Thing). HasPart o w.place w.locus) (sym is)
      (way_part c.schema.now (bundle_in c).objects (object_at (bundle_in c) f.object) w (before_in ((visiting c).ways f.object) f.next w e))

  -- its nodes are those to the frame above
  pub nodes_before : (w : Way) → way_before ((visiting c).ways f.object) f.next ≡ Some w → but_named (nodes_at object w.place w.locus) ≡ nodes_above (visiting c) f
  nodes_before w e =
      ap (λ (o : Thing). but_named (nodes_at o w.place w.locus)) is
      ∙ sym (ap (λ (o : Option Way). option_map_or (λ (w : Way). but_named ((visiting c).nodes f.object w.place w.locus)) o []) e)

  -- without one there are none
  pub none_before : (path : List PathNode) → way_before ((visiting c).ways f.object) f.next ≡ None → path ≡ path ++ nodes_above (visiting c) f
  none_before path e =
      sym (append-nil path)
      ∙ ap (λ (o : Option Way). path ++ option_map_or (λ (w : Way). but_named ((visiting c).nodes f.object w.place w.locus)) o []) (sym e)

-- the path over one frame more
pub path_further : (request : GraphRequest) (stack : List Frame) (i : ℕ) (d : Frame) (path new : List PathNode) → i < length stack → path ≡ path_on request (take i stack)
    → new ≡ path ++ nodes_above request (get_or stack i d) → new ≡ path_on request (take (i + 1) stack)
path_further request stack i d path new less is added =
    added
    ∙ ap (λ (ns : List PathNode). ns ++ nodes_above request (get_or stack i d)) is
    ∙ sym (path_push request (take i stack) (get_or stack i d))
    ∙ sym (ap (path_on request) (take_more stack i d less))

-- ---- failures

-- a failure of a part has the part's nodes and its datum
pub told_part : (c : Course) (object : ℕ) (above : List PathNode) (f : LocalFailure) (place : code.Place) (locus : Vec Part Global) (datum : Bor Datum)
    → f.spot ≡ spot.Part place locus datum → IsSound (object_at (bundle_in c) object) → IsFoundIn (object_at (bundle_in c) object) f.spot
    → (path : List PathNode) (value : Data) → path ≡ above ++ nodes_at (object_at (bundle_in c) object) (place_view place) (map part_view locus.items) → value ≡ view datum.now
    → ◌≡◌ {A = Violation} (record { path = path; node = f.number; value = value }) (told_at (visiting c) above object (failure_view f))
told_part c object above f place locus datum is sound found path value path_is value_is =
    let thing = object_at (bundle_in c) object in
    let there = part_there thing (place_view place) (map part_view locus.items, view datum.now) sound (subst (IsFoundIn thing) is found) in
    let told : ◌≡◌ {A = Violation} (record { path = path; node = f.number; value = value }) (told_at (visiting c) above object (failure_view (record { spot = spot.Part place locus datum; number = f.number }))) =
    ap₂ (λ (p : List PathNode) (v : Data). record { path = p; node = f.number; value = v }) path_is (value_is ∙ sym there.datum) in
    told ∙ ap (λ (s : Spot). told_at (visiting c) above object (failure_view (record { spot = s; number = f.number }))) (sym is)

-- one failure more is told
pub told_further : {F L M V : Type 0} (view : F → V) (seen : L → M) (told : M → V) (before : List V) (items new : List F) (f : F) (found : List L) (i : ℕ) (l : L)
    → i < length found → l ≡ get_or found i l → new ≡ items ++ f ∷ [] → view f ≡ told (seen l)
    → map view items ≡ before ++ map told (map seen (take i found)) → map view new ≡ before ++ map told (map seen (take (i + 1) found))
told_further {F} {L} {M} {V} view seen told before items new f found i l less is pushed same so_far =
    let so = take i found in
    let more : take (i + 1) found ≡ so ++ l ∷ [] = take_more found i l less ∙ ap (λ (x : L). so ++ x ∷ []) (sym is) in
    let all : map told (map seen (take (i + 1) found)) ≡ map told (map seen so) ++ told (seen l) ∷ [] =
    ap (λ (ls : List L). map told (map seen ls)) more ∙ ap (map told) (map-append seen so (l ∷ [])) ∙ map-append told (map seen so) (seen l ∷ []) in
    ap (map view) pushed
    ∙ map-append view items (f ∷ [])
    ∙ ap (λ (v : V). map view items ++ v ∷ []) same
    ∙ ap (λ (vs : List V). vs ++ told (seen l) ∷ []) so_far
    ∙ append_assoc before (map told (map seen so)) (told (seen l) ∷ [])
    ∙ ap (λ (vs : List V). before ++ vs) (sym all)
