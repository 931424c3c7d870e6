-- No two violations of a bundle have one path and one node.
use Rattle.std.proofs.Common.{◌≡◌, ◌<◌, ◌≤◌, ◌+◌, inl, inr, ℕ, zero, suc, ℤ, List, [], ◌∷◌, ◌++◌, map, Bool, true, false, cond, nat_eq, Option, Some, None, slice_get, refl, sym, ap, ap₂, subst, ◌∙◌}
use Rattle.std.proofs.lemmas.List.{append-nil}
use Rattle.std.specs.Option.{option_map_or}
use Rattle.fv_datum.specs.Data.{Data}
use Rattle.fv_declare_schema.specs.Declarations.{Placed, Declarations}
use Rattle.fv_declare_schema.specs.Ordered.{AreOrdered}
use Rattle.fv_extract.specs.Parts.{Locus, parts_at}
use Rattle.fv_extract.specs.Places as at
use Rattle.fv_graph.specs.Graph.{IsIn}
use Rattle.fv_local.specs.Failures.{Standing, standing_at, failures_of, failures_in}
use Rattle.fv_local.specs.Standings.{part_at, failures_at}
use Rattle.fv_local.specs.Own.{own_at, own_in}
use Rattle.fv_bundle.specs.Bundles.{Thing, Bundled}
use Rattle.fv_bundle.specs.WellTyped.{IsWellTyped}
use Rattle.fv_constraint_tree.specs.Trees.{size}
use Rattle.fv_path.specs.Nodes.{PathNode, field as field_node}
use Rattle.fv_local.specs.Below.{below}
use Rattle.fv_local.specs.Reached.{is_in, ranks_of}
use Rattle.fv_registry.specs.Meanings.{Meanings}
use Rattle.fv_local.specs.Loci.{leads}
use Rattle.fv_local.specs.Paths.{field_name, nodes_of}
use Rattle.fv_local.proofs.NodesApart.{locus_same}
use Rattle.fv_graph.proofs.Images.{from_flat_map, from_map}
use Rattle.fv_walk_traces.specs.Requests.{Own, Plain, InRanks, GraphRequest}
use Rattle.fv_walk_traces.specs.Turns as turn
use Rattle.fv_walk_traces.specs.Turns.{Spot, LocalFailure, Way}
use Rattle.fv_walk_traces.specs.Violations.{Violation, but_named, nodes_to, value_at, IsViolation}
use Rattle.fv_bundle.specs.Types.{number_of_type}
use Rattle.fv_declare_schema.specs.Places.{Place, whole, field}
use Rattle.fv_local.specs.Sound.{IsSound}
use Rattle.fv_local.specs.Requests.{object_at, request_of}
use Rattle.fv_local.proofs.Chains.{Leads, path_along, FailsIn, violation_along}
use Rattle.fv_local.proofs.Numbers.{at_spot, spots_within, one_use, from_uses}
use Rattle.fv_local.proofs.Objects.{sound_at}
use Rattle.fv_local.proofs.OneReference.{names_apart, IsHeld, held, held_led, same_target}
use Rattle.fv_local.proofs.LocatedParts.{part_there}
use Rattle.fv_local.proofs.Segments.{HaveNoField, IsHeaded, segments_same, none_of_part, none_of_named, field_stays}

-- ---- each failure of an object is one of a use, and stands where the use does

from_mapped : {X Y : Type 0} (f : X → Y) (xs : List X) (i : ℕ) (y : Y) → slice_get (map f xs) i ≡ Some y → (x : X) × (f x ≡ y)
from_mapped f [] i y e = cc
from_mapped f (x ∷ xs) zero y e = (x, cc)
from_mapped f (x ∷ xs) (suc i) y e = from_mapped f xs i y e

-- the spot is at a place of an object: the object itself, or one of its parts there
abbrev pub StandsIn : Thing → Place → Spot → Type 0
StandsIn object whole spot = spot ≡ turn.of_object
StandsIn object (field number steps kind) spot =
    (p : Locus × Data) × IsIn (parts_at object (record { field = number; steps = steps })) p × (spot ≡ turn.at (record { field = number; steps = steps }) p.0)

module _ (m : Meanings) (ds : Declarations) (now : ℤ) (object : Thing) where
  abbrev pub IsOfUse : LocalFailure → Type 0
  IsOfUse f = (u : Placed) × IsIn ds.occurrences u × IsIn (failures_of m now object u) f

  in_groups : (type : ℕ) (hs : List ℕ) (f : LocalFailure) → IsIn (failures_in m ds now object type hs) f → IsOfUse f
  in_groups type hs f h = from_uses (failures_of m now object) ds.occurrences (is_in type hs) f h

  at_own : (type h : ℕ) (f : LocalFailure) → FailsIn (own_at m ds now object type h) f → IsOfUse f
  at_own type h f = go (nat_eq h 0) (ranks_of ds type)
    where
      plain : Own
      plain = Plain (failures_in m ds now object type (h ∷ []))

      in_ranks : List ℕ → Own
      in_ranks ranks = InRanks (map (λ r. failures_in m ds now object type (below ds.groups r)) ranks)

      go : (b : Bool) (o : Option (List ℕ)) → FailsIn (cond b (option_map_or in_ranks o plain) plain) f → IsOfUse f
      go false o k = in_groups type (h ∷ []) f k
      go true None k = in_groups type (h ∷ []) f k
      go true (Some members) k =
          let rank = from_mapped (λ (r : ℕ). failures_in m ds now object type (below ds.groups r)) members k.0 k.1 k.2 in
          in_groups type (below ds.groups rank.0) f (subst (λ (l : List LocalFailure). IsIn l f) (sym rank.1) k.3)

  pub of_use : (h : ℕ) (f : LocalFailure) → FailsIn (own_in m ds now object h) f → IsOfUse f
  of_use h f = go (number_of_type ds.types object.type_name)
    where
      go : (o : Option ℕ) → FailsIn (option_map_or (λ type. own_at m ds now object type h) o (Plain [])) f → IsOfUse f
      go None k = absurd k
      go (Some type) k = at_own type h f k

  pub stands : (u : Placed) (f : LocalFailure) → IsIn (failures_of m now object u) f → StandsIn object u.place f.spot
  stands u f h =
      let p = from_flat_map (λ (s : Standing). failures_at m now s u) (standing_at object u.place) f h in
      go u.place p.0 (at_spot m now p.0 u f p.2) p.1
    where
      go : (place : Place) (s : Standing) → f.spot ≡ s.0 → IsIn (standing_at object place) s → StandsIn object place f.spot
      go whole s e (inl same) = e ∙ ap (λ (x : Standing). x.0) (sym same)
      go whole s e (inr k) = absurd k
      go (field number steps kind) s e k =
          let place : at.FieldPlace = record { field = number; steps = steps } in
          let p = from_map (part_at place) (parts_at object place) s k in
          (p.0, p.2, e ∙ ap (λ (x : Standing). x.0) p.1)

-- ---- paths that are one end at one spot of one object

name_same : (name other : List ℕ) (ns ms : List PathNode) → field_node name ∷ ns ≡ field_node other ∷ ms → (name ≡ other) × (ns ≡ ms)
name_same name other ns ms e = (cc, cc)

module _ (m : Meanings) (ds : Declarations) (now : ℤ) (b : Bundled) (asked : List ℕ) (ordered : AreOrdered ds) (typed : IsWellTyped ds.types b) where
  abbrev request : GraphRequest
  request = request_of m ds now b asked

  abbrev sound : (i : ℕ) → IsSound (object_at b i)
  sound i = sound_at ds b ordered typed i

  abbrev Held : ℕ → Way → Type 0
  Held i w = IsHeld ds b.objects (object_at b i) ordered (sound i) w

  way_held : (i : ℕ) (w : Way) → IsIn (request.ways i) w → Held i w
  way_held i w h = held ds b.objects (object_at b i) ordered (sound i) w h

  none_of_way : (i : ℕ) (w : Way) → IsIn (request.ways i) w → HaveNoField (but_named (nodes_of w.place.steps w.locus))
  none_of_way i w h = none_of_named w.place.steps w.locus (held_led ds b.objects (object_at b i) ordered (sound i) w (way_held i w h))

  -- a path along references begins with the field of the first
  path_head : (i : ℕ) (w : Way) (ws : List Way) (end : List PathNode) → path_along request i (w ∷ ws) end
      ≡ field_node (field_name (object_at b i) w.place.field) ∷ (but_named (nodes_of w.place.steps w.locus) ++ path_along request w.target ws end)
  path_head i w ws end = ap (λ (l : List PathNode). l ++ path_along request w.target ws end) (field_stays (field_name (object_at b i) w.place.field) (nodes_of w.place.steps w.locus))

  headed : (i : ℕ) (ws : List Way) (end : List PathNode) → IsHeaded end → IsHeaded (path_along request i ws end)
  headed i [] end h = h
  headed i (w ∷ ws) end h = subst IsHeaded (sym (path_head i w ws end)) refl

  end_headed : (i : ℕ) (place : Place) (s : Spot) → StandsIn (object_at b i) place s → IsHeaded (nodes_to request i s)
  end_headed i whole s h = subst (λ (x : Spot). IsHeaded (nodes_to request i x)) (sym h) tt
  end_headed i (field number steps kind) s h = subst (λ (x : Spot). IsHeaded (nodes_to request i x)) (sym h.2) refl

  spot_led : (i : ℕ) (place : at.FieldPlace) (p : Locus × Data) → IsIn (parts_at (object_at b i) place) p → leads place.steps p.0 ≡ true
  spot_led i place p h = (part_there (object_at b i) place p (sound i) h).led

  -- two spots at one place of an object, by their nodes
  same_spot : (i : ℕ) (place : Place) (s t : Spot) → StandsIn (object_at b i) place s → StandsIn (object_at b i) place t → nodes_to request i s ≡ nodes_to request i t → s ≡ t
  same_spot i whole s t h k e = h ∙ sym k
  same_spot i (field number steps kind) s t (p, p_in, s_is) (q, q_in, t_is) e =
      let place : at.FieldPlace = record { field = number; steps = steps } in
      let name = field_name (object_at b i) number in
      let nodes = name_same name name (nodes_of steps p.0) (nodes_of steps q.0) (ap (nodes_to request i) (sym s_is) ∙ e ∙ ap (nodes_to request i) t_is) in
      s_is ∙ ap (λ (l : Locus). turn.at place l) (locus_same steps p.0 q.0 (spot_led i place p p_in) (spot_led i place q q_in) nodes.1) ∙ sym t_is

  -- a path to a spot of an object doesn't go through a reference of it to a spot at the same place of another
  not_past : (place : Place) (s t : Spot) (i last : ℕ) (w : Way) (ws : List Way) → IsIn (request.ways i) w → StandsIn (object_at b i) place s → StandsIn (object_at b last) place t
      → nodes_to request i s ≡ path_along request i (w ∷ ws) (nodes_to request last t) → ⊥
  not_past whole s t i last w ws way h k e =
      let none : [] ≡ field_node _ ∷ _ = ap (nodes_to request i) (sym h) ∙ e ∙ path_head i w ws (nodes_to request last t) in
      cc
  not_past (field number steps kind) s t i last w ws way (p, p_in, s_is) (q, q_in, t_is) e =
      let place : at.FieldPlace = record { field = number; steps = steps } in
      let end = nodes_to request last (turn.at place q.0) in
      let rest = path_along request w.target ws end in
      let named = but_named (nodes_of w.place.steps w.locus) in
      let whole_path = ap (nodes_to request i) (sym s_is) ∙ e ∙ ap (λ (x : Spot). path_along request i (w ∷ ws) (nodes_to request last x)) t_is ∙ path_head i w ws end in
      let behind = name_same (field_name (object_at b i) number) (field_name (object_at b i) w.place.field) (nodes_of steps p.0) (named ++ rest) whole_path in
      let none = segments_same (nodes_of steps p.0) named [] rest (none_of_part steps p.0 (spot_led i place p p_in)) (none_of_way i w way) tt (headed w.target ws end refl) (append-nil (nodes_of steps p.0) ∙ behind.1) in
      goes_on w.target ws none.1
    where
      goes_on : (j : ℕ) (vs : List Way) → [] ≡ path_along request j vs (nodes_to request last (turn.at (record { field = number; steps = steps }) q.0)) → ⊥
      goes_on j [] none = cc
      goes_on j (v ∷ vs) none = let no : [] ≡ field_node _ ∷ _ = none ∙ path_head j v vs _ in cc

  same_end : (place : Place) (s t : Spot) (ways others : List Way) (i last other : ℕ) → Leads request i ways last → Leads request i others other
      → StandsIn (object_at b last) place s → StandsIn (object_at b other) place t
      → path_along request i ways (nodes_to request last s) ≡ path_along request i others (nodes_to request other t) → (last ≡ other) × (s ≡ t)
  same_end place s t [] [] i last other h k one two e =
      let same : last ≡ other = sym h ∙ k in
      (same, same_spot last place s t one (subst (λ (o : ℕ). StandsIn (object_at b o) place t) (sym same) two) (e ∙ ap (λ (o : ℕ). nodes_to request o t) (sym same)))
  same_end place s t [] (v ∷ vs) i last other h k one two e =
      absurd (not_past place s t i other v vs k.0 (subst (λ (o : ℕ). StandsIn (object_at b o) place s) (sym h) one) two (ap (λ (o : ℕ). nodes_to request o s) h ∙ e))
  same_end place s t (w ∷ ws) [] i last other h k one two e =
      absurd (not_past place t s i last w ws h.0 (subst (λ (o : ℕ). StandsIn (object_at b o) place t) (sym k) two) one (ap (λ (o : ℕ). nodes_to request o t) k ∙ sym e))
  same_end place s t (w ∷ ws) (v ∷ vs) i last other h k one two e =
      let end = nodes_to request last s in
      let stop = nodes_to request other t in
      let left = but_named (nodes_of w.place.steps w.locus) in
      let right = but_named (nodes_of v.place.steps v.locus) in
      let object = object_at b i in
      let heads = name_same (field_name object w.place.field) (field_name object v.place.field) (left ++ path_along request w.target ws end) (right ++ path_along request v.target vs stop)
      (sym (path_head i w ws end) ∙ e ∙ path_head i v vs stop) in
      let segments = segments_same left right (path_along request w.target ws end) (path_along request v.target vs stop) (none_of_way i w h.0) (none_of_way i v k.0)
      (headed w.target ws end (end_headed last place s one)) (headed v.target vs stop (end_headed other place t two)) heads.1 in
      let target = same_target ds b.objects object ordered (sound i) (names_apart ds b ordered typed i) w v (way_held i w h.0) (way_held i v k.0) heads.0 segments.0 in
      same_end place s t ws vs w.target last other h.1 (subst (λ (o : ℕ). Leads request o vs other) (sym target) k.1) one two
      (segments.1 ∙ ap (λ (o : ℕ). path_along request o vs stop) (sym target))

  -- failures of one node, to which references lead from one object by one path, are failures at one spot of one object
  same_failure : (f g : LocalFailure) (ways others : List Way) (i last other : ℕ) → IsOfUse m ds now (object_at b last) f → IsOfUse m ds now (object_at b other) g → Leads request i ways last → Leads request i others other
      → path_along request i ways (nodes_to request last f.spot) ≡ path_along request i others (nodes_to request other g.spot) → f.node ≡ g.node → (last ≡ other) × (f.spot ≡ g.spot)
  same_failure f g ways others i last other (u, u_in, f_in) (v, v_in, g_in) h k path node =
      let within_f = spots_within m now u (standing_at (object_at b last) u.place) f f_in in
      let within_g = spots_within m now v (standing_at (object_at b other) v.place) g g_in in
      let one : u ≡ v = one_use 0 ds.occurrences u v f ordered.numbered u_in v_in within_f (subst (λ (n : ℕ). (v.number ≤ n) × (n < v.number + size v.tree)) (sym node) within_g) in
      let there = stands m ds now (object_at b other) v g g_in in
      same_end u.place f.spot g.spot ways others i last other h k (stands m ds now (object_at b last) u f f_in) (subst (λ (x : Placed). StandsIn (object_at b other) x.place g.spot) (sym one) there) path

violation_same : (path other : List PathNode) (node number : ℕ) (value datum : Data) → path ≡ other → node ≡ number → value ≡ datum
    → ◌≡◌ {A = Violation} (record { path = path; node = node; value = value }) (record { path = other; node = number; value = datum })
violation_same path other node number value datum p n d = cc

-- no two violations have one path and one node
pub told_apart : (m : Meanings) (ds : Declarations) (now : ℤ) (b : Bundled) (asked : List ℕ) → AreOrdered ds → IsWellTyped ds.types b → (v w : Violation)
    → IsViolation (request_of m ds now b asked) v → IsViolation (request_of m ds now b asked) w → v.path ≡ w.path → v.node ≡ w.node → v ≡ w
told_apart m ds now b asked ordered typed v w one two path node =
    let request = request_of m ds now b asked in
    let p = violation_along request v one in
    let q = violation_along request w two in
    let f = p.3 in
    let g = q.3 in
    let same_path = ap (λ (x : Violation). x.path) (sym p.6) ∙ path ∙ ap (λ (x : Violation). x.path) q.6 in
    let same_node = ap (λ (x : Violation). x.node) (sym p.6) ∙ node ∙ ap (λ (x : Violation). x.node) q.6 in
    let same = same_failure m ds now b asked ordered typed f g p.0 q.0 request.root p.1 q.1 (of_use m ds now (object_at b p.1) p.2 f p.5) (of_use m ds now (object_at b q.1) q.2 g q.5) p.4 q.4 same_path same_node in
    p.6 ∙ violation_same _ _ f.node g.node _ _ same_path same_node (ap₂ (λ (o : ℕ) (s : Spot). value_at request o s) same.0 same.1) ∙ sym q.6
