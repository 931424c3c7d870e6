-- No two violations in a field have one path and one node.
use Rattle.std.proofs.Common.{◌≡◌, ◌<◌, ◌≤◌, ◌+◌, ℕ, ℤ, List, ◌∷◌, Some, sym, ap, ap₂, subst, ◌∙◌}
use Rattle.fv_declare_schema.specs.Declarations.{Placed, Declarations}
use Rattle.fv_declare_schema.specs.Ordered.{AreOrdered}
use Rattle.fv_extract.specs.Parts.{Locus}
use Rattle.fv_extract.specs.Places as to
use Rattle.fv_local.specs.Failures.{standing_at}
use Rattle.fv_bundle.specs.Bundles.{Thing}
use Rattle.fv_constraint_tree.specs.Trees.{size}
use Rattle.fv_path.specs.Nodes.{PathNode, field as field_node}
use Rattle.fv_registry.specs.Meanings.{Meanings}
use Rattle.fv_local.proofs.Apart.{StandsIn, IsOfUse, of_use, stands}
use Rattle.fv_local.proofs.Numbers.{spots_within, one_use}
use Rattle.fv_local.proofs.LocatedParts.{part_there}
use Rattle.fv_local.specs.Requests.{asked_groups}
use Rattle.fv_local.specs.Sound.{IsSound}
use Rattle.fv_local.proofs.NodesApart.{locus_same}
use Rattle.fv_walk_traces.specs.Turns.{Spot, at, LocalFailure}
use Rattle.fv_walk_traces.specs.Violations.{Violation}
use Rattle.fv_declare_schema.specs.Places.{Place, whole, field}
use Rattle.fv_walk.specs.Properties.{IsViolationIn}
use Rattle.fv_walk.specs.Ranks.{nodes_in, violation_in, IsToldFor}
use Rattle.fv_bundle.specs.WellTyped.{IsOfType}
use Rattle.fv_walk.proofs.Alone.{in_field, violations_told}
use Rattle.fv_walk.proofs.Typed.{type_sound}

nodes_same : (name : List ℕ) (ns ms : List PathNode) → field_node name ∷ ns ≡ field_node name ∷ ms → ns ≡ ms
nodes_same name ns ms e = cc

-- two spots at one place of an object, by their nodes
same_spot : (object : Thing) (place : Place) (s t : Spot) → IsSound object → StandsIn object place s → StandsIn object place t → nodes_in object s ≡ nodes_in object t → s ≡ t
same_spot object whole s t sound h k e = h ∙ sym k
same_spot object (field number steps kind) s t sound (p, p_in, s_is) (q, q_in, t_is) e =
    let place : to.FieldPlace = record { field = number; steps = steps } in
    let nodes = nodes_same _ _ _ (ap (nodes_in object) (sym s_is) ∙ e ∙ ap (nodes_in object) t_is) in
    let same = locus_same steps p.0 q.0 (part_there object place p sound p_in).led (part_there object place q sound q_in).led nodes in
    s_is ∙ ap (λ (l : Locus). at place l) same ∙ sym t_is

module _ (m : Meanings) (ds : Declarations) (now : ℤ) (object : Thing) (ordered : AreOrdered ds) (sound : IsSound object) where
  -- two failures of one node with one list of nodes stand at one spot
  same_failure : (f g : LocalFailure) → IsOfUse m ds now object f → IsOfUse m ds now object g → nodes_in object f.spot ≡ nodes_in object g.spot → f.node ≡ g.node → f.spot ≡ g.spot
  same_failure f g (u, u_in, f_in) (v, v_in, g_in) nodes node =
      let within_f = spots_within m now u (standing_at object u.place) f f_in in
      let within_g = spots_within m now v (standing_at object v.place) g g_in in
      let one : u ≡ v = one_use 0 ds.occurrences u v f ordered.numbered u_in v_in within_f (subst (λ (n : ℕ). (v.number ≤ n) × (n < v.number + size v.tree)) (sym node) within_g) in
      same_spot object u.place f.spot g.spot sound (stands m ds now object u f f_in) (subst (λ (x : Placed). StandsIn object x.place g.spot) (sym one) (stands m ds now object v g g_in)) nodes

  failure_same : (f g : LocalFailure) → f.spot ≡ g.spot → f.node ≡ g.node → violation_in object f ≡ violation_in object g
  failure_same f g spot node = ap₂ (λ (s : Spot) (k : ℕ). violation_in object (record { spot = s; node = k })) spot node

  told_apart : (n : ℕ) (groups : List ℕ) (v w : Violation) → IsToldFor m ds now object n groups v → IsToldFor m ds now object n groups w → v.path ≡ w.path → v.node ≡ w.node → v ≡ w
  told_apart n groups v w (a, f, a_in, f_fails, v_is) (b, g, b_in, g_fails, w_is) path node =
      let of_f = in_field m ds now object n f_fails.1 f f_fails.3 in
      let of_g = in_field m ds now object n g_fails.1 g g_fails.3 in
      let nodes = sym (ap (λ (x : Violation). x.path) v_is) ∙ path ∙ ap (λ (x : Violation). x.path) w_is in
      let numbers = sym (ap (λ (x : Violation). x.node) v_is) ∙ node ∙ ap (λ (x : Violation). x.node) w_is in
      let spot = same_failure f g (of_use m ds now object of_f.0 f of_f.2) (of_use m ds now object of_g.0 g of_g.2) nodes numbers in
      v_is ∙ failure_same f g spot numbers ∙ sym w_is

pub field_told_apart : (m : Meanings) (ds : Declarations) (now : ℤ) (object : Thing) (name asked : List ℕ) → AreOrdered ds → IsOfType ds.types object → (v w : Violation)
    → IsViolationIn m ds now object name asked v → IsViolationIn m ds now object name asked w → v.path ≡ w.path → v.node ≡ w.node → v ≡ w
field_told_apart m ds now object name asked ordered typed v w (n, is, one) (k, there, other) path node =
    let both : Some n ≡ Some k = sym is ∙ there in
    let same : n ≡ k = cc (both) in
    let groups = asked_groups asked in
    told_apart m ds now object ordered (type_sound ds object ordered typed) n groups v w ((violations_told m ds now object n groups v).0 one)
    (subst (λ (i : ℕ). IsToldFor m ds now object i groups w) (sym same) ((violations_told m ds now object k groups w).0 other)) path node
