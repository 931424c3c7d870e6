-- The violations in a field of an object that stands alone are what fails there in the ranks of the groups that are asked for.
use Rattle.std.proofs.Common.{◌≡◌, ℕ, ℤ, List, [], ◌∷◌, ◌++◌, filter, Bool, true, false, cond, Some, ◌↔◌, refl, sym, ap, subst, ◌∙◌, true≢false}
use Rattle.fv_declare_schema.specs.Declarations.{Declarations}
use Rattle.fv_graph.specs.Graph.{IsIn}
use Rattle.fv_declare_schema.specs.Groups.{is_sequence, ranks}
use Rattle.fv_graph.proofs.Images.{from_filter}
use Rattle.fv_local.specs.Own.{own_in}
use Rattle.fv_bundle.specs.Bundles.{Thing}
use Rattle.fv_registry.specs.Meanings.{Meanings}
use Rattle.fv_local.proofs.Chains as own
use Rattle.fv_local.proofs.Tidy.{plain_ranks}
use Rattle.fv_local.specs.Requests.{asked_groups, judging}
use Rattle.fv_walk_traces.proofs.Ends.{last_fail}
use Rattle.fv_walk_traces.proofs.OneField.{field_violation}
use Rattle.fv_datum.proofs.Lists.{map_get}
use Rattle.fv_walk_traces.specs.Frames.{held}
use Rattle.fv_walk_traces.specs.OneField.{is_in_field, IsViolationOfField, own_of_field, narrowed}
use Rattle.fv_walk_traces.specs.Requests.{Own, Plain, InRanks, GraphRequest}
use Rattle.fv_walk_traces.specs.Traces.{OwnEnds}
use Rattle.fv_walk_traces.specs.Turns.{Spot, of_object, at, LocalFailure, Group, Fail, Free, Rank, Turns}
use Rattle.fv_walk_traces.specs.Violations.{Violation}
use Rattle.fv_walk.specs.Properties.{alone, field_number, IsViolationIn}
use Rattle.fv_walk.specs.Ranks.{FailsFirst, FailsIn, violation_in, IsToldFor}
use Rattle.fv_walk.proofs.Ranked.{at_root, told_are_violations}

-- a failure that ends what fails in a field is in the field, and among what fails at all
abbrev IsInField : ℕ → Own → LocalFailure → Type 0
IsInField n o f = (is_in_field n f ≡ true) × own.FailsIn o f

ends_in_field : (n h : ℕ) (o : Own) (last before : Turns) (f : LocalFailure) → OwnEnds (own_of_field n o) last → Free (Group h) ∷ last ≡ before ++ Free (Fail f) ∷ [] → IsInField n o f
ends_in_field n h (Plain fails) last before f ends is =
    let same : ends.0 ≡ f = last_fail (Free (Group h) ∷ []) before ends.0 f (ap (λ (l : Turns). Free (Group h) ∷ l) (sym ends.2) ∙ is) in
    let kept = from_filter (is_in_field n) fails ends.0 ends.1 in
    subst (IsInField n (Plain fails)) same (kept.1, kept.0)
ends_in_field n h (InRanks lists) last before f ends is =
    let same : ends.2 ≡ f = last_fail (Free (Group h) ∷ Rank ends.0 ∷ []) before ends.2 f (ap (λ (l : Turns). Free (Group h) ∷ l) (sym ends.5) ∙ is) in
    let rank = map_get (filter (is_in_field n)) lists ends.0 ends.1 ends.3 in
    let kept = from_filter (is_in_field n) rank.0 ends.2 (subst (λ (l : List LocalFailure). IsIn l ends.2) rank.2 ends.4) in
    subst (IsInField n (InRanks lists)) same (kept.1, (ends.0, rank.0, rank.1, kept.0))

module _ (m : Meanings) (ds : Declarations) (now : ℤ) (object : Thing) (n : ℕ) where
  -- what fails in the field stands there, and is among what fails in a group
  pub in_field : (group : ℕ) (f : LocalFailure) → FailsIn m ds now object n group f → (h : ℕ) × (is_in_field n f ≡ true) × own.FailsIn (own_in m ds now object h) f
  in_field group f (r, before, (h, last, is_below, ends, r_is), spared, is) =
      let k = ends_in_field n h (own_in m ds now object h) last before f ends (sym r_is ∙ is) in
      (h, k.0, k.1)

  abbrev asking : List ℕ → GraphRequest
  asking groups = judging m ds now (alone object) groups

  abbrev here : List ℕ → GraphRequest
  here groups = narrowed n (asking groups)

  held_are : (groups : List ℕ) (g : ℕ) → held (here groups) g ≡ ranks ds.groups g
  held_are groups g = go (is_sequence ds.groups g) refl
    where
      go : (b : Bool) → is_sequence ds.groups g ≡ b → cond b (ranks ds.groups g) (g ∷ []) ≡ ranks ds.groups g
      go true e = refl
      go false e = sym (plain_ranks ds.groups g e)

  spot_told : (groups : List ℕ) (spot : Spot) (node : ℕ) → is_in_field n (record { spot = spot; node = node }) ≡ true → at_root (here groups) (record { spot = spot; node = node }) ≡ violation_in object (record { spot = spot; node = node })
  spot_told groups of_object node begins = absurd (true≢false (sym begins))
  spot_told groups (at place locus) node begins = refl

  told_in_field : (groups : List ℕ) (f : LocalFailure) → is_in_field n f ≡ true → at_root (here groups) f ≡ violation_in object f
  told_in_field groups f begins = spot_told groups f.spot f.node begins

  pub violations_told : (groups : List ℕ) (v : Violation) → IsViolationOfField (asking groups) n v ↔ IsToldFor m ds now object n groups v
  violations_told groups v = (
    λ h.
        (let t = (told_are_violations (here groups) (λ o way none. none) v).0 ((field_violation (asking groups) n v).0 h) in
        let fails = subst (λ (hs : List ℕ). FailsFirst (FailsIn m ds now object n) hs t.1) (held_are groups t.0) t.3 in
        (t.0, t.1, t.2, fails, t.4 ∙ told_in_field groups t.1 (in_field fails.1 t.1 fails.3).1)),
    λ t.
        (let fails = subst (λ (hs : List ℕ). FailsFirst (FailsIn m ds now object n) hs t.1) (sym (held_are groups t.0)) t.3 in
        (field_violation (asking groups) n v).1 ((told_are_violations (here groups) (λ o way none. none) v).1
        (t.0, t.1, t.2, fails, t.4 ∙ sym (told_in_field groups t.1 (in_field fails.1 t.1 fails.3).1)))),
  )

-- what is told for the groups that are asked for are the violations in the field of a name
pub violations_in : (m : Meanings) (ds : Declarations) (now : ℤ) (object : Thing) (name asked : List ℕ) (n : ℕ) (fs : List Violation) → field_number ds.types object.type_name name ≡ Some n
    → ((v : Violation) → IsIn fs v ↔ IsToldFor m ds now object n (asked_groups asked) v) → (v : Violation) → IsIn fs v ↔ IsViolationIn m ds now object name asked v
violations_in m ds now object name asked n fs is exact v = (
  λ h. (n, is, (violations_told m ds now object n (asked_groups asked) v).1 ((exact v).0 h)),
  λ h.
      (let both : Some h.0 ≡ Some n = sym h.1 ∙ is in
      let same : h.0 ≡ n = cc (both) in
      (exact v).1 (subst (λ (k : ℕ). IsToldFor m ds now object k (asked_groups asked) v) same ((violations_told m ds now object h.0 (asked_groups asked) v).0 h.2))),
)
