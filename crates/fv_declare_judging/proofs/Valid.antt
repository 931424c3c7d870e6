-- Where objects are validated there are references.
use Rattle.std.proofs.Common.{◌≡◌, ◌⊎◌, inl, inr, List, [], ◌∷◌, Bool, true, false, not, ◌||◌, ◌&&◌, Option, Some, None, if◌then◌else◌, refl, subst}
use Rattle.std.specs.List.{AllByRecursion, list_any, cons_option}
use Rattle.fv_datum.specs.declared.kind.Kind.{Kind}
use Rattle.fv_datum.specs.declared.kind.Kind.TheVariants as kind
use Rattle.fv_declare_draft.specs.Drafts.{Drafted}
use Rattle.fv_declare_groups.specs.First.{IsFirst}
use Rattle.fv_declare_groups.specs.Grouping.{groups_in, is_reference, is_misplaced, grouping_faults, Holds}
use Rattle.fv_declare_schema.specs.ValidPlaces.{ValidPlace}
use Rattle.fv_declare_groups.specs.Numbered.{valid_place, valid_places}
use Rattle.fv_declare_groups.specs.declared.fault.GroupingFault.{GroupingFault}
use Rattle.fv_declare_schema.specs.Groups.{Groups}
use Rattle.fv_datum.proofs.Bools.{not_false, or_left, or_right}
use Rattle.fv_bundle.specs.Types.{Declared}
use Rattle.fv_declare_draft.specs.AllCascades.{Cascade, cascades_in}
use Rattle.fv_declare_schema.specs.Places.{field}
use Rattle.fv_declare_schema.specs.Ordered.{IsAmong, IsValidIn}
use Rattle.fv_declare_judging.proofs.There.{IsCascadeThere}

reference : (k : Kind) → is_reference k ≡ true → k ≡ kind.Ref
reference kind.Ref e = refl
reference kind.Text e = cc
reference kind.Integer e = cc
reference kind.Decimal e = cc
reference kind.Boolean e = cc
reference kind.Date e = cc
reference kind.Instant e = cc
reference kind.List e = cc
reference kind.Map e = cc
reference kind.Optional e = cc

valid_reference : (v : Bool) (k : Kind) (b c : Bool) → (((v && not (is_reference k)) || b) || c) ≡ false → v ≡ true → k ≡ kind.Ref
valid_reference false k b c e t = cc
valid_reference true k b c e t = reference k (not_false (is_reference k) (or_left (not (is_reference k)) b (or_left (not (is_reference k) || b) c e)))

module _ (gs : Groups) (all : Declared) where
  one : (c : Cascade) (v : Bool) (rest : List ValidPlace) → (v ≡ true → IsValidIn all (valid_place gs c)) → AllByRecursion (IsValidIn all) rest → AllByRecursion (IsValidIn all) (cons_option (if v then Some (valid_place gs c) else None) rest)
  one c false rest h k = k
  one c true rest h k = (h refl, k)

  -- the places of cascades that are there and not misplaced
  pub valid_all : (cs : List Cascade) → AllByRecursion (IsCascadeThere all) cs → list_any (is_misplaced gs) cs ≡ false → AllByRecursion (IsValidIn all) (valid_places gs cs)
  valid_all [] h e = tt
  valid_all (c ∷ cs) h e =
      let cascade = c.placed.cascade in
      let here : is_misplaced gs c ≡ false = or_left (is_misplaced gs c) (list_any (is_misplaced gs) cs) e in
      one c cascade.valid (valid_places gs cs)
      (λ v. (h.0.0, h.0.1, subst (λ (k : Kind). IsAmong h.0.0.1 (field c.field c.placed.steps k)) (valid_reference cascade.valid c.placed.kind _ _ here v) h.0.2))
      (valid_all cs h.1 (or_right (is_misplaced gs c) (list_any (is_misplaced gs) cs) e))

-- ---- no condition of a fault holds

next : {P R : Type 0} (f : GroupingFault) → (P × (◌≡◌ {A = Option GroupingFault} None (Some f))) ⊎ ((P → ⊥) × R) → (P → ⊥) × R
next f (inl h) = cc (h.1)
next f (inr h) = h

pub not_true : (b : Bool) → (b ≡ true → ⊥) → b ≡ false
not_true true h = absurd (h refl)
not_true false h = refl

-- nothing is misplaced
pub none_misplaced : (d : Drafted) → IsFirst (Holds d) grouping_faults None → list_any (is_misplaced (groups_in d)) (cascades_in d.types) ≡ false
none_misplaced d h =
    let conversions = next _ (next _ (next _ (next _ (next _ (next _ (next _ h).1).1).1).1).1).1 in
    not_true _ conversions.0
