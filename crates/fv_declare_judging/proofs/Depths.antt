-- The cascades at a place of a draft and inside it: each stands further inside than those before it.
use Rattle.std.proofs.Common.{ℕ, ◌+◌, ◌<◌, ◌≤◌, List, [], ◌∷◌, ◌++◌, length, subst, arith}
use Rattle.std.proofs.lemmas.List.{length-append}
use Rattle.std.specs.List.{AllByRecursion}
use Rattle.fv_datum.specs.declared.kind.Kind.{Kind}
use Rattle.fv_declare_draft.specs.Cascades.{CascadeDraft}
use Rattle.fv_declare_draft.specs.Places.{PlaceDraft, Holding, PlacedCascade, place, plain, list, optional, a_map, cascade_there, type_held, cascades_at, cascades_inside}
use Rattle.fv_extract.specs.Places.{PlaceStep, element, value, content}
use Rattle.fv_bundle.specs.Types.{kind_of}
use Rattle.fv_datum.proofs.Lists.{each_of}
use Rattle.fv_declare_judging.specs.Judging.{AreDeepening}

-- at least so many steps inside
abbrev IsInside : ℕ → PlacedCascade → Type 0
IsInside n c = n ≤ length c.steps

-- these cascades stand at least so many steps inside, each further than those before it
abbrev Deepen : ℕ → List PlacedCascade → Type 0
Deepen n cs = AllByRecursion (IsInside n) cs × AreDeepening cs

-- a cascade before those that stand further inside
before : (steps : List PlaceStep) (kind : Kind) (cascade : CascadeDraft) (cs : List PlacedCascade) → Deepen (length steps + 1) cs → Deepen (length steps) (cascade_there steps kind cascade ∷ cs)
before steps kind cascade cs h = (
  (omega arith, each_of (IsInside (length steps + 1)) (IsInside (length steps)) cs (λ c k. omega arith) h.0),
  (each_of (IsInside (length steps + 1)) (λ c. length steps < length c.steps) cs (λ c k. omega arith) h.0, h.1),
)

-- one step further
further : (steps : List PlaceStep) (step : PlaceStep) (cs : List PlacedCascade) → Deepen (length (steps ++ step ∷ [])) cs → Deepen (length steps + 1) cs
further steps step cs h = subst (λ n. Deepen n cs) (length-append steps (step ∷ [])) h

mutual
  deep : (steps : List PlaceStep) (p : PlaceDraft) → Deepen (length steps) (cascades_at steps p)
  deep steps (place uses cascade held) = before steps (kind_of (type_held held)) cascade _ (deep_inside steps held)

  deep_inside : (steps : List PlaceStep) (held : Holding) → Deepen (length steps + 1) (cascades_inside steps held)
  deep_inside steps (plain type) = (tt, tt)
  deep_inside steps (list p) = further steps element _ (deep (steps ++ element ∷ []) p)
  deep_inside steps (optional p) = further steps content _ (deep (steps ++ content ∷ []) p)
  deep_inside steps (a_map keys p) = further steps value _ (deep (steps ++ value ∷ []) p)

pub place_deep : (p : PlaceDraft) → AreDeepening (cascades_at [] p)
place_deep p = (deep [] p).1
