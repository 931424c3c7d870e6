-- What is told of visits.
use Rattle.std.proofs.Common.{◌≡◌, ◌<◌, ◌≤◌, ◌↔◌, ℕ, ℤ, zero, suc, ◌+◌, List, [], ◌∷◌, ◌++◌, length, map, take, get_or, Bool, true, false, not, nat_eq, IsTrue, Vec, inl, inr, refl, sym, ap, ap₂, subst, ◌∙◌, arith, fold}
use Rattle.std.proofs.lemmas.List.{take_more, map-append}
use Rattle.std.specs.declared.alloc.Global.{Global}
use Rattle.fv_datum.specs.Data.{Data}
use Rattle.fv_declare_schema.specs.Declarations.{Declarations}
use Rattle.fv_graph.specs.Graph.{IsIn}
use Rattle.fv_graph.proofs.Lists.{in_left, in_right, in_cases}
use Rattle.fv_local.specs.FailureView.{failure_view}
use Rattle.fv_local.specs.Own.{own_in}
use Rattle.fv_local.specs.declared.failure.LocalFailure as found
use Rattle.fv_bundle.specs.Bundles.{Thing}
use Rattle.fv_path.specs.Nodes.{PathNode}
use Rattle.fv_local.specs.Below.{below}
use Rattle.fv_registry.specs.Meanings.{Meanings}
use Rattle.fv_local.specs.Requests.{object_at}
use Rattle.fv_graph.proofs.Images.{in_map, from_map}
use Rattle.fv_walk_traces.specs.Listing.{violation_at}
use Rattle.fv_walk_traces.specs.OneObject.{IsLocalIn}
use Rattle.fv_walk_traces.specs.Reaching.{at_object, violation}
use Rattle.fv_walk_traces.specs.Requests.{GraphRequest}
use Rattle.fv_walk_traces.specs.Turns.{LocalFailure, Fail, Free, Turns, ShadowsByRecursion}
use Rattle.fv_walk_traces.specs.Violations.{Reached, Violation, nodes_to, onward, value_at}
use Rattle.fv_walk.specs.FailureView as told
use Rattle.fv_walk.specs.declared.failure.Failure.{Failure}
use Rattle.fv_listing.specs.Arrivals.{Arrival}
use Rattle.fv_listing.specs.Courses.{bundle_in, judging}
use Rattle.fv_listing.specs.Listed.{AreLocal, IsFailingAt, AddsFailing, AreFailing, IsHidden, IsToldOf, Tells, AreTold}
use Rattle.fv_listing.specs.Turns.{turns_view}
use Rattle.fv_listing.specs.Visits.{visit_view}
use Rattle.fv_listing.specs.declared.course.Course.{Course}
use Rattle.fv_listing.specs.declared.turn.Turn as code
use Rattle.fv_listing.specs.declared.visit.Visit.{Visit}

-- what is judged of an object of the bundle by its declarations
pub local_by : (m : Meanings) (now : ℤ) (c : Course) (ds : Declarations) (a : Arrival) (t : Thing) (fails : List LocalFailure) → ds ≡ c.schema.now → t ≡ object_at (bundle_in c) a.object
    → ((f : LocalFailure) → IsIn fails f ↔ IsLocalIn (below ds.groups a.carried) (own_in m ds now t) f)
    → AreLocal (judging m now c) a fails
local_by m now c ds a t fails same is exact = record {
  exact = λ f.
      subst (λ (d : Declarations). IsIn fails f ↔ IsLocalIn (below d.groups a.carried) (own_in m d now (object_at (bundle_in c) a.object)) f) same
      (subst (λ (u : Thing). IsIn fails f ↔ IsLocalIn (below ds.groups a.carried) (own_in m ds now u) f) is (exact f));
}

-- a failure at the object of a visit, by the path there
pub told_is : (request : GraphRequest) (a : Arrival) (f : LocalFailure) (before path : List PathNode) (value : Data)
    → at_object before a.object ≡ fold (onward request) (at_object [] request.root) a.turns → path ≡ before ++ nodes_to request a.object f.spot → value ≡ value_at request a.object f.spot
    → ◌≡◌ {A = Violation} (record { path = path; node = f.node; value = value }) (violation_at request a.turns f)
told_is request a f before path value there path_is value_is =
    ap₂ (λ (p : List PathNode) (v : Data). record { path = p; node = f.node; value = v }) path_is value_is
    ∙ ap (λ (x : Reached). violation (onward request x (Free (Fail f)))) there

-- one element more of what is seen of a list
pub seen_more : {X Y : Type 0} (f : X → Y) (xs : List X) (k : ℕ) (x : X) → k < length xs → x ≡ get_or xs k x → map f (take (k + 1) xs) ≡ map f (take k xs) ++ f x ∷ []
seen_more f xs k x less is =
    ap (map f) (take_more xs k x less ∙ ap (λ y. take k xs ++ y ∷ []) (sym is)) ∙ map-append f (take k xs) (x ∷ [])

-- all that is seen of a list
pub all_seen : {X Y : Type 0} (f : X → Y) (xs : List X) (k : ℕ) → length xs ≤ k → map f (take k xs) ≡ map f xs
all_seen f [] zero past = refl
all_seen f [] (suc k) past = refl
all_seen f (x ∷ xs) zero past = absurd (omega arith)
all_seen f (x ∷ xs) (suc k) past = ap (λ l. f x ∷ l) (all_seen f xs k (omega arith))

-- ---- which visits fail

-- something fails where the list isn't empty
pub fails_if : (request : GraphRequest) (a : Arrival) (fs : List found.LocalFailure) (n : ℕ) (empty : Bool) → AreLocal request a (map failure_view fs) → n ≡ length fs → empty ≡ nat_eq n 0 → IsTrue (not empty) ↔ IsFailingAt request a
fails_if request a [] n empty local long is = (
  λ h. absurd (let e : empty ≡ true = grind (arith, long, is) in let clash : false ≡ true = ap not (sym e) ∙ h in cc),
  λ h. absurd ((local.exact h.failure).1 h.fails),
)
fails_if request a (f ∷ fs) n empty local long is = (
  λ h. record { failure = failure_view f; fails = (local.exact (failure_view f)).0 (inl refl) },
  λ h. (let e : empty ≡ false = grind (arith, long, is) in ap not e),
)

module _ (request : GraphRequest) where
  pub failing_none : AreFailing request [] []
  failing_none = record { exact = λ t. (λ h. absurd h, λ h. absurd h.1) }

  pub failing_more : (failing : List Turns) (a : Arrival) → IsFailingAt request a → AddsFailing request a failing (failing ++ a.turns ∷ [])
  failing_more failing a fails = record {
    exact = λ all are. record {
      exact = λ t. (
        λ h. elim (in_cases failing (a.turns ∷ []) t h) [
          | inl k ↦ (let m = (are.exact t).0 k in (m.0, in_left all (a ∷ []) m.0 m.1, m.2, m.3))
          | inr k ↦ elim k [
            | inl same ↦ (a, in_right all (a ∷ []) a (inl refl), sym same, fails)
            | inr none ↦ absurd none
          ]
        ],
        λ h. elim (in_cases all (a ∷ []) h.0 h.1) [
          | inl k ↦ in_left failing (a.turns ∷ []) t ((are.exact t).1 (h.0, k, h.2, h.3))
          | inr k ↦ elim k [
            | inl same ↦ in_right failing (a.turns ∷ []) t (inl (ap (λ (b : Arrival). b.turns) same ∙ sym h.2))
            | inr none ↦ absurd none
          ]
        ],
      );
    };
  }

  pub failing_same : (failing : List Turns) (a : Arrival) → (IsFailingAt request a → ⊥) → AddsFailing request a failing failing
  failing_same failing a passes = record {
    exact = λ all are. record {
      exact = λ t. (
        λ h. (let m = (are.exact t).0 h in (m.0, in_left all (a ∷ []) m.0 m.1, m.2, m.3)),
        λ h. elim (in_cases all (a ∷ []) h.0 h.1) [
          | inl k ↦ (are.exact t).1 (h.0, k, h.2, h.3)
          | inr k ↦ elim k [
            | inl same ↦ absurd (passes (subst (IsFailingAt request) (sym same) h.3))
            | inr none ↦ absurd none
          ]
        ],
      );
    };
  }

-- ---- which are hidden

pub hidden_more : (failing : List Turns) (t turns : Turns) → (IsHidden failing turns → ⊥) → (ShadowsByRecursion t turns → ⊥) → IsHidden (failing ++ t ∷ []) turns → ⊥
hidden_more failing t turns before unshadowed h =
    elim (in_cases failing (t ∷ []) h.0 h.1) [
      | inl k ↦ before (h.0, k, h.2)
      | inr k ↦ elim k [
        | inl same ↦ unshadowed (subst (λ (b : Turns). ShadowsByRecursion b turns) (sym same) h.2)
        | inr none ↦ absurd none
      ]
    ]

pub seen_at : {X Y : Type 0} (f : X → Y) (xs : List X) (k : ℕ) (x : X) → k < length xs → x ≡ get_or xs k x → IsIn (map f xs) (f x)
seen_at f [] k x less is = absurd (omega arith)
seen_at f (y ∷ xs) zero x less is = inl (ap f (sym is))
seen_at f (y ∷ xs) (suc k) x less is = inr (seen_at f xs k x (omega arith) is)

-- ---- what is told

-- what fails at a visit is told, unless failing turns shadow it
pub record TellsOpen (request : GraphRequest) (failing : List Turns) (a : Arrival) (before after : List Violation) : Type 0 where
  pub exact : (some : List Arrival) → AreTold request failing some before → AreTold request failing (some ++ a ∷ []) after

module _ (request : GraphRequest) where
  -- what fails at a visit, as it is told by another request
  pub tells_all : (other : GraphRequest) (a : Arrival) (before after : List Violation) (fails : List LocalFailure) → ((f : LocalFailure) → violation_at other a.turns f ≡ violation_at request a.turns f) → AreLocal request a fails
      → after ≡ before ++ map (violation_at other a.turns) fails → Tells request a before after
  tells_all other a before after fails alike local added = record {
    exact = λ v. (
      λ h. elim (in_cases before (map (violation_at other a.turns) fails) v (subst (λ (l : List Violation). IsIn l v) added h)) [
        | inl k ↦ inl k
        | inr k ↦ (let m = from_map (violation_at other a.turns) fails v k in inr (m.0, (local.exact m.0).0 m.2, m.1 ∙ alike m.0))
      ],
      λ h. subst (λ (l : List Violation). IsIn l v) (sym added) (elim h [
        | inl k ↦ in_left before (map (violation_at other a.turns) fails) v k
        | inr k ↦
            in_right before (map (violation_at other a.turns) fails) v
            (subst (IsIn (map (violation_at other a.turns) fails)) (sym (k.2 ∙ sym (alike k.0))) (in_map (violation_at other a.turns) fails k.0 ((local.exact k.0).1 k.1)))
      ]),
    );
  }

  module _ (failing : List Turns) where
    pub told_none : AreTold request failing [] []
    told_none = record { exact = λ v. (λ h. absurd h, λ h. absurd h.1) }

    -- a visit that is hidden
    pub told_hidden : (a : Arrival) (vs : List Violation) → IsHidden failing a.turns → TellsOpen request failing a vs vs
    told_hidden a vs hidden = record {
      exact = λ some told. record {
        exact = λ v. (
          λ h. (let m = (told.exact v).0 h in (m.0, in_left some (a ∷ []) m.0 m.1, m.2, m.3)),
          λ h. elim (in_cases some (a ∷ []) h.0 h.1) [
            | inl k ↦ (told.exact v).1 (h.0, k, h.2, h.3)
            | inr k ↦ elim k [
              | inl same ↦ absurd (h.2 (subst (λ (b : Arrival). IsHidden failing b.turns) same hidden))
              | inr none ↦ absurd none
            ]
          ],
        );
      };
    }

    -- one that isn't
    pub told_open : (a : Arrival) (before after : List Violation) → (IsHidden failing a.turns → ⊥) → Tells request a before after → TellsOpen request failing a before after
    told_open a before after unhidden tells = record {
      exact = λ some told. record {
        exact = λ v. (
          λ h. elim ((tells.exact v).0 h) [
            | inl k ↦ (let m = (told.exact v).0 k in (m.0, in_left some (a ∷ []) m.0 m.1, m.2, m.3))
            | inr k ↦ (a, in_right some (a ∷ []) a (inl refl), unhidden, k)
          ],
          λ h. (tells.exact v).1 (elim (in_cases some (a ∷ []) h.0 h.1) [
            | inl k ↦ inl ((told.exact v).1 (h.0, k, h.2, h.3))
            | inr k ↦ elim k [
              | inl same ↦ inr (subst (λ (b : Arrival). IsToldOf request b v) (sym same) h.3)
              | inr none ↦ absurd none
            ]
          ]),
        );
      };
    }

-- ---- visit by visit

module _ (request : GraphRequest) (visits : List Visit) (k : ℕ) where
  pub failing_next : (v : Visit) (before after : List Turns) → k < length visits → v ≡ get_or visits k v → AreFailing request (map visit_view (take k visits)) before → AddsFailing request (visit_view v) before after
      → AreFailing request (map visit_view (take (k + 1) visits)) after
  failing_next v before after less is are adds =
      subst (λ (l : List Arrival). AreFailing request l after) (sym (seen_more visit_view visits k v less is)) (adds.exact (map visit_view (take k visits)) are)

  pub failing_done : (failing : List Turns) → length visits ≤ k → AreFailing request (map visit_view (take k visits)) failing → AreFailing request (map visit_view visits) failing
  failing_done failing past are = subst (λ (l : List Arrival). AreFailing request l failing) (all_seen visit_view visits k past) are

  module _ (failing : List Turns) where
    pub told_next : (v : Visit) (before after : List Violation) → k < length visits → v ≡ get_or visits k v → AreTold request failing (map visit_view (take k visits)) before → TellsOpen request failing (visit_view v) before after
        → AreTold request failing (map visit_view (take (k + 1) visits)) after
    told_next v before after less is told tells =
        subst (λ (l : List Arrival). AreTold request failing l after) (sym (seen_more visit_view visits k v less is)) (tells.exact (map visit_view (take k visits)) told)

    pub told_done : (vs : List Violation) → length visits ≤ k → AreTold request failing (map visit_view (take k visits)) vs → AreTold request failing (map visit_view visits) vs
    told_done vs past told = subst (λ (l : List Arrival). AreTold request failing l vs) (all_seen visit_view visits k past) told

-- before the first
pub failing_begun : (request : GraphRequest) (lists : List (Vec code.Turn Global)) → lists ≡ [] → AreFailing request [] (map turns_view lists)
failing_begun request lists none = subst (λ (l : List (Vec code.Turn Global)). AreFailing request [] (map turns_view l)) (sym none) (failing_none request)

pub told_begun : (request : GraphRequest) (failing : List Turns) (vs : List Failure) → vs ≡ [] → AreTold request failing [] (map told.failure_view vs)
told_begun request failing vs none = subst (λ (l : List Failure). AreTold request failing [] (map told.failure_view l)) (sym none) (told_none request failing)
