-- A tidy request: each turn leaves fewer, and none stands twice.
use Rattle.std.proofs.Common.{◌≡◌, ◌≢◌, ℕ, zero, suc, ◌+◌, ◌*◌, ◌<◌, ◌≤◌, List, [], ◌∷◌, ◌++◌, map, inl, inr, refl, sym, ap, ◌∙◌, subst, arith, Bool, true, false, cond, ◌||◌, nat_eq, Some, slice_get}
use Rattle.fv_graph.proofs.Lists.{in_cases, AllDiffer-append}
use Rattle.fv_graph.specs.Graph.{IsIn, AllDiffer, mem}
use Rattle.fv_graph.proofs.Images.{from_map}
use Rattle.fv_walk_traces.proofs.Parts.{from_option}
use Rattle.fv_datum.proofs.Lists.{map_get}
use Rattle.fv_walk_traces.proofs.Unfolded.{proper_reached}
use Rattle.fv_walk_traces.specs.Finite.{unseen, size, IsTidy, IsProperOwn}
use Rattle.fv_walk_traces.specs.Points.{Point, Start, Choosing, Standing, Within, Failed, handed, step_options, next}
use Rattle.fv_walk_traces.specs.Requests.{Own, Plain, InRanks, GraphRequest}
use Rattle.fv_walk_traces.specs.Tree.{IsProper}
use Rattle.fv_walk_traces.specs.Turns.{Turn, Free, Rank, FreeTurn, LocalFailure, Fail, Ask, Step, Group, Way}
use Rattle.fv_walk_traces.specs.Unfold.{LeadsTo, Falls, NoTurnTwice, tree_of}

less_seen : (n t : ℕ) (on : List ℕ) → unseen n (t ∷ on) ≤ unseen n on
less_seen zero t on = omega arith
less_seen (suc k) t on =
    let ih = less_seen k t on in
    go (nat_eq t k) (mem on k) ih
  where
    go : (a b : Bool) → unseen k (t ∷ on) ≤ unseen k on → cond (a || b) 0 1 + unseen k (t ∷ on) ≤ cond b 0 1 + unseen k on
    go true true h = omega arith
    go true false h = omega arith
    go false true h = omega arith
    go false false h = omega arith

unseen_within : (n : ℕ) (on : List ℕ) → unseen n on ≤ n
unseen_within zero on = omega arith
unseen_within (suc k) on = go (mem on k) (unseen_within k on)
  where
    go : (b : Bool) → unseen k on ≤ k → cond b 0 1 + unseen k on ≤ suc k
    go true h = omega arith
    go false h = omega arith

eq_refl : (n : ℕ) → nat_eq n n ≡ true
eq_refl n = grind arith

pub eq_of : (a b : ℕ) → nat_eq a b ≡ true → a ≡ b
eq_of a b h = grind arith

one_more : (a b : Bool) (u v : ℕ) → a ≡ true → b ≡ false → u ≤ v → cond (a || b) 0 1 + u + 1 ≤ cond b 0 1 + v
one_more true true u v e d h = cc
one_more true false u v e d h = omega arith
one_more false b u v e d h = cc

no_more : (a b : Bool) (u v : ℕ) → a ≡ false → u + 1 ≤ v → cond (a || b) 0 1 + u + 1 ≤ cond b 0 1 + v
no_more true b u v e h = cc
no_more false true u v e h = omega arith
no_more false false u v e h = omega arith

one_less : (n t : ℕ) (on : List ℕ) → mem on t ≡ false → t < n → unseen n (t ∷ on) + 1 ≤ unseen n on
one_less zero t on new less = absurd (omega arith)
one_less (suc k) t on new less = go (λ h. one_less k t on new h) (nat_eq t k) refl
  where
    go : (t < k → unseen k (t ∷ on) + 1 ≤ unseen k on) → (a : Bool) → nat_eq t k ≡ a → cond (nat_eq t k || mem on k) 0 1 + unseen k (t ∷ on) + 1 ≤ cond (mem on k) 0 1 + unseen k on
    go ih true e =
        let q : t ≡ k = eq_of t k e in
        one_more (nat_eq t k) (mem on k) (unseen k (t ∷ on)) (unseen k on) e (subst (λ (x : ℕ). mem on x ≡ false) q new) (less_seen k t on)
    go ih false e =
        let q : t ≢ k = λ d. (let r : nat_eq t k ≡ true = subst (λ (x : ℕ). nat_eq t x ≡ true) d (eq_refl t) in cc) in
        let less' : t < k = omega arith in
        no_more (nat_eq t k) (mem on k) (unseen k (t ∷ on)) (unseen k on) e (ih less')

handed_size : (request : GraphRequest) (n object g : ℕ) (on : List ℕ) → size n (handed request object g on) ≤ 4 + 2 * unseen n on
handed_size request n object g on = go (request.is_sequence g)
  where
    go : (b : Bool) → size n (cond b (Choosing object g on) (Standing object g on)) ≤ 4 + 2 * unseen n on
    go true = omega arith
    go false = omega arith

within_size : (own : Own) (n : ℕ) → size n (Within own) ≤ 2
within_size (Plain fails) n = omega arith
within_size (InRanks lists) n = omega arith

pub falls : (request : GraphRequest) (n : ℕ) → IsTidy request n → Falls (next request) (size n)
falls request n tidy Start after (Rank i) h = absurd h
falls request n tidy Start after (Free a) h =
    let m = from_map (λ (g : ℕ). (Ask g, handed request request.root g (request.root ∷ []))) request.asked (a, after) h in
    let e : after ≡ handed request request.root m.0 (request.root ∷ []) = ap (λ (x : FreeTurn × Point). x.1) m.1 in
    let s = handed_size request n request.root m.0 (request.root ∷ []) in
    let u = unseen_within n (request.root ∷ []) in
    subst (λ (x : Point). size n x < 5 + 2 * n) (sym e) (omega (arith, s, u))
falls request n tidy (Choosing object group on) after (Free a) h = absurd h
falls request n tidy (Choosing object group on) after (Rank i) h =
    let m = map_get (λ c. Standing object c on) (request.ranks group) i after h in
    subst (λ (x : Point). size n x < 4 + 2 * unseen n on) (sym m.2) (omega arith)
falls request n tidy (Standing object carried on) after (Rank i) h = absurd h
falls request n tidy (Standing object carried on) after (Free a) h =
    elim (in_cases (map (λ g. (Group g, Within (request.own object g))) (request.below carried)) (step_options request object carried on (request.ways object)) (a, after) h) [
      | inl k ↦
          (let m = from_map (λ (g : ℕ). (Group g, Within (request.own object g))) (request.below carried) (a, after) k in
          let e : after ≡ Within (request.own object m.0) = ap (λ (x : FreeTurn × Point). x.1) m.1 in
          let s = within_size (request.own object m.0) n in
          subst (λ (x : Point). size n x < 3 + 2 * unseen n on) (sym e) (omega (arith, s)))
      | inr k ↦
          (let m = from_option request object carried on (request.ways object) a after k in
          let less = one_less n m.0.target on m.2 (tidy.targets object m.0 m.1) in
          let s = handed_size request n m.0.target (request.converted object m.0.place carried) (m.0.target ∷ on) in
          subst (λ (x : Point). size n x < 3 + 2 * unseen n on) (sym m.4) (omega (arith, less, s)))
    ]
falls request n tidy (Within (Plain fails)) after (Rank i) h = absurd h
falls request n tidy (Within (Plain fails)) after (Free a) h =
    let m = from_map (λ (f : LocalFailure). (Fail f, Failed)) fails (a, after) h in
    let e : after ≡ Failed = ap (λ (x : FreeTurn × Point). x.1) m.1 in
    subst (λ (x : Point). size n x < 1) (sym e) (omega arith)
falls request n tidy (Within (InRanks lists)) after (Free a) h = absurd h
falls request n tidy (Within (InRanks lists)) after (Rank i) h =
    let m = map_get (λ (fails : List LocalFailure). Within (Plain fails)) lists i after h in
    subst (λ (x : Point). size n x < 2) (sym m.2) (omega arith)
falls request n tidy Failed after turn h = absurd h

-- no turn twice

pub map_differ : {X S : Type 0} (turn : X → FreeTurn) (to : X → S) → ((a b : X) → turn a ≡ turn b → a ≡ b) → (xs : List X) → AllDiffer xs → AllDiffer (map (λ (c : FreeTurn × S). c.0) (map (λ (x : X). (turn x, to x)) xs))
map_differ {X} {S} turn to one [] d = tt
map_differ {X} {S} turn to one (x ∷ xs) d = (
  λ h.
      (let m = from_map (λ (c : FreeTurn × S). c.0) (map (λ (x : X). (turn x, to x)) xs) (turn x) h in
      let k = from_map (λ (x : X). (turn x, to x)) xs m.0 m.2 in
      let e : m.0.0 ≡ turn k.0 = ap (λ (c : FreeTurn × S). c.0) k.1 in
      d.0 (subst (λ (z : X). IsIn xs z) (one k.0 x (sym (m.1 ∙ e))) k.2)),
  map_differ turn to one xs d.1,
)

same_ask : (a b : ℕ) → Ask a ≡ Ask b → a ≡ b
same_ask a b e = cc

pub same_group : (a b : ℕ) → Group a ≡ Group b → a ≡ b
same_group a b e = cc

same_step : (v w : Way) → Step v ≡ Step w → v ≡ w
same_step v w e = cc

same_fail : (a b : LocalFailure) → Fail a ≡ Fail b → a ≡ b
same_fail a b e = cc

-- the steps among the options are ways
step_label : (request : GraphRequest) (object carried : ℕ) (on : List ℕ) (ways : List Way) (turn : FreeTurn) → IsIn (map (λ c. c.0) (step_options request object carried on ways)) turn → (way : Way) × IsIn ways way × (turn ≡ Step way)
step_label request object carried on ways turn h =
    let m = from_map (λ (c : FreeTurn × Point). c.0) (step_options request object carried on ways) turn h in
    let k = from_option request object carried on ways m.0.0 m.0.1 m.2 in
    (k.0, k.1, m.1 ∙ k.3)

steps_differ : (request : GraphRequest) (object carried : ℕ) (on : List ℕ) (ways : List Way) → AllDiffer ways → AllDiffer (map (λ c. c.0) (step_options request object carried on ways))
steps_differ request object carried on [] d = tt
steps_differ request object carried on (way ∷ ways) d = go (steps_differ request object carried on ways d.1) (mem on way.target)
  where
    go : AllDiffer (map (λ (c : FreeTurn × Point). c.0) (step_options request object carried on ways)) → (b : Bool) → AllDiffer (map (λ (c : FreeTurn × Point). c.0) (cond b (step_options request object carried on ways) ((Step way, handed request way.target (request.converted object way.place carried) (way.target ∷ on)) ∷ step_options request object carried on ways)))
    go ih true = ih
    go ih false = (
      λ k. (let m = step_label request object carried on ways (Step way) k in
          d.0 (subst (λ (w : Way). IsIn ways w) (same_step m.0 way (sym m.2)) m.1)),
      ih,
    )

map_join : {X Y : Type 0} (f : X → Y) (xs ys : List X) → map f (xs ++ ys) ≡ map f xs ++ map f ys
map_join f [] ys = refl
map_join f (x ∷ xs) ys = ap (λ l. f x ∷ l) (map_join f xs ys)

apart : (request : GraphRequest) (object carried : ℕ) (on : List ℕ) (turn : FreeTurn) → IsIn (map (λ (c : FreeTurn × Point). c.0) (map (λ (g : ℕ). (Group g, Within (request.own object g))) (request.below carried))) turn → IsIn (map (λ (c : FreeTurn × Point). c.0) (step_options request object carried on (request.ways object))) turn → ⊥
apart request object carried on turn h k =
    let m = from_map (λ (c : FreeTurn × Point). c.0) (map (λ (g : ℕ). (Group g, Within (request.own object g))) (request.below carried)) turn h in
    let l = from_map (λ (g : ℕ). (Group g, Within (request.own object g))) (request.below carried) m.0 m.2 in
    let e : m.0.0 ≡ Group l.0 = ap (λ (c : FreeTurn × Point). c.0) l.1 in
    let s = step_label request object carried on (request.ways object) turn k in
    let q : Group l.0 ≡ Step s.0 = sym (m.1 ∙ e) ∙ s.2 in
    cc

-- the points that a tidy request leads to
abbrev pub IsReached : Point → Type 0
IsReached Start = Unit {0}
IsReached (Choosing object group on) = Unit {0}
IsReached (Standing object carried on) = Unit {0}
IsReached (Within own) = IsProperOwn own
IsReached Failed = Unit {0}

pub no_turn_twice : (request : GraphRequest) (n : ℕ) → IsTidy request n → (point : Point) → IsReached point → NoTurnTwice (next request point)
no_turn_twice request n tidy Start r = map_differ (λ g. Ask g) (λ g. handed request request.root g (request.root ∷ [])) same_ask request.asked tidy.asked
no_turn_twice request n tidy (Choosing object group on) r = tt
no_turn_twice request n tidy (Standing object carried on) r =
    subst (λ (l : List FreeTurn). AllDiffer l) (sym (map_join (λ (c : FreeTurn × Point). c.0) (map (λ (g : ℕ). (Group g, Within (request.own object g))) (request.below carried)) (step_options request object carried on (request.ways object))))
    (AllDiffer-append _ _ (map_differ (λ g. Group g) (λ g. Within (request.own object g)) same_group (request.below carried) (tidy.below carried)) (steps_differ request object carried on (request.ways object) (tidy.ways object))
    (apart request object carried on))
no_turn_twice request n tidy (Within (Plain fails)) r = map_differ (λ f. Fail f) (λ f. Failed) same_fail fails r
no_turn_twice request n tidy (Within (InRanks lists)) r = tt
no_turn_twice request n tidy Failed r = tt

reached_handed : (request : GraphRequest) (object g : ℕ) (on : List ℕ) → IsReached (handed request object g on)
reached_handed request object g on = go (request.is_sequence g)
  where
    go : (b : Bool) → IsReached (cond b (Choosing object g on) (Standing object g on))
    go true = tt
    go false = tt

at_rank : {X : Type 0} (xs : List X) (i : ℕ) (x : X) → slice_get xs i ≡ Some x → IsIn xs x
at_rank [] i x e = cc
at_rank (y ∷ xs) zero x e = let q : y ≡ x = cc in inl q
at_rank (y ∷ xs) (suc i) x e = inr (at_rank xs i x e)

pub stays_reached : (request : GraphRequest) (n : ℕ) → IsTidy request n → (point after : Point) (turn : Turn FreeTurn) → IsReached point → LeadsTo (next request point) turn after → IsReached after
stays_reached request n tidy Start after (Rank i) r h = absurd h
stays_reached request n tidy Start after (Free a) r h =
    let m = from_map (λ (g : ℕ). (Ask g, handed request request.root g (request.root ∷ []))) request.asked (a, after) h in
    let e : after ≡ handed request request.root m.0 (request.root ∷ []) = ap (λ (x : FreeTurn × Point). x.1) m.1 in
    subst (λ (x : Point). IsReached x) (sym e) (reached_handed request request.root m.0 (request.root ∷ []))
stays_reached request n tidy (Choosing object group on) after (Free a) r h = absurd h
stays_reached request n tidy (Choosing object group on) after (Rank i) r h =
    let m = map_get (λ c. Standing object c on) (request.ranks group) i after h in
    subst (λ (x : Point). IsReached x) (sym m.2) tt
stays_reached request n tidy (Standing object carried on) after (Rank i) r h = absurd h
stays_reached request n tidy (Standing object carried on) after (Free a) r h =
    elim (in_cases (map (λ g. (Group g, Within (request.own object g))) (request.below carried)) (step_options request object carried on (request.ways object)) (a, after) h) [
      | inl k ↦
          (let m = from_map (λ (g : ℕ). (Group g, Within (request.own object g))) (request.below carried) (a, after) k in
          let e : after ≡ Within (request.own object m.0) = ap (λ (x : FreeTurn × Point). x.1) m.1 in
          subst (λ (x : Point). IsReached x) (sym e) (tidy.own object m.0))
      | inr k ↦
          (let m = from_option request object carried on (request.ways object) a after k in
          subst (λ (x : Point). IsReached x) (sym m.4) (reached_handed request m.0.target (request.converted object m.0.place carried) (m.0.target ∷ on)))
    ]
stays_reached request n tidy (Within (Plain fails)) after (Rank i) r h = absurd h
stays_reached request n tidy (Within (Plain fails)) after (Free a) r h =
    let m = from_map (λ (f : LocalFailure). (Fail f, Failed)) fails (a, after) h in
    let e : after ≡ Failed = ap (λ (x : FreeTurn × Point). x.1) m.1 in
    subst (λ (x : Point). IsReached x) (sym e) tt
stays_reached request n tidy (Within (InRanks lists)) after (Free a) r h = absurd h
stays_reached request n tidy (Within (InRanks lists)) after (Rank i) r h =
    let m = map_get (λ (fails : List LocalFailure). Within (Plain fails)) lists i after h in
    subst (λ (x : Point). IsReached x) (sym m.2) (r m.0 (at_rank lists i m.0 m.1))
stays_reached request n tidy Failed after turn r h = absurd h

pub proper : (request : GraphRequest) (n : ℕ) → IsTidy request n → (depth : ℕ) (point : Point) → IsReached point → IsProper (tree_of (next request) depth point)
proper request n tidy depth point r = proper_reached (next request) IsReached (no_turn_twice request n tidy) (stays_reached request n tidy) depth point r
