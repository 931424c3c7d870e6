-- A request in which no reference is followed: its violations are what fails at its root in the first of the ranks of each group that is
-- asked for.
use Rattle.std.proofs.Common.{◌≡◌, ◌<◌, ℕ, zero, suc, List, [], ◌∷◌, ◌++◌, Bool, true, false, cond, Some, slice_get, ◌⊎◌, inl, inr, ◌↔◌, refl, sym, ap, subst, ◌∙◌, true≢false, arith, fold}
use Rattle.fv_graph.specs.Graph.{IsIn}
use Rattle.fv_walk_traces.specs.Frames.{held}
use Rattle.fv_walk_traces.specs.OneObject.{IsLocal}
use Rattle.fv_walk_traces.specs.Reaching.{at_object, violation}
use Rattle.fv_walk_traces.specs.Requests.{GraphRequest}
use Rattle.fv_walk_traces.specs.Traces.{Carried, IsOwnEnd, IsTrace}
use Rattle.fv_walk_traces.specs.Turns.{LocalFailure, Way, Ask, Fail, Free, Rank, Turns, ShadowsByRecursion}
use Rattle.fv_walk_traces.specs.Violations.{Violation, Reached, onward, IsViolation}
use Rattle.fv_walk_traces.proofs.Ends.{last_fail, some_local}
use Rattle.fv_walk_traces.proofs.Listing.{end_last}
use Rattle.fv_walk_traces.proofs.Shadowing.{past_common, by_recursion, from_recursion}
use Rattle.fv_walk.specs.Ranks.{FailsFirst}

one_held : (g k x : ℕ) → slice_get (g ∷ []) k ≡ Some x → g ≡ x
one_held g zero x e = cc
one_held g (suc k) x e = cc

-- the violation that a failure in the root is
abbrev pub at_root : GraphRequest → LocalFailure → Violation
at_root request f = violation (onward request (at_object [] request.root) (Free (Fail f)))

-- told of the root in the first of the ranks of a group that is asked for
abbrev pub IsToldOf : GraphRequest → Violation → Type 0
IsToldOf request v = (g : ℕ) × (f : LocalFailure) × IsIn request.asked g × FailsFirst (IsLocal request request.root) (held request g) f × (v ≡ at_root request f)

module _ (request : GraphRequest) (none : (object : ℕ) (way : Way) → IsIn (request.ways object) way → ⊥) where
  abbrev start : Reached
  start = at_object [] request.root

  plain_held : (g : ℕ) → request.is_sequence g ≡ false → held request g ≡ g ∷ []
  plain_held g e = ap (λ (b : Bool). cond b (request.ranks g) (g ∷ [])) e

  ranks_held : (g : ℕ) → request.is_sequence g ≡ true → held request g ≡ request.ranks g
  ranks_held g e = ap (λ (b : Bool). cond b (request.ranks g) (g ∷ [])) e

  -- what a trace tells behind the group that is asked for
  behind : (g i : ℕ) (mark own r : Turns) → r ≡ (Free (Ask g) ∷ mark) ++ own → (mark ≡ []) ⊎ (mark ≡ Rank i ∷ []) → fold (onward request) start r ≡ fold (onward request) start own
  behind g i mark own r whole (inl e) = ap (fold (onward request) start) (whole ∙ ap (λ (l : Turns). (Free (Ask g) ∷ l) ++ own) e)
  behind g i mark own r whole (inr e) = ap (fold (onward request) start) (whole ∙ ap (λ (l : Turns). (Free (Ask g) ∷ l) ++ own) e)

  told_behind : (g carried : ℕ) (mark own r : Turns) → Carried request g mark carried → r ≡ (Free (Ask g) ∷ mark) ++ own → fold (onward request) start r ≡ fold (onward request) start own
  told_behind g carried mark own r (inl c) whole = behind g 0 mark own r whole (inl c.1)
  told_behind g carried mark own r (inr c) whole = behind g c.0 mark own r whole (inr c.2)

  -- ---- a violation is told

  -- what fails behind a rank that nothing shadows fails in the first such rank
  first_of : (g carried : ℕ) (mark own r : Turns) (f : LocalFailure) → IsIn request.asked g → Carried request g mark carried → r ≡ (Free (Ask g) ∷ mark) ++ own
      → ((other : Turns) → IsTrace request other → ShadowsByRecursion other r → ⊥) → IsLocal request request.root carried f → FailsFirst (IsLocal request request.root) (held request g) f
  first_of g carried mark own r f asked (inl c) whole spared local = (
    0,
    carried,
    ap (λ (hs : List ℕ). slice_get hs 0) (plain_held g c.0) ∙ ap (λ (x : ℕ). Some x) (sym c.2),
    local,
    λ j before other less got fails. omega (arith, less),
  )
  first_of g carried mark own r f asked (inr c) whole spared local = (
    c.0,
    carried,
    ap (λ (hs : List ℕ). slice_get hs c.0) (ranks_held g c.1) ∙ c.3,
    local,
    λ j before other less got fails.
        (let in_ranks = ap (λ (hs : List ℕ). slice_get hs j) (sym (ranks_held g c.1)) ∙ got in
        spared (Free (Ask g) ∷ Rank j ∷ fails.0)
        (zero, Free (Ask g) ∷ Rank j ∷ [], request.root, before, request.root ∷ [], fails.0, ((g, Rank j ∷ [], asked, inr (j, c.1, refl, in_ranks), refl), refl, refl), fails.2, refl)
        (subst (ShadowsByRecursion (Free (Ask g) ∷ Rank j ∷ fails.0)) (sym (whole ∙ ap (λ (m : Turns). (Free (Ask g) ∷ m) ++ own) c.2)) (inr (refl, inl less)))),
  )

  to_told : (v : Violation) → IsViolation request v → IsToldOf request v
  to_told v (r, (suc steps, first, object, carried, on, own, arrives, end, r_is), spared, v_is) = absurd (none arrives.1 arrives.4 arrives.7)
  to_told v (r, (zero, first, object, carried, on, own, ((g, mark, asked, carries, first_is), object_is, on_is), end, r_is), spared, v_is) =
      let here : IsOwnEnd request request.root carried own = subst (λ (o : ℕ). IsOwnEnd request o carried own) object_is end in
      let l = end_last request start request.root carried own here in
      let whole : r ≡ (Free (Ask g) ∷ mark) ++ own = r_is ∙ ap (λ (z : Turns). z ++ own) first_is in
      let alone = λ (other : Turns) (o : IsOwnEnd request request.root carried other) (s : _).
      spared (first ++ other) (zero, first, request.root, carried, request.root ∷ [], other, ((g, mark, asked, carries, first_is), refl, refl), o, refl)
      (from_recursion (first ++ other) r (subst (ShadowsByRecursion (first ++ other)) (sym r_is) (past_common first other own (by_recursion other own s)))) in
      let local : IsLocal request request.root carried l.1 = (own, l.0, here, alone, l.2) in
      (g, l.1, asked, first_of g carried mark own r l.1 asked carries whole (λ other t s. spared other t (from_recursion other r s)) local, v_is ∙ ap violation (told_behind g carried mark own r carries whole ∙ l.3))

  -- ---- what is told is a violation

  module _ (g k group : ℕ) (e : Turns) (end : IsOwnEnd request request.root group e) (alone : (other : Turns) → IsOwnEnd request request.root group other → ShadowsByRecursion other e → ⊥) where
    -- no trace shadows the turns to a failure in a plain group that nothing else there shadows
    plain_spared : request.is_sequence g ≡ false → g ≡ group → (other : Turns) → IsTrace request other → ShadowsByRecursion other (Free (Ask g) ∷ e) → ⊥
    plain_spared plain is other (suc steps, first, object, carried, on, own, arrives, ends, other_is) s = none arrives.1 arrives.4 arrives.7
    plain_spared plain is other (zero, first, object, carried, on, own, ((h, mark, asked, carries, first_is), object_is, on_is), ends, other_is) s =
        past carries (subst (λ (z : Turns). ShadowsByRecursion z (Free (Ask g) ∷ e)) (other_is ∙ ap (λ (z : Turns). z ++ own) first_is) s)
      where
        past : Carried request h mark carried → ShadowsByRecursion ((Free (Ask h) ∷ mark) ++ own) (Free (Ask g) ∷ e) → ⊥
        past c (inl x) = x
        past (inl c) (inr x) =
            let one : h ≡ g = cc (x.0) in
            alone own (subst (λ (y : ℕ). IsOwnEnd request request.root y own) (c.2 ∙ one ∙ is) (subst (λ (o : ℕ). IsOwnEnd request o carried own) object_is ends))
            (subst (λ (m : Turns). ShadowsByRecursion (m ++ own) e) c.1 x.1)
        past (inr c) (inr x) =
            let one : h ≡ g = cc (x.0) in
            true≢false (sym c.1 ∙ ap request.is_sequence one ∙ plain)

    -- nor those to one in the first rank of a sequence in which anything fails
    ranked_spared : request.is_sequence g ≡ true → slice_get (request.ranks g) k ≡ Some group
        → ((j before : ℕ) (other : LocalFailure) → j < k → slice_get (held request g) j ≡ Some before → IsLocal request request.root before other → ⊥)
        → (other : Turns) → IsTrace request other → ShadowsByRecursion other (Free (Ask g) ∷ Rank k ∷ e) → ⊥
    ranked_spared ranked is first_rank other (suc steps, first, object, carried, on, own, arrives, ends, other_is) s = none arrives.1 arrives.4 arrives.7
    ranked_spared ranked is first_rank other (zero, first, object, carried, on, own, ((h, mark, asked, carries, first_is), object_is, on_is), ends, other_is) s =
        past carries (subst (λ (z : Turns). ShadowsByRecursion z (Free (Ask g) ∷ Rank k ∷ e)) (other_is ∙ ap (λ (z : Turns). z ++ own) first_is) s)
      where
        here : IsOwnEnd request request.root carried own
        here = subst (λ (o : ℕ). IsOwnEnd request o carried own) object_is ends

        at_rank : (j : ℕ) → slice_get (request.ranks g) j ≡ Some carried → ShadowsByRecursion (Rank j ∷ own) (Rank k ∷ e) → ⊥
        at_rank j got (inl less) =
            let fails = some_local request request.root carried own here in
            first_rank j carried fails.0 less (ap (λ (hs : List ℕ). slice_get hs j) (ranks_held g ranked) ∙ got) fails.1
        at_rank j got (inr x) =
            let one : j ≡ k = cc (x.0) in
            let same : Some carried ≡ Some group = sym got ∙ ap (slice_get (request.ranks g)) one ∙ is in
            let same_group : carried ≡ group = cc (same) in
            alone own (subst (λ (y : ℕ). IsOwnEnd request request.root y own) same_group here) x.1

        past : Carried request h mark carried → ShadowsByRecursion ((Free (Ask h) ∷ mark) ++ own) (Free (Ask g) ∷ Rank k ∷ e) → ⊥
        past c (inl x) = x
        past (inl c) (inr x) =
            let one : h ≡ g = cc (x.0) in
            true≢false (sym ranked ∙ ap request.is_sequence (sym one) ∙ c.0)
        past (inr c) (inr x) =
            let one : h ≡ g = cc (x.0) in
            at_rank c.0 (subst (λ (y : ℕ). slice_get (request.ranks y) c.0 ≡ Some carried) one c.3) (subst (λ (m : Turns). ShadowsByRecursion (m ++ own) (Rank k ∷ e)) c.2 x.1)

  from_told : (v : Violation) → IsToldOf request v → IsViolation request v
  from_told v (g, f, asked, (k, group, got, (e, before, end, spared, e_is), first), v_is) = go (request.is_sequence g) refl
    where
      alone : (other : Turns) → IsOwnEnd request request.root group other → ShadowsByRecursion other e → ⊥
      alone other o s = spared other o (from_recursion other e s)

      value : v ≡ violation (fold (onward request) start e)
      value =
          let l = end_last request start request.root group e end in
          let same : l.1 ≡ f = last_fail l.0 before l.1 f (sym l.2 ∙ e_is) in
          v_is ∙ ap (at_root request) (sym same) ∙ ap violation (sym l.3)

      go : (b : Bool) → request.is_sequence g ≡ b → IsViolation request v
      go false plain =
          let is : g ≡ group = one_held g k group (sym (ap (λ (hs : List ℕ). slice_get hs k) (plain_held g plain)) ∙ got) in (
            Free (Ask g) ∷ e,
            (zero, Free (Ask g) ∷ [], request.root, group, request.root ∷ [], e, ((g, [], asked, inl (plain, refl, sym is), refl), refl, refl), end, refl),
            λ other t s. plain_spared g k group e end alone plain is other t (by_recursion other (Free (Ask g) ∷ e) s),
            value,
          )
      go true ranked =
          let in_ranks : slice_get (request.ranks g) k ≡ Some group = sym (ap (λ (hs : List ℕ). slice_get hs k) (ranks_held g ranked)) ∙ got in (
            Free (Ask g) ∷ Rank k ∷ e,
            (zero, Free (Ask g) ∷ Rank k ∷ [], request.root, group, request.root ∷ [], e, ((g, Rank k ∷ [], asked, inr (k, ranked, refl, in_ranks), refl), refl, refl), end, refl),
            λ other t s. ranked_spared g k group e end alone ranked in_ranks first other t (by_recursion other (Free (Ask g) ∷ Rank k ∷ e) s),
            value,
          )

  pub told_are_violations : (v : Violation) → IsViolation request v ↔ IsToldOf request v
  told_are_violations v = (to_told v, from_told v)
