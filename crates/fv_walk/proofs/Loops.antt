-- What the loops over groups and over ranks keep.
use Rattle.std.proofs.Common.{◌≡◌, ◌<◌, ◌≤◌, ◌⊎◌, inl, inr, ◌↔◌, ℕ, ℤ, zero, suc, ◌+◌, List, [], ◌∷◌, ◌++◌, map, length, get_or, take, drop, Some, slice_get, refl, sym, ap, subst, ◌∙◌, Bool, true, false, true≢false, arith}
use Rattle.std.proofs.lemmas.List.{take_more}
use Rattle.std.proofs.Math.Seq.{drop-cons}
use Rattle.std.proofs.lemmas.Option.{slice_get-get_or, slice_get_past}
use Rattle.fv_declare_schema.specs.Declarations.{Declarations}
use Rattle.fv_graph.proofs.Lists.{in_left, in_right, in_cases}
use Rattle.fv_graph.specs.Graph.{IsIn}
use Rattle.fv_declare_schema.specs.Groups.{Groups, ranks}
use Rattle.fv_bundle.specs.Bundles.{Thing}
use Rattle.fv_registry.specs.Meanings.{Meanings}
use Rattle.fv_graph.proofs.Images.{in_map, from_map}
use Rattle.fv_walk_traces.specs.Turns.{LocalFailure}
use Rattle.fv_walk_traces.specs.Violations.{Violation}
use Rattle.fv_walk.specs.Ranks.{FailsFirst, FailsIn, violation_in, IsToldFor, count_ranks}

-- ---- counting

-- one group more
pub ranks_more : (gs : Groups) (groups : List ℕ) (i k : ℕ) → i < length groups → k ≡ length (ranks gs (get_or groups i 0)) → k + count_ranks gs (drop (i + 1) groups) ≡ count_ranks gs (drop i groups)
ranks_more gs groups i k less is =
    let next : i + 1 ≡ suc i = omega arith in
    let first = ap (count_ranks gs) (drop-cons groups i 0 less) in
    let rest = ap (λ (n : ℕ). count_ranks gs (drop n groups)) next in
    let one : count_ranks gs (get_or groups i 0 ∷ drop (suc i) groups) ≡ length (ranks gs (get_or groups i 0)) + count_ranks gs (drop (suc i) groups) = refl in
    omega (arith, is, first, rest, one)

-- ---- the first rank in which anything fails

some_seen : {X Y : Type 0} (f : X → Y) (xs : List X) → (length xs ≡ 0 → ⊥) → (y : Y) × IsIn (map f xs) y
some_seen f [] some = absurd (some refl)
some_seen f (x ∷ xs) some = (f x, inl refl)

none_seen : {X Y : Type 0} (f : X → Y) (xs : List X) (y : Y) → length xs ≡ 0 → IsIn (map f xs) y → ⊥
none_seen f [] y none h = h
none_seen f (x ∷ xs) y none h = absurd (omega arith)

three_ways : (j k : ℕ) → (j < k) ⊎ ((j ≡ k) ⊎ (k < j))
three_ways zero zero = inr (inl refl)
three_ways zero (suc k) = inl (omega arith)
three_ways (suc j) zero = inr (inr (omega arith))
three_ways (suc j) (suc k) = elim (three_ways j k) [
  | inl l ↦ inl (omega arith)
  | inr (inl e) ↦ inr (inl (ap suc e))
  | inr (inr g) ↦ inr (inr (omega arith))
]

-- a test that tells more than 4,096 tells no more where it fails
pub no_more : (n : ℕ) (b : Bool) → b ≡ false → (4096 < n → b ≡ true) → n ≤ 4096
no_more n b fails more = elim (three_ways 4096 n) [
  | inl less ↦ absurd (true≢false (sym (more less) ∙ fails))
  | inr (inl same) ↦ omega (arith, same)
  | inr (inr above) ↦ omega (arith, above)
]

-- what holds of all that is seen of a list
pub all_seen : {X : Type 0} (seen : X → LocalFailure) (P : LocalFailure → Type 0) (items : List X) → ((f : LocalFailure) → IsIn (map seen items) f → P f) → (k : ℕ) (d : X) → k < length items → P (seen (get_or items k d))
all_seen seen P [] all k d less = absurd (omega arith)
all_seen seen P (x ∷ items) all zero d less = all (seen x) (inl refl)
all_seen seen P (x ∷ items) all (suc k) d less = all_seen seen P items (λ f h. all f (inr h)) k d (omega arith)

module _ (Fails : ℕ → LocalFailure → Type 0) (groups : List ℕ) (i : ℕ) where
  -- nothing fails in the groups before one
  abbrev pub NoneBefore : Type 0
  NoneBefore = (j before : ℕ) (f : LocalFailure) → j < i → slice_get groups j ≡ Some before → Fails before f → ⊥

  there : (group : ℕ) → i < length groups → group ≡ get_or groups i 0 → slice_get groups i ≡ Some group
  there group less is = slice_get-get_or groups i 0 less ∙ ap (λ (g : ℕ). Some g) (sym is)

  -- what fails in it fails first, where something does
  pub first_is : {X : Type 0} (seen : X → LocalFailure) (items : List X) (group : ℕ) → i < length groups → group ≡ get_or groups i 0 → (length items ≡ 0 → ⊥) → NoneBefore
      → ((f : LocalFailure) → IsIn (map seen items) f ↔ Fails group f) → (f : LocalFailure) → IsIn (map seen items) f ↔ FailsFirst Fails groups f
  first_is seen items group less is some none exact f =
      let at = there group less is in
      let one = some_seen seen items some in (
        λ h. (i, group, at, (exact f).0 h, λ j before other lower got fails. none j before other lower got fails),
        λ h. elim (three_ways h.0 i) [
          | inl lower ↦ absurd (none h.0 h.1 f lower h.2 h.3)
          | inr (inl same) ↦
              (let both : Some h.1 ≡ Some group = sym h.2 ∙ ap (slice_get groups) same ∙ at in
              let one_group : h.1 ≡ group = cc (both) in
              (exact f).1 (subst (λ (g : ℕ). Fails g f) one_group h.3))
          | inr (inr higher) ↦ absurd (h.4 i group one.0 higher at ((exact one.0).0 one.1))
        ],
      )

  -- one group more in which nothing does
  pub none_more : {X : Type 0} (seen : X → LocalFailure) (items : List X) (group : ℕ) → i < length groups → group ≡ get_or groups i 0 → length items ≡ 0 → NoneBefore
      → ((f : LocalFailure) → IsIn (map seen items) f ↔ Fails group f) → (j before : ℕ) (f : LocalFailure) → j < i + 1 → slice_get groups j ≡ Some before → Fails before f → ⊥
  none_more seen items group less is empty none exact j before f lower got fails = elim (three_ways j i) [
    | inl below ↦ none j before f below got fails
    | inr (inl same) ↦
        (let both : Some before ≡ Some group = sym got ∙ ap (slice_get groups) same ∙ there group less is in
        let one_group : before ≡ group = cc (both) in
        none_seen seen items f empty ((exact f).1 (subst (λ (g : ℕ). Fails g f) one_group fails)))
    | inr (inr above) ↦ absurd (omega (arith, above, lower))
  ]

  -- nothing fails in any
  pub none_first : {X : Type 0} (seen : X → LocalFailure) (items : List X) → length groups ≤ i → items ≡ [] → NoneBefore → (f : LocalFailure) → IsIn (map seen items) f ↔ FailsFirst Fails groups f
  none_first {X} seen items past empty none f = (
    λ h. absurd (subst (λ (xs : List X). IsIn (map seen xs) f) empty h),
    λ h. absurd (within h.0 h.1 h.2 h.3),
  )
    where
      within : (k group : ℕ) → slice_get groups k ≡ Some group → Fails group f → ⊥
      within k group got fails = elim (three_ways k i) [
        | inl lower ↦ none k group f lower got fails
        | inr (inl same) ↦ (let no = slice_get_past groups k (omega (arith, past, same)) in let e : Some group ≡ _ = sym got ∙ no in cc (e))
        | inr (inr higher) ↦ (let no = slice_get_past groups k (omega (arith, past, higher)) in let e : Some group ≡ _ = sym got ∙ no in cc (e))
      ]

-- ---- the groups that are asked for

module _ (m : Meanings) (ds : Declarations) (now : ℤ) (object : Thing) (field : ℕ) where
  -- what is told for no group is nothing
  pub told_none : {X : Type 0} (seen : X → Violation) (items : List X) (groups : List ℕ) → items ≡ [] → (v : Violation) → IsIn (map seen items) v ↔ IsToldFor m ds now object field (take 0 groups) v
  told_none {X} seen items groups empty v = (λ h. absurd (subst (λ (xs : List X). IsIn (map seen xs) v) empty h), λ h. absurd h.2)

  -- one group more
  pub told_more : {X : Type 0} (seen : X → LocalFailure) (found : List X) (before after : List Violation) (groups : List ℕ) (i group : ℕ) → i < length groups → group ≡ get_or groups i 0
      → after ≡ before ++ map (violation_in object) (map seen found)
      → ((f : LocalFailure) → IsIn (map seen found) f ↔ FailsFirst (FailsIn m ds now object field) (ranks ds.groups group) f)
      → ((v : Violation) → IsIn before v ↔ IsToldFor m ds now object field (take i groups) v)
      → (v : Violation) → IsIn after v ↔ IsToldFor m ds now object field (take (i + 1) groups) v
  told_more seen found before after groups i group less is added exact so_far v =
      let told = map (violation_in object) (map seen found) in
      let more : take (i + 1) groups ≡ take i groups ++ group ∷ [] = take_more groups i 0 less ∙ ap (λ (g : ℕ). take i groups ++ g ∷ []) (sym is) in (
        λ h. elim (in_cases before told v (subst (λ (l : List Violation). IsIn l v) added h)) [
          | inl k ↦ (let t = (so_far v).0 k in (t.0, t.1, subst (λ (l : List ℕ). IsIn l t.0) (sym more) (in_left (take i groups) (group ∷ []) t.0 t.2), t.3, t.4))
          | inr k ↦
              (let p = from_map (violation_in object) (map seen found) v k in
              (group, p.0, subst (λ (l : List ℕ). IsIn l group) (sym more) (in_right (take i groups) (group ∷ []) group (inl refl)), (exact p.0).0 p.2, p.1))
        ],
        λ t. subst (λ (l : List Violation). IsIn l v) (sym added) (elim (in_cases (take i groups) (group ∷ []) t.0 (subst (λ (l : List ℕ). IsIn l t.0) more t.2)) [
          | inl k ↦ in_left before told v ((so_far v).1 (t.0, t.1, k, t.3, t.4))
          | inr (inl same) ↦
              (let fails = subst (λ (g : ℕ). FailsFirst (FailsIn m ds now object field) (ranks ds.groups g) t.1) (sym same) t.3 in
              in_right before told v (subst (IsIn told) (sym t.4) (in_map (violation_in object) (map seen found) t.1 ((exact t.1).1 fails))))
          | inr (inr none) ↦ absurd none
        ]),
      )
