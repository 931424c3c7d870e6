-- There is one listing of some violations.
use Rattle.std.proofs.Common.{◌≡◌, ◌<◌, ℕ, List, [], ◌∷◌, true, true≢false, Ordering, Less, Equal, Greater, nat_cmp, refl, sym, ap, subst, ◌∙◌, inl, inr, arith}
use Rattle.std.proofs.lemmas.Cmp.{nat_list_cmp_total}
use Rattle.std.specs.Cmp.Lexicographic.{slice_cmp}
use Rattle.std.specs.List.{AllByRecursion}
use Rattle.std.specs.Ordering.{is_lt, ordering_reverse}
use Rattle.fv_declare_schema.specs.Declarations.{Placed}
use Rattle.fv_graph.specs.Graph.{IsIn}
use Rattle.fv_message.specs.Table.{Messages}
use Rattle.fv_walk_traces.specs.Violations.{Violation}
use Rattle.fv_validate.specs.Violations.{Reported, Precedes, IsReportOf, AreInOrder, AreListed}
use Rattle.fv_validate.proofs.Reports.{one_report}

-- ---- no two precede each other

two_ways : (c d : Ordering) → d ≡ ordering_reverse c → is_lt c ≡ true → is_lt d ≡ true → ⊥
two_ways Less d is a b = true≢false (sym b ∙ ap is_lt is)
two_ways Equal d is a b = true≢false (sym a)
two_ways Greater d is a b = true≢false (sym a)

below_itself : (p : List ℕ) → is_lt (slice_cmp nat_cmp p p) ≡ true → ⊥
below_itself p lt = two_ways (slice_cmp nat_cmp p p) (slice_cmp nat_cmp p p) (nat_list_cmp_total.antisymm p p) lt lt

crossed : (i j : ℕ) → i < j → j < i → ⊥
crossed i j below above = omega arith

not_both : (v w : Reported) → Precedes v w → Precedes w v → ⊥
not_both v w (inl a) (inl b) = two_ways (slice_cmp nat_cmp v.path w.path) (slice_cmp nat_cmp w.path v.path) (nat_list_cmp_total.antisymm w.path v.path) a b
not_both v w (inl a) (inr b) = below_itself v.path (subst (λ (p : List ℕ). is_lt (slice_cmp nat_cmp v.path p) ≡ true) b.0 a)
not_both v w (inr a) (inl b) = below_itself w.path (subst (λ (p : List ℕ). is_lt (slice_cmp nat_cmp w.path p) ≡ true) a.0 b)
not_both v w (inr a) (inr b) = crossed v.occurrence w.occurrence a.1 b.1

-- ---- lists with the same members

each : (P : Reported → Type 0) (ws : List Reported) (w : Reported) → AllByRecursion P ws → IsIn ws w → P w
each P [] w all is_in = absurd is_in
each P (u ∷ us) w all (inl is) = subst P is all.0
each P (u ∷ us) w all (inr is_in) = each P us w all.1 is_in

-- the members of one are members of the other
abbrev Within : List Reported → List Reported → Type 0
Within vs ws = (x : Reported) → IsIn vs x → IsIn ws x

same_first : (v w : Reported) (vs ws : List Reported) → AllByRecursion (Precedes v) vs → AllByRecursion (Precedes w) ws
    → IsIn (w ∷ ws) v → IsIn (v ∷ vs) w → v ≡ w
same_first v w vs ws before behind (inl is) is_in = sym is
same_first v w vs ws before behind (inr at) (inl is) = is
same_first v w vs ws before behind (inr at) (inr is_in) = absurd (not_both v w (each (Precedes v) vs w before is_in) (each (Precedes w) ws v behind at))

same_rest : (v w : Reported) (vs ws : List Reported) → v ≡ w → AllByRecursion (Precedes v) vs → Within (v ∷ vs) (w ∷ ws) → Within vs ws
same_rest v w vs ws first before within = λ x is_in. elim (within x (inr is_in)) [
  | inl is ↦ let p : Precedes v v = subst (Precedes v) (sym is ∙ sym first) (each (Precedes v) vs x before is_in) in absurd (not_both v v p p)
  | inr there ↦ there
]

same_list : (vs ws : List Reported) → AreInOrder vs → AreInOrder ws → Within vs ws → Within ws vs → vs ≡ ws
same_list [] [] up rise to from = refl
same_list [] (w ∷ ws) up rise to from = absurd (from w (inl refl))
same_list (v ∷ vs) [] up rise to from = absurd (to v (inl refl))
same_list (v ∷ vs) (w ∷ ws) up rise to from =
    let first : v ≡ w = same_first v w vs ws up.0 rise.0 (to v (inl refl)) (from w (inl refl)) in
    let rest : vs ≡ ws = same_list vs ws up.1 rise.1 (same_rest v w vs ws first up.0 to) (same_rest w v ws vs (sym first) rise.0 from) in
    ap (λ (x : Reported). x ∷ vs) first ∙ ap (λ (xs : List Reported). w ∷ xs) rest

module _ (us : List Placed) (ms : Messages) (IsOne : Violation → Type 0) where
  within : (vs ws : List Reported) → AreListed us ms IsOne vs → AreListed us ms IsOne ws → Within vs ws
  within vs ws one other = λ x is_in.
      let v = each (IsReportOf us ms IsOne) vs x one.sound is_in in
      let r = other.complete v.0 v.1 in
      subst (λ (y : Reported). IsIn ws y) (one_report us ms v.0 r.0 x r.2 v.2) r.1

  pub one_listing : (vs ws : List Reported) → AreListed us ms IsOne vs → AreListed us ms IsOne ws → vs ≡ ws
  one_listing vs ws one other = same_list vs ws one.ascending other.ascending (within vs ws one other) (within ws vs other one)
