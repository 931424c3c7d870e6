-- A group stands for those that it inherits, in whatever graph.
use Rattle.std.proofs.Common.{◌≡◌, ◌<◌, ◌≤◌, ℕ, zero, suc, List, [], ◌∷◌, map, length, Bool, true, false, nat_eq, ◌||◌, ◌↔◌, inl, inr, refl, sym, subst, arith}
use Rattle.std.specs.List.{AllByRecursion, IsDistinct, list_any, concat}
use Rattle.std.proofs.lemmas.Map.Steps.{length-le_from_distinct_below}
use Rattle.fv_graph.specs.Graph.{IsIn, AllDiffer, LeadsIn, IsBelow}
use Rattle.fv_declare_schema.specs.Once.{once}
use Rattle.fv_graph.specs.Recursion.{value_in}
use Rattle.fv_graph.proofs.Lists.{in_cases, eq_of, or_true}
use Rattle.fv_declare_schema.specs.Groups.{Groups, Inherits, inherit_next, inherited_by, numbers_of, form_at}
use Rattle.fv_declare_schema.specs.Marked.{Reaches}
use Rattle.fv_declare_schema.proofs.Edges.{numbers_below}
use Rattle.fv_declare_schema.proofs.Reaching.{reaches_on}
use Rattle.fv_local.specs.Below.{below}
use Rattle.fv_local.proofs.Members.{in_once, once_differs, in_concat}

-- ---- chains that meet no node twice

-- a chain of edges through these nodes, the last of them the second
abbrev IsChain : (ℕ → List ℕ) → ℕ → List ℕ → ℕ → Type 0
IsChain next i [] j = i ≡ j
IsChain next i (k ∷ ks) j = IsIn (next i) k × IsChain next k ks j

-- a chain that meets no node twice
abbrev Straight : (ℕ → List ℕ) → ℕ → ℕ → Type 0
Straight next i j = (ks : List ℕ) × IsChain next i ks j × IsDistinct nat_eq (i ∷ ks)

none_among : (i : ℕ) (ks : List ℕ) → list_any (nat_eq i) ks ≡ false → AllByRecursion (λ k. nat_eq i k ≡ false) ks
none_among i [] e = tt
none_among i (k ∷ ks) e = (here (nat_eq i k) (list_any (nat_eq i) ks) e, none_among i ks (later (nat_eq i k) (list_any (nat_eq i) ks) e))
  where
    here : (a b : Bool) → (a || b) ≡ false → a ≡ false
    here true b e = cc
    here false b e = refl

    later : (a b : Bool) → (a || b) ≡ false → b ≡ false
    later true b e = cc
    later false b e = e

module _ (next : ℕ → List ℕ) where
  -- what is left of a chain from a node that it meets on
  left_from : (i j k : ℕ) (ks : List ℕ) → IsChain next k ks j → IsDistinct nat_eq (k ∷ ks) → list_any (nat_eq i) (k ∷ ks) ≡ true → Straight next i j
  unfolding IsDistinct
  left_from i j k [] chain apart met = elim (or_true (nat_eq i k) false met) [
    | inl e ↦ subst (λ (w : ℕ). Straight next w j) (sym (eq_of i k e)) ([], chain, apart)
    | inr e ↦ cc
  ]
  left_from i j k (m ∷ ks) chain apart met = elim (or_true (nat_eq i k) (list_any (nat_eq i) (m ∷ ks)) met) [
    | inl e ↦ subst (λ (w : ℕ). Straight next w j) (sym (eq_of i k e)) (m ∷ ks, chain, apart)
    | inr e ↦ left_from i j m ks chain.1 apart.1 e
  ]

  before : (i j k : ℕ) → IsIn (next i) k → Straight next k j → Straight next i j
  unfolding IsDistinct
  before i j k h s = go (list_any (nat_eq i) (k ∷ s.0)) refl
    where
      go : (b : Bool) → list_any (nat_eq i) (k ∷ s.0) ≡ b → Straight next i j
      go true e = left_from i j k s.0 s.1 s.2 e
      go false e = (k ∷ s.0, (h, s.1), (none_among i (k ∷ s.0) e, s.2))

  straight_in : (more i j : ℕ) → LeadsIn next more i j → Straight next i j
  unfolding IsDistinct
  straight_in zero i j h = before i j j h ([], refl, (tt, tt))
  straight_in (suc more) i j h = before i j h.0 h.1 (straight_in more h.0 j h.2)

  straight : (i j : ℕ) → Reaches next i j → Straight next i j
  unfolding IsDistinct
  straight i j (inl e) = ([], e, (tt, tt))
  straight i j (inr l) = straight_in l.0 i j l.1

  -- it is no longer than there are nodes
  module _ (count : ℕ) (within : IsBelow next count) where
    each_below : (i j : ℕ) (ks : List ℕ) → IsChain next i ks j → (q : ℕ) → list_any (nat_eq q) ks ≡ true → q < count
    each_below i j [] chain q met = cc
    each_below i j (k ∷ ks) chain q met = elim (or_true (nat_eq q k) (list_any (nat_eq q) ks) met) [
      | inl e ↦ subst (λ (w : ℕ). w < count) (sym (eq_of q k e)) (within i k chain.0).1
      | inr e ↦ each_below k j ks chain.1 q e
    ]

    short : (i j : ℕ) (ks : List ℕ) → IsChain next i ks j → IsDistinct nat_eq (i ∷ ks) → length ks ≤ count
    unfolding IsDistinct
    short i j ks chain apart = length-le_from_distinct_below ks count apart.1 (each_below i j ks chain)

-- ---- what is joined along chains

-- a node and those that others stand for, each once
abbrev joined : ℕ → List (List ℕ) → List ℕ
joined i lists = once (i ∷ concat lists)

module _ (next : ℕ → List ℕ) where
  from_lists : (f : ℕ → List ℕ) (i j : ℕ) (ks : List ℕ) → ((k : ℕ) → IsIn ks k → IsIn (next i) k) → ((k : ℕ) → IsIn (f k) j → Reaches next k j) → IsIn (concat (map f ks)) j → Reaches next i j
  from_lists f i j [] edges each h = absurd h
  from_lists f i j (k ∷ ks) edges each h = elim (in_cases (f k) (concat (map f ks)) j h) [
    | inl a ↦ reaches_on next i k j (edges k (inl refl)) (each k a)
    | inr b ↦ from_lists f i j ks (λ l m. edges l (inr m)) each b
  ]

  from_joined : (deep i j : ℕ) → IsIn (value_in joined next deep i) j → Reaches next i j
  from_joined zero i j h = elim ((in_once (i ∷ []) j).0 h) [ inl e ↦ inl e | inr n ↦ absurd n ]
  from_joined (suc deep) i j h = elim ((in_once (i ∷ concat (map (λ k. value_in joined next deep k) (next i))) j).0 h) [
    | inl e ↦ inl e
    | inr m ↦ from_lists (λ k. value_in joined next deep k) i j (next i) (λ k l. l) (λ k l. from_joined deep k j l) m
  ]

  into_joined : (deep i j : ℕ) (ks : List ℕ) → IsChain next i ks j → length ks ≤ deep → IsIn (value_in joined next deep i) j
  into_joined zero i j [] chain long = (in_once (i ∷ []) j).1 (inl chain)
  into_joined (suc deep) i j [] chain long = (in_once (i ∷ concat (map (λ k. value_in joined next deep k) (next i))) j).1 (inl chain)
  into_joined zero i j (k ∷ ks) chain long = absurd (omega arith)
  into_joined (suc deep) i j (k ∷ ks) chain long =
      (in_once (i ∷ concat (map (λ k. value_in joined next deep k) (next i))) j).1
      (inr (in_concat (λ k. value_in joined next deep k) (next i) k j chain.0 (into_joined deep k j ks chain.1 (omega arith))))

-- ---- groups

starts : (gs es : Groups) (i j : ℕ) → IsIn (numbers_of gs (inherited_by (form_at es i))) j → i < length es
starts gs [] i j h = absurd h
starts gs (e ∷ es) zero j h = omega arith
starts gs (e ∷ es) (suc i) j h = let k = starts gs es i j h in omega arith

inherit_below : (gs : Groups) → IsBelow (inherit_next gs) (length gs)
inherit_below gs i j h = (starts gs gs i j h, numbers_below gs (inherited_by (form_at gs i)) j h)

pub below_is : (gs : Groups) (g h : ℕ) → IsIn (below gs g) h ↔ Inherits gs g h
below_is gs g h = (
  from_joined (inherit_next gs) (length gs) g h,
  λ r. (let s = straight (inherit_next gs) g h r in
      into_joined (inherit_next gs) (length gs) g h s.0 s.1 (short (inherit_next gs) (length gs) (inherit_below gs) g h s.0 s.1 s.2)),
)

differs : (next : ℕ → List ℕ) (deep i : ℕ) → AllDiffer (value_in joined next deep i)
differs next zero i = once_differs (i ∷ [])
differs next (suc deep) i = once_differs (i ∷ concat (map (λ k. value_in joined next deep k) (next i)))

pub below_differs : (gs : Groups) (g : ℕ) → AllDiffer (below gs g)
below_differs gs g = differs (inherit_next gs) (length gs) g
