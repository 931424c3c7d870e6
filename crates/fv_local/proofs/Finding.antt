-- What is found of a type's uses, as the search goes on.
use Rattle.std.proofs.Common.{◌≡◌, ◌<◌, ◌≤◌, ◌+◌, ◌↔◌, ◌⊎◌, ◌&&◌, All, ℕ, zero, suc, List, [], ◌∷◌, ◌++◌, length, map, get_or, Bool, true, false, nat_eq, Some, option_map, slice_get, refl, sym, ap, subst, ◌∙◌, inl, inr, arith}
use Rattle.std.specs.List.{AllByRecursion, list_any}
use Rattle.std.proofs.lemmas.Option.{slice_get_read, slice_get-map}
use Rattle.fv_declare_schema.specs.Declarations.{Declarations}
use Rattle.fv_declare_schema.specs.Declarations as spec
use Rattle.fv_declare_schema.specs.PlacedView.{placed_view}
use Rattle.fv_declare_schema.specs.declared.place.Placed.{Placed}
use Rattle.fv_graph.specs.Graph.{mem, IsIn}
use Rattle.fv_graph.proofs.Lists.{in_left, in_right, in_cases, eq_of, eq_same}
use Rattle.fv_declare_schema.specs.Tables.{indices}
use Rattle.fv_declare_schema.specs.declared.declared.GroupId.{GroupId}
use Rattle.fv_local.specs.Reached.{is_in, IsReached, AreReached}
use Rattle.fv_local.specs.Spans.{AreOfType}
use Rattle.fv_local.specs.declared.type_uses.TypeUses.{TypeUses}
use Rattle.fv_local.proofs.Members.{in_both}

-- ---- one use

-- a use as it stands among all
pub at_use : (os : List Placed) (us : List spec.Placed) (n : ℕ) (o : Placed) → map placed_view os ≡ us → n < length os → o ≡ get_or os n o → slice_get us n ≡ Some (placed_view o)
at_use os us n o seen less is =
    sym (ap (λ (l : List spec.Placed). slice_get l n) seen) ∙ slice_get-map placed_view os n ∙ ap (λ x. option_map placed_view x) (slice_get_read os (length os) n o refl less is)

-- what all uses have, each has
pub each_use : (P : spec.Placed → Type 0) (us : List spec.Placed) (n : ℕ) (u : spec.Placed) → AllByRecursion P us → slice_get us n ≡ Some u → P u
each_use P [] n u all e = cc
each_use P (v ∷ us) zero u all e = let same : v ≡ u = cc in subst P same all.0
each_use P (v ∷ us) (suc n) u all e = each_use P us n u all.1 e

-- groups whose numbers are groups'
pub all_indices : (n : ℕ) (gs : List GroupId) → AllByRecursion (λ g. g < n) (indices gs) → All (λ h. h.index < n) gs
all_indices n [] all k d less = absurd (omega arith)
all_indices n (g ∷ gs) all zero d less = all.0
all_indices n (g ∷ gs) all (suc k) d less = all_indices n gs all.1 k d (omega arith)

both_true : (a b : Bool) → a && b ≡ true → (a ≡ true) × (b ≡ true)
both_true true b e = (refl, e)
both_true false b e = cc

-- ---- what is reached

-- a use that is reached stands at the type, in one of the groups
pub reached_at : (type : ℕ) (hs : List ℕ) (u : spec.Placed) → is_in type hs u ≡ true → (u.type ≡ type) × (list_any (mem hs) u.groups ≡ true)
reached_at type hs u e = let both = both_true (nat_eq u.type type) (list_any (mem hs) u.groups) e in (eq_of u.type type both.0, both.1)

-- a use at the type is reached where it is in one of the groups
pub reached_where : (type : ℕ) (hs : List ℕ) (u : spec.Placed) → u.type ≡ type → is_in type hs u ≡ list_any (mem hs) u.groups
reached_where type hs u is =
    ap (λ (b : Bool). b && list_any (mem hs) u.groups) (subst (λ (w : ℕ). nat_eq u.type w ≡ true) is (eq_same u.type))

-- the uses of a list are at the type and in one of the groups
pub use_of : (ds : Declarations) (type : ℕ) (hs is : List ℕ) (i : ℕ) → AreReached ds type hs is → IsIn is i
    → (u : spec.Placed) × (slice_get ds.occurrences i ≡ Some u) × (u.type ≡ type) × ((h : ℕ) × IsIn u.groups h × IsIn hs h)
use_of ds type hs is i are h =
    let r = (are i).0 h in
    let at = reached_at type hs r.0 r.2 in
    (r.0, r.1, at.0, (in_both hs r.0.groups).0 at.1)

-- and all such uses are in it
pub in_uses : (ds : Declarations) (type : ℕ) (hs is : List ℕ) (i : ℕ) (u : spec.Placed) (h : ℕ) → AreReached ds type hs is → slice_get ds.occurrences i ≡ Some u → u.type ≡ type
    → IsIn u.groups h → IsIn hs h → IsIn is i
in_uses ds type hs is i u h are there at of_use of_group =
    (are i).1 (u, there, reached_where type hs u at ∙ (in_both hs u.groups).1 (h, of_use, of_group))

-- ---- the uses before a number

-- these are the uses before a number that are reached
abbrev pub AreReachedBefore : Declarations → ℕ → List ℕ → ℕ → List ℕ → Type 0
AreReachedBefore ds type hs n is = (i : ℕ) → IsIn is i ↔ ((i < n) × IsReached ds type hs i)

module _ (ds : Declarations) (t : TypeUses) (hs : List ℕ) (span : AreOfType ds.occurrences t) where
  module _ (n : ℕ) (u : spec.Placed) (there : slice_get ds.occurrences n ≡ Some u) (from : t.first ≤ n) (until : n < t.end) where
    test : is_in t.type_id.index hs u ≡ list_any (mem hs) u.groups
    test = reached_where t.type_id.index hs u ((span.each n u there).0 (from, until))

    earlier : (i : ℕ) → i < n + 1 → (i ≡ n) ⊎ (i < n)
    earlier i less = go (nat_eq i n) refl
      where
        go : (b : Bool) → nat_eq i n ≡ b → (i ≡ n) ⊎ (i < n)
        go true e = inl (eq_of i n e)
        go false e = inr (grind arith)

    pub one_more : (is is' : List ℕ) → list_any (mem hs) u.groups ≡ true → is' ≡ is ++ n ∷ [] → AreReachedBefore ds t.type_id.index hs n is → AreReachedBefore ds t.type_id.index hs (n + 1) is'
    one_more is is' here more found i = subst (λ (l : List ℕ). IsIn l i ↔ ((i < n + 1) × IsReached ds t.type_id.index hs i)) (sym more) (to, back)
      where
        to : IsIn (is ++ n ∷ []) i → (i < n + 1) × IsReached ds t.type_id.index hs i
        to h = elim (in_cases is (n ∷ []) i h) [
          | inl a ↦ (let r = (found i).0 a in (omega (arith, r.0), r.1))
          | inr (inl e) ↦ subst (λ (w : ℕ). (w < n + 1) × IsReached ds t.type_id.index hs w) e (omega arith, (u, there, test ∙ here))
          | inr (inr k) ↦ absurd k
        ]

        back : (i < n + 1) × IsReached ds t.type_id.index hs i → IsIn (is ++ n ∷ []) i
        back r = elim (earlier i r.0) [
          | inl e ↦ in_right is (n ∷ []) i (inl (sym e))
          | inr less ↦ in_left is (n ∷ []) i ((found i).1 (less, r.1))
        ]

    not_reached : list_any (mem hs) u.groups ≡ false → IsReached ds t.type_id.index hs n → ⊥
    not_reached out r =
        let e = r.1 in
        let same : r.0 ≡ u = cc in
        let in_one : list_any (mem hs) u.groups ≡ true = subst (λ (v : spec.Placed). list_any (mem hs) v.groups ≡ true) same (reached_at t.type_id.index hs r.0 r.2).1 in
        cc

    pub none_more : (is : List ℕ) → list_any (mem hs) u.groups ≡ false → AreReachedBefore ds t.type_id.index hs n is → AreReachedBefore ds t.type_id.index hs (n + 1) is
    none_more is out found i = (
      λ h. (let r = (found i).0 h in (omega (arith, r.0), r.1)),
      λ r. elim (earlier i r.0) [
        | inl e ↦ absurd (not_reached out (subst (λ (w : ℕ). IsReached ds t.type_id.index hs w) e r.1))
        | inr less ↦ (found i).1 (less, r.1)
      ],
    )
