-- Uses of constraints, one after another.
use Rattle.std.proofs.Common.{◌≡◌, ◌<◌, ◌≤◌, ◌+◌, ◌∷◌, ◌∙◌, ℕ, zero, suc, Bool, List, [], get_or, length, map, drop, ap, sym, subst, arith}
use Rattle.std.proofs.lemmas.List.{drop_more, get_or-map, length-map}
use Rattle.fv_declare_schema.specs.Declarations.{Declarations, Placed, AreNumbered, count_nodes}
use Rattle.fv_declare_schema.specs.Groups.{Groups}
use Rattle.fv_declare_schema.specs.Ordered.{AreOrdered}
use Rattle.fv_declare_schema.specs.PlacedView.{placed_view}
use Rattle.fv_declare_schema.specs.declared.place.Placed as code
use Rattle.fv_explain.specs.Explained.{AreUseLines}

-- the numbers of a use's nodes are below that of the last of all
number_fits : (us : List Placed) (n i : ℕ) (d : Placed) → AreNumbered n us → i < length us
    → (get_or us i d).number + count_nodes ((get_or us i d).tree ∷ []) ≤ n + count_nodes (map (λ o. o.tree) us)
number_fits [] n i d ns h = absurd (omega arith)
number_fits (o ∷ os) n zero d ns h = let e : o.number ≡ n = ns.0 in omega arith
number_fits (o ∷ os) n (suc i) d ns h =
    let e = number_fits os _ i d ns.1 (omega arith) in
    omega (arith, e)

-- a use where it stands among those of the code
at_place : (us : List code.Placed) (i : ℕ) (p : code.Placed) → i < length us → p ≡ get_or us i p
    → get_or (map placed_view us) i (placed_view p) ≡ placed_view p
at_place us i p h is = get_or-map placed_view us i p (placed_view p) h ∙ ap placed_view (sym is)

-- so they are few
pub use_fits : (s : Declarations) (us : List code.Placed) (i : ℕ) (p : code.Placed) → AreOrdered s → map placed_view us ≡ s.occurrences
    → i < length us → p ≡ get_or us i p → (placed_view p).number + count_nodes ((placed_view p).tree ∷ []) ≤ 1024
use_fits s us i p ordered are h is =
    let ns : AreNumbered 0 (map placed_view us) = subst (AreNumbered 0) (sym are) ordered.numbered in
    let few : count_nodes (map (λ o. o.tree) (map placed_view us)) ≤ 1024 =
    subst (λ (os : List Placed). count_nodes (map (λ o. o.tree) os) ≤ 1024) (sym are) ordered.few in
    let within : i < length (map placed_view us) = omega (arith, length-map us placed_view) in
    let fits : (placed_view p).number + count_nodes ((placed_view p).tree ∷ []) ≤ 0 + count_nodes (map (λ o. o.tree) (map placed_view us)) =
    subst (λ (o : Placed). o.number + count_nodes (o.tree ∷ []) ≤ 0 + count_nodes (map (λ u. u.tree) (map placed_view us))) (at_place us i p h is)
    (number_fits (map placed_view us) 0 i (placed_view p) ns within) in
    omega arith

-- the next use, and those behind it
pub uses_more : (us : List code.Placed) (i : ℕ) (p : code.Placed) → i < length us → p ≡ get_or us i p
    → drop i (map placed_view us) ≡ placed_view p ∷ drop (i + 1) (map placed_view us)
uses_more us i p h is =
    let within : i < length (map placed_view us) = omega (arith, length-map us placed_view) in
    drop_more (map placed_view us) i (placed_view p) within
    ∙ ap (λ (o : Placed). o ∷ drop (i + 1) (map placed_view us)) (at_place us i p h is)

-- the same lines, as the same sort of text, in the same groups
pub use_lines_same : (json other : Bool) (gs hs : Groups) (u : Placed) (lines : List (List ℕ)) → json ≡ other → gs ≡ hs → AreUseLines json gs u lines
    → AreUseLines other hs u lines
use_lines_same json other gs hs u lines js is are =
    subst (λ (g : Groups). AreUseLines other g u lines) is (subst (λ (b : Bool). AreUseLines b gs u lines) js are)
