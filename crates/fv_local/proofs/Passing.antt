-- Data that are asked together, and of which nothing is told.
use Rattle.std.proofs.Common.{◌≡◌, ◌<◌, ℕ, ℤ, ◌+◌, List, [], ◌∷◌, ◌++◌, zero, suc, map, take, drop, length, get_or, false, Some, slice_get, append-nil, refl, sym, ap, ◌∙◌}
use Rattle.std.proofs.lemmas.List.Elements.{All-from_recursion, recursion_from_All}
use Rattle.std.specs.List.{All, AllByRecursion, flat_map}
use Rattle.fv_datum.specs.View.{view, items_view}
use Rattle.fv_datum.specs.declared.datum.Datum.{Datum}
use Rattle.fv_declare_schema.specs.Declarations.{Placed}
use Rattle.fv_extract.specs.Parts.{Locus, at_index, items_from, parts_below}
use Rattle.fv_extract.specs.Places as object
use Rattle.fv_constraint_tree.proofs.Laws.{empty_is}
use Rattle.fv_constraint_tree.specs.Nodes.{Node}
use Rattle.fv_constraint_tree.specs.Reports.{is_bad, violated}
use Rattle.fv_constraint_tree.specs.Says.{of_datum, refuses}
use Rattle.fv_registry.specs.Meanings.{Meanings}
use Rattle.fv_local.specs.Told.{picked, numbers_of, told_of_numbers, part_told}
use Rattle.fv_local.proofs.Picked.{numbers_grow}
use Rattle.fv_local.proofs.Reports.{number}

module _ (m : Meanings) (now : ℤ) where
  -- uses report nothing of a datum
  abbrev pub Passes : List Placed → Datum → Type 0
  Passes us d = numbers_of m now (of_datum (view d)) us ≡ []

  -- a tree reports nothing of it
  abbrev pub Good : Placed → Datum → Type 0
  Good u d = is_bad (refuses m now (of_datum (view d))) u.tree ≡ false

  module _ (us : List Placed) (asked : List ℕ) (k : ℕ) (u : Placed) (less : k < length asked) (there : slice_get us (get_or asked k 0) ≡ Some u) where
    one_more : (d : Datum) → Passes (picked us (take k asked)) d → Good u d → Passes (picked us (take (k + 1) asked)) d
    one_more d before good =
        let s = of_datum (view d) in
        let none : map number (violated m now s 0 u.tree) ≡ [] = (empty_is (λ (n : Node). n.single) (refuses m now s) 0 u.tree (map number (violated m now s 0 u.tree)) refl).1 good in
        sym (numbers_grow m now s us asked k u [] less there (sym (ap (map (λ (n : ℕ). u.number + n)) none)))
        ∙ append-nil (numbers_of m now s (picked us (take k asked))) ∙ before

    each : (ds : List Datum) → AllByRecursion (Passes (picked us (take k asked))) ds → AllByRecursion (Good u) ds → AllByRecursion (Passes (picked us (take (k + 1) asked))) ds
    each [] before good = tt
    each (d ∷ ds) before good = (one_more d before.0 good.0, each ds before.1 good.1)

    -- one use more
    pub passes_more : (ds : List Datum) → All (Passes (picked us (take k asked))) ds → All (Good u) ds → All (Passes (picked us (take (k + 1) asked))) ds
    passes_more ds before good =
        All-from_recursion (Passes (picked us (take (k + 1) asked))) ds
        (each ds (recursion_from_All (Passes (picked us (take k asked))) ds before) (recursion_from_All (Good u) ds good))

  module _ (us : List Placed) (place : object.FieldPlace) (l : Locus) where
    none_from : (i : ℕ) (ds : List Datum) → AllByRecursion (Passes us) ds → flat_map (part_told m now us place) (map (parts_below l) (items_from i (items_view ds))) ≡ []
    none_from i [] all = refl
    none_from i (d ∷ ds) all =
        ap (λ (ns : List ℕ). told_of_numbers place (parts_below l (at_index i ∷ [], view d)) ns ++ flat_map (part_told m now us place) (map (parts_below l) (items_from (i + 1) (items_view ds)))) all.0
        ∙ none_from (i + 1) ds all.1

    behind : (n : ℕ) (ds : List Datum) → AllByRecursion (Passes us) ds → AllByRecursion (Passes us) (drop n ds)
    behind zero ds all = all
    behind (suc n) [] all = tt
    behind (suc n) (d ∷ ds) all = behind n ds all.1

    -- of the items of a list from one on nothing is told
    pub none_told : (n : ℕ) (ds : List Datum) → All (Passes us) ds → flat_map (part_told m now us place) (map (parts_below l) (items_from n (items_view (drop n ds)))) ≡ []
    none_told n ds all = none_from n (drop n ds) (behind n ds (recursion_from_All (Passes us) ds all))
