-- What is listed above the last id of a page.
use Rattle.std.proofs.Common.{◌≡◌, inl, inr, ◌<◌, ℕ, zero, suc, List, [], ◌∷◌, ◌++◌, length, take, drop, Less, Equal, nat_cmp, refl, sym, ap, subst, ◌∙◌, arith}
use Rattle.std.specs.List.Sorted.{IsStrictlySortedBy}
use Rattle.std.specs.Cmp.Lexicographic.{slice_cmp}
use Rattle.std.proofs.lemmas.Cmp.{nat_list_cmp_total, tied_itself}
use Rattle.std.proofs.lemmas.List.{take-append-drop}
use Rattle.sqlite_rules.proofs.ListLemmas.{all_has}
use Rattle.fv_store.specs.Pages.{AreListedOf}
use Rattle.fv_store.specs.Records.{Kept, Records}

not_itself : (x : List ℕ) → slice_cmp nat_cmp x x ≡ Less → ⊥
not_itself x less = let tied : slice_cmp nat_cmp x x ≡ Equal = tied_itself nat_list_cmp_total x in cc

module _ (m : Records) (Wanted : Kept → Type 0) where
  pub above_first : (above x : List ℕ) (xs : List (List ℕ)) → AreListedOf m Wanted above (x ∷ xs) → AreListedOf m Wanted x xs
  unfolding IsStrictlySortedBy
  above_first above x xs all = record {
    ascending = all.ascending.1;
    sound = λ id has. (let it = all.sound id (inr has) in record { kept = it.kept; known = it.known; wanted = it.wanted; is_above = all_has (λ y. slice_cmp nat_cmp x y ≡ Less) xs id all.ascending.0 has });
    complete = λ id it. elim (all.complete id (record { kept = it.kept; known = it.known; wanted = it.wanted; is_above = nat_list_cmp_total.trans above x id (all.sound x (inl refl)).is_above it.is_above })) [
      | inl same ↦ absurd (not_itself x (rw same at it.is_above))
      | inr has ↦ has
    ];
  }

  pub above_last : (above : List ℕ) (front : List (List ℕ)) (last : List ℕ) (rest : List (List ℕ)) → AreListedOf m Wanted above (front ++ last ∷ rest) → AreListedOf m Wanted last rest
  above_last above [] last rest all = above_first above last rest all
  above_last above (x ∷ front) last rest all = above_last x front last rest (above_first above x (front ++ last ∷ rest) all)

  -- behind a page, all above its last id are left
  pub rest_above : (above : List ℕ) (all front : List (List ℕ)) (last : List ℕ) (n : ℕ) → AreListedOf m Wanted above all → take n all ≡ front ++ last ∷ [] → AreListedOf m Wanted last (drop n all)
  rest_above above all front last n listed page =
      let whole : (front ++ last ∷ []) ++ drop n all ≡ all = ap (λ xs. xs ++ drop n all) (sym page) ∙ take-append-drop n all in
      let parts : front ++ last ∷ drop n all ≡ (front ++ last ∷ []) ++ drop n all = more front last (drop n all) in
      above_last above front last (drop n all) (subst (λ (xs : List (List ℕ)). AreListedOf m Wanted above xs) (sym (parts ∙ whole)) listed)
    where
      more : (xs : List (List ℕ)) (y : List ℕ) (ys : List (List ℕ)) → xs ++ y ∷ ys ≡ (xs ++ y ∷ []) ++ ys
      more [] y ys = refl
      more (x ∷ xs) y ys = ap (λ zs. x ∷ zs) (more xs y ys)

-- a page that isn't full is all
pub page_whole : (all : List (List ℕ)) (n : ℕ) → length (take n all) < n → take n all ≡ all
page_whole [] zero short = refl
page_whole (x ∷ all) zero short = absurd (omega arith)
page_whole [] (suc n) short = refl
page_whole (x ∷ all) (suc n) short = ap (λ xs. x ∷ xs) (page_whole all n (omega arith))
