-- One record more is judged.
use Rattle.std.proofs.Common.{◌≡◌, ℤ, ℕ, inl, List, [], ◌∷◌, ◌++◌, refl, sym, ap, ◌∙◌, append_assoc}
use Rattle.std.proofs.lemmas.List.{append-nil}
use Rattle.fv_declare_schema.specs.Declarations.{Declarations}
use Rattle.fv_engine_pending.specs.Judging.{IsListingOf, IsOverVisited}
use Rattle.fv_engine_pending.specs.Records.{AreJudged, OneIsOver, some_of, with_some}
use Rattle.fv_engine_pending.proofs.Pages.{has_left, has_right}
use Rattle.fv_registry.specs.Meanings.{Meanings}
use Rattle.fv_store.specs.Records.{Kept}
use Rattle.fv_validate.specs.Violations.{Judged, Reported}

with_some_end : (ls : List Judged) (id : List ℕ) (vs : List Reported) → with_some (ls ++ (id, vs) ∷ []) ≡ with_some ls ++ some_of id vs
with_some_end [] id vs = append-nil (some_of id vs)
with_some_end (l ∷ ls) id vs = ap (λ (zs : List Judged). some_of l.0 l.1 ++ zs) (with_some_end ls id vs) ∙ sym (append_assoc (some_of l.0 l.1) (with_some ls) (some_of id vs))

-- one has too many visits, also with more behind it
pub over_more : (ds : Declarations) (ks more : List (List ℕ × Kept)) → OneIsOver ds ks → OneIsOver ds (ks ++ more)
over_more ds ks more (k, has, over) = (k, has_left ks more k has, over)

-- and so it is where the last has
pub over_last : (ds : Declarations) (ks : List (List ℕ × Kept)) (id : List ℕ) (k : Kept) → IsOverVisited ds k → OneIsOver ds (ks ++ (id, k) ∷ [])
over_last ds ks id k over = ((id, k), has_right ks ((id, k) ∷ []) (id, k) (inl refl), over)

module _ (means : Meanings) (ds : Declarations) (now : ℤ) where
  judged_end : (ks : List (List ℕ × Kept)) (ls : List Judged) (id : List ℕ) (k : Kept) (vs : List Reported) → AreJudged means ds now ks ls → IsListingOf means ds now k vs → AreJudged means ds now (ks ++ (id, k) ∷ []) (ls ++ (id, vs) ∷ [])
  judged_end [] ls id k vs is listing = (vs, [], ap (λ (xs : List Judged). xs ++ (id, vs) ∷ []) is, listing, refl)
  judged_end (j ∷ ks) ls id k vs (ws, rest, is, here, more) listing = (ws, rest ++ (id, vs) ∷ [], ap (λ (xs : List Judged). xs ++ (id, vs) ∷ []) is, here, judged_end ks rest id k vs more listing)

  -- what is told of records, with what is told of one more
  pub told_more : (told more : List Judged) (ks : List (List ℕ × Kept)) (id : List ℕ) (k : Kept) (vs : List Reported) → (ls : List Judged) × AreJudged means ds now ks ls × (told ≡ with_some ls) → IsListingOf means ds now k vs → more ≡ told ++ some_of id vs
      → (ls : List Judged) × AreJudged means ds now (ks ++ (id, k) ∷ []) ls × (more ≡ with_some ls)
  told_more told more ks id k vs (ls, judged, is) listing added = (
    ls ++ (id, vs) ∷ [],
    judged_end ks ls id k vs judged listing,
    added ∙ ap (λ (xs : List Judged). xs ++ some_of id vs) is ∙ sym (with_some_end ls id vs),
  )
