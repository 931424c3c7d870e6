-- Lists without repeats, as they grow.
use Rattle.std.proofs.Common.{◌≡◌, ◌<◌, ◌+◌, ℕ, List, [], ◌∷◌, ◌++◌, map, ◌||◌, refl, sym, ap, arith, zero, suc, ◌∙◌, Bool, true, false, cond, nat_eq, get_or, length, take}
use Rattle.std.specs.List.{concat}
use Rattle.std.proofs.lemmas.List.{take_more, map-append, append-nil}
use Rattle.std.proofs.lemmas.List.Folds.{concat-append}
use Rattle.fv_graph.proofs.Totals.{map_more}
use Rattle.fv_graph.specs.Graph.{mem}
use Rattle.fv_declare_schema.specs.Once.{once_after, once}
use Rattle.fv_declare_schema.specs.Tables.{indices}
use Rattle.fv_declare_schema.specs.declared.declared.GroupId.{GroupId}

-- one more of a list of groups
pub indices_more : (gs : List GroupId) (k : ℕ) (d : GroupId) → k < length gs → indices (take (k + 1) gs) ≡ indices (take k gs) ++ (get_or gs k d).index ∷ []
indices_more gs k d less = ap (λ (l : List GroupId). indices l) (take_more gs k d less) ∙ map-append (λ g. g.index) (take k gs) (get_or gs k d ∷ [])

or_swap : (a b c : Bool) → ((a || b) || c) ≡ (b || (a || c))
or_swap true true c = refl
or_swap true false c = refl
or_swap false true c = refl
or_swap false false c = refl

once_snoc : (done xs : List ℕ) (y : ℕ) → once_after done (xs ++ y ∷ []) ≡ once_after done xs ++ cond (mem done y || mem (once_after done xs) y) [] (y ∷ [])
once_snoc done [] y = go (mem done y)
  where
    go : (b : Bool) → cond b [] (y ∷ []) ≡ cond (b || false) [] (y ∷ [])
    go true = refl
    go false = refl
once_snoc done (x ∷ xs) y = go (once_snoc done xs y) (once_snoc (x ∷ done) xs y) (mem done x)
  where
    go : once_after done (xs ++ y ∷ []) ≡ once_after done xs ++ cond (mem done y || mem (once_after done xs) y) [] (y ∷ [])
        → once_after (x ∷ done) (xs ++ y ∷ []) ≡ once_after (x ∷ done) xs ++ cond (mem (x ∷ done) y || mem (once_after (x ∷ done) xs) y) [] (y ∷ [])
        → (b : Bool) → cond b (once_after done (xs ++ y ∷ [])) (x ∷ once_after (x ∷ done) (xs ++ y ∷ []))
        ≡ cond b (once_after done xs) (x ∷ once_after (x ∷ done) xs) ++ cond (mem done y || mem (cond b (once_after done xs) (x ∷ once_after (x ∷ done) xs)) y) [] (y ∷ [])
    go old new true = old
    go old new false =
        ap (λ (l : List ℕ). x ∷ l) (new
        ∙ ap (λ (b : Bool). once_after (x ∷ done) xs ++ cond b [] (y ∷ [])) (or_swap (nat_eq x y) (mem done y) (mem (once_after (x ∷ done) xs) y)))

-- a number that is there already
pub once_skip : (xs : List ℕ) (y : ℕ) → mem (once xs) y ≡ true → once (xs ++ y ∷ []) ≡ once xs
once_skip xs y e = once_snoc [] xs y ∙ ap (λ (b : Bool). once xs ++ cond b [] (y ∷ [])) e ∙ append-nil (once xs)

-- a number that is new
pub once_add : (xs : List ℕ) (y : ℕ) → mem (once xs) y ≡ false → once (xs ++ y ∷ []) ≡ once xs ++ y ∷ []
once_add xs y e = once_snoc [] xs y ∙ ap (λ (b : Bool). once xs ++ cond b [] (y ∷ [])) e

mem-append : (xs ys : List ℕ) (i : ℕ) → mem (xs ++ ys) i ≡ (mem xs i || mem ys i)
mem-append [] ys i = refl
mem-append (x ∷ xs) ys i = go (nat_eq x i) (mem-append xs ys i)
  where
    go : (b : Bool) → mem (xs ++ ys) i ≡ (mem xs i || mem ys i) → (b || mem (xs ++ ys) i) ≡ ((b || mem xs i) || mem ys i)
    go true h = refl
    go false h = h

pub mem_more : (gs : List GroupId) (k i : ℕ) (d : GroupId) → k < length gs → mem (indices (take (k + 1) gs)) i ≡ (mem (indices (take k gs)) i || (nat_eq (get_or gs k d).index i || false))
mem_more gs k i d less = ap (λ (l : List ℕ). mem l i) (indices_more gs k d less) ∙ mem-append (indices (take k gs)) ((get_or gs k d).index ∷ []) i

pub mem_at : (gs : List GroupId) (k i : ℕ) (d : GroupId) → k < length gs → nat_eq (get_or gs k d).index i ≡ true → mem (indices gs) i ≡ true
mem_at [] k i d less e = absurd (omega arith)
mem_at (g ∷ gs) zero i d less e = ap (λ (b : Bool). b || mem (indices gs) i) e
mem_at (g ∷ gs) (suc k) i d less e = go (nat_eq g.index i) (mem_at gs k i d (omega arith) e)
  where
    go : (b : Bool) → mem (indices gs) i ≡ true → (b || mem (indices gs) i) ≡ true
    go true h = refl
    go false h = h

concat_more : (f : ℕ → List ℕ) (xs : List ℕ) (k : ℕ) → k < length xs → concat (map f (take (k + 1) xs)) ≡ concat (map f (take k xs)) ++ f (get_or xs k 0)
concat_more f xs k less =
    ap (λ (l : List (List ℕ)). concat l) (map_more f xs k less) ∙ concat-append (map f (take k xs)) (f (get_or xs k 0) ∷ [])
    ∙ ap (λ (l : List ℕ). concat (map f (take k xs)) ++ l) (append-nil (f (get_or xs k 0)))

-- one more of the lists
pub gather_step : (f : ℕ → List ℕ) (xs : List ℕ) (k : ℕ) (made more made' : List ℕ) → k < length xs → made ≡ once (concat (map f (take k xs))) → more ≡ f (get_or xs k 0)
    → ((ys : List ℕ) → made ≡ once ys → made' ≡ once (ys ++ more)) → made' ≡ once (concat (map f (take (k + 1) xs)))
gather_step f xs k made more made' less e is adds =
    adds (concat (map f (take k xs))) e ∙ ap (λ (l : List ℕ). once (concat (map f (take k xs)) ++ l)) is ∙ ap (λ (l : List ℕ). once l) (sym (concat_more f xs k less))
