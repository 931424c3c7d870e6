-- How many nodes trees have.
use Rattle.std.proofs.Common.{◌≡◌, ℕ, zero, suc, get_or, take, add-one, ◌+◌, ◌<◌, ◌≤◌, nat_lt, Bool, true, false, if◌then◌else◌, List, [], ◌∷◌, ◌++◌, length, map, zip, min, Option, Some, None, option_map, is_some, refl, sym, ap, ap₂, ◌∙◌, arith}
use Rattle.std.proofs.lemmas.Bool.Decides.{nat_tests}
use Rattle.std.proofs.lemmas.List.{map-append}
use Rattle.std.proofs.lemmas.Slice.Zip.{all_zipped_more}
use Rattle.std.specs.List.{AllZip}
use Rattle.std.specs.Option.{option_or}
use Rattle.fv_constraint.specs.Composed.{Planned, IsTreeOf}
use Rattle.fv_declare_definition.specs.Definitions.{Definitions}
use Rattle.fv_flatten.specs.Flattening.{Use, AreTreesOfUses}
use Rattle.fv_declare_judging.specs.LimitPlaces.{crowded_from}
use Rattle.fv_declare_judging.specs.Used.{used}
use Rattle.fv_declare_draft.specs.UseViews.{use_view}
use Rattle.fv_declare_draft.specs.declared.all_uses.Use as code
use Rattle.fv_flatten.specs.Read.{IsReadTree, AreReadTrees}
use Rattle.fv_constraint_tree.specs.Targets.{Target}
use Rattle.fv_constraint_tree.specs.Nodes.{Node}
use Rattle.fv_constraint_tree.specs.Trees.{Tree, tree, Trees, none, more, size, sizes}
use Rattle.fv_declare_schema.specs.Declarations.{count_nodes}

mutual
  -- trees of one shape have as many nodes
  pub same_size : (place : Target) (t : Tree Planned) (u : Tree Node) → IsReadTree place t u → size u ≡ size t
  same_size place (tree p ts) (tree n us) r = ap (λ k. 1 + k) (same_sizes place ts us r.1)

  same_sizes : (place : Target) (ts : Trees Planned) (us : Trees Node) → AreReadTrees place ts us → sizes us ≡ sizes ts
  same_sizes place none none r = refl
  same_sizes place none (more u us) r = absurd r
  same_sizes place (more t ts) none r = absurd r
  same_sizes place (more t ts) (more u us) r = ap (λ k. k + sizes us) (same_size place t u r.0) ∙ ap (λ k. size t + k) (same_sizes place ts us r.1)

pub zip_long : {X Y : Type 0} (R : X → Y → Type 0) (xs : List X) (ys : List Y) → AllZip R xs ys → length ys ≡ length xs
zip_long R [] [] z = refl
zip_long R [] (y ∷ ys) z = absurd z
zip_long R (x ∷ xs) [] z = absurd z
zip_long R (x ∷ xs) (y ∷ ys) z = ap suc (zip_long R xs ys z.1)

-- trees that others are read as have as many nodes together
pub same_count : (us : List Use) (ts : List (Tree Planned)) (os : List (Tree Node)) → length ts ≡ length us → AllZip (λ u o. IsReadTree u.0.place u.1 o) (zip us ts) os → count_nodes os ≡ count_nodes ts
same_count [] [] [] long z = refl
same_count [] [] (o ∷ os) long z = absurd z
same_count [] (t ∷ ts) os long z = cc
same_count (u ∷ us) [] os long z = cc
same_count (u ∷ us) (t ∷ ts) [] long z = absurd z
same_count (u ∷ us) (t ∷ ts) (o ∷ os) long z =
    let less : length ts ≡ length us = omega (arith, long) in
    ap (λ k. k + count_nodes os) (same_size u.place t o z.0) ∙ ap (λ k. size t + k) (same_count us ts os less z.1)

-- as many trees as uses
pub zipped_long : (us : List Use) (ts : List (Tree Planned)) (os : List (Tree Node)) → length ts ≡ length us → AllZip (λ u o. IsReadTree u.0.place u.1 o) (zip us ts) os → length os ≡ length us
zipped_long [] [] [] long z = refl
zipped_long [] [] (o ∷ os) long z = absurd z
zipped_long [] (t ∷ ts) os long z = cc
zipped_long (u ∷ us) [] os long z = cc
zipped_long (u ∷ us) (t ∷ ts) [] long z = absurd z
zipped_long (u ∷ us) (t ∷ ts) (o ∷ os) long z = let less : length ts ≡ length us = omega (arith, long) in ap suc (zipped_long us ts os less z.1)

-- the message that a use itself gives
abbrev pub own_message : code.Use → Option (List ℕ)
own_message x = option_map (λ t. t.now) x.message

-- one tree more
pub count_more : {N : Type 0} (ts : List (Tree N)) (t : Tree N) → count_nodes (ts ++ t ∷ []) ≡ count_nodes ts + size t
count_more [] t = omega arith
count_more (s ∷ ts) t = let rest : count_nodes (ts ++ t ∷ []) ≡ count_nodes ts + size t = count_more ts t in omega arith

-- ---- the loop over uses

take_more : {X Y : Type 0} (f : X → Y) (xs : List X) (i : ℕ) (x : X) → i < length xs → x ≡ get_or xs i x → map f (take (suc i) xs) ≡ map f (take i xs) ++ f x ∷ []
take_more f [] i x h is = absurd (omega arith)
take_more f (y ∷ ys) zero x h is = ap (λ z. f z ∷ []) (sym is)
take_more f (y ∷ ys) (suc i) x h is = ap (λ zs. f y ∷ zs) (take_more f ys i x (omega arith) is)

-- one use more with its tree
pub one_more : (ds : Definitions) (xs : List code.Use) (i : ℕ) (x : code.Use) (ts : List (Tree Planned)) (t : Tree Planned) → i < length xs → x ≡ get_or xs i x
    → AreTreesOfUses ds (map used (map use_view (take i xs))) ts → IsTreeOf ds x.constraint.now (own_message x) x.given.now t → AreTreesOfUses ds (map used (map use_view (take (i + 1) xs))) (ts ++ t ∷ [])
one_more ds xs i x ts t h is trees one =
    rw (add-one, take_more use_view xs i x h is, map-append) (all_zipped_more (λ (u : Use) (t : Tree Planned). IsTreeOf ds u.constraint u.message u.given t) (map used (map use_view (take i xs))) ts (used (use_view x)) t trees one)

-- counts that stop at a limit
pub capped : (limit all further sum part : ℕ) → sum ≡ min limit all → part ≡ min limit further → min (sum + part) limit ≡ min limit (all + further)
capped limit all further sum part is so = grind (arith, nat_tests, is, so)

pub few : (limit all sum : ℕ) → sum ≡ min limit all → sum ≤ limit
few limit all sum is = grind (arith, nat_tests, is)

-- ---- where the count passes its limit

pub crowded_more : (count n : ℕ) (ts : List (Tree Planned)) (t : Tree Planned)
    → crowded_from count n (ts ++ t ∷ []) ≡ option_or (crowded_from count n ts) (if nat_lt 1024 (count + count_nodes ts + size t) then Some (n + length ts) else None)
crowded_more count n [] t = ap₂ (λ (m k : ℕ). if nat_lt 1024 m then Some k else None) (omega arith) (omega arith)
crowded_more count n (s ∷ ts) t = go (nat_lt 1024 (count + size s)) (crowded_more (count + size s) (suc n) ts t)
  where
    go : (b : Bool)
        → crowded_from (count + size s) (suc n) (ts ++ t ∷ []) ≡ option_or (crowded_from (count + size s) (suc n) ts) (if nat_lt 1024 (count + size s + count_nodes ts + size t) then Some (suc n + length ts) else None)
        → (if b then Some n else crowded_from (count + size s) (suc n) (ts ++ t ∷ []))
        ≡ option_or (if b then Some n else crowded_from (count + size s) (suc n) ts) (if nat_lt 1024 (count + (size s + count_nodes ts) + size t) then Some (n + suc (length ts)) else None)
    go true h = refl
    go false h = h ∙ ap₂ (λ (m k : ℕ). option_or (crowded_from (count + size s) (suc n) ts) (if nat_lt 1024 m then Some k else None)) (omega arith) (omega arith)

-- a tree with which there are too many is told exactly where there are too many
pub crowded_told : (count n : ℕ) (ts : List (Tree Planned)) → nat_lt 1024 count ≡ false → is_some (crowded_from count n ts) ≡ nat_lt 1024 (count + count_nodes ts)
crowded_told count n [] short = sym short ∙ ap (nat_lt 1024) (omega arith)
crowded_told count n (t ∷ ts) short = go (nat_lt 1024 (count + size t)) refl (crowded_told (count + size t) (suc n) ts)
  where
    go : (b : Bool) → nat_lt 1024 (count + size t) ≡ b → (nat_lt 1024 (count + size t) ≡ false → is_some (crowded_from (count + size t) (suc n) ts) ≡ nat_lt 1024 (count + size t + count_nodes ts))
        → is_some (if b then Some n else crowded_from (count + size t) (suc n) ts) ≡ nat_lt 1024 (count + (size t + count_nodes ts))
    go true is h = grind (arith, nat_tests, is)
    go false is h = h is ∙ ap (nat_lt 1024) (omega arith)

-- what is found with one tree more, by a count that stops at a limit
pub found_more : (found : Option ℕ) (nodes i : ℕ) (ts : List (Tree Planned)) (t : Tree Planned) → found ≡ crowded_from 0 0 ts → nodes ≡ min 1025 (count_nodes ts + size t) → length ts ≡ i
    → option_or found (if nat_lt 1024 nodes then Some i else None) ≡ crowded_from 0 0 (ts ++ t ∷ [])
found_more found nodes i ts t is so long =
    let same : nat_lt 1024 nodes ≡ nat_lt 1024 (count_nodes ts + size t) = grind (arith, nat_tests, so) in
    ap₂ (λ (o : Option ℕ) (b : Bool). option_or o (if b then Some i else None)) is same ∙ ap (λ (k : ℕ). option_or (crowded_from 0 0 ts) (if nat_lt 1024 (count_nodes ts + size t) then Some k else None)) (sym long)
    ∙ ap₂ (λ (m k : ℕ). option_or (crowded_from 0 0 ts) (if nat_lt 1024 m then Some k else None)) (omega arith) (omega arith) ∙ sym (crowded_more 0 0 ts t)

pub taken_long : {X : Type 0} (xs : List X) (i : ℕ) → i < length xs → length (take i xs) ≡ i
taken_long [] i less = absurd (omega arith)
taken_long (x ∷ xs) zero less = refl
taken_long (x ∷ xs) (suc i) less = ap suc (taken_long xs i (omega arith))
