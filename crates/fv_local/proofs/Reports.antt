-- What a tree reports: numbers that rise, and that move with that of the root.
use Rattle.std.proofs.Common.{◌≡◌, ℕ, ℤ, ◌+◌, ◌<◌, ◌≤◌, ◌||◌, List, [], ◌∷◌, ◌++◌, map, Bool, true, false, if◌then◌else◌, refl, sym, ap, subst, ◌∙◌, arith}
use Rattle.std.proofs.lemmas.List.{map-append}
use Rattle.std.specs.List.{AllByRecursion}
use Rattle.fv_declare_schema.specs.Declarations.{Placed}
use Rattle.fv_constraint_tree.specs.Reports.{any_bad, reported_if, reported, reported_all, violated}
use Rattle.fv_constraint_tree.specs.Says.{Subject}
use Rattle.fv_constraint_tree.specs.Trees.{Tree, tree, Trees, none, more, size, sizes}
use Rattle.fv_registry.specs.Meanings.{Meanings}

-- ---- numbers that rise

-- the numbers are from m on and below e, each higher than those before it
abbrev pub Rise : {X : Type 0} → (X → ℕ) → ℕ → ℕ → List X → Type 0
Rise f m e [] = m ≤ e
Rise f m e (x ∷ xs) = (m ≤ f x) × Rise f (f x + 1) e xs

module _ {X : Type 0} (f : X → ℕ) where
  rise_lower : (m k e : ℕ) (xs : List X) → m ≤ k → Rise f k e xs → Rise f m e xs
  rise_lower m k e [] le up = let end : k ≤ e = up in omega arith
  rise_lower m k e (x ∷ xs) le up = let here : k ≤ f x = up.0 in (omega arith, up.1)

  pub rise_append : (m k e : ℕ) (xs ys : List X) → Rise f m k xs → Rise f k e ys → Rise f m e (xs ++ ys)
  rise_append m k e [] ys up later = rise_lower m k e ys up later
  rise_append m k e (x ∷ xs) ys up later = (up.0, rise_append (f x + 1) k e xs ys up.1 later)

  pub rise_end : (m e : ℕ) (xs : List X) → Rise f m e xs → m ≤ e
  rise_end m e [] up = up
  rise_end m e (x ∷ xs) up = let here : m ≤ f x = up.0 in let end : f x + 1 ≤ e = rise_end (f x + 1) e xs up.1 in omega arith

  pub rise_from : (m e k : ℕ) (xs : List X) → k ≤ m → Rise f m e xs → AllByRecursion (λ x. k ≤ f x) xs
  rise_from m e k [] le up = tt
  rise_from m e k (x ∷ xs) le up = let here : m ≤ f x = up.0 in (omega arith, rise_from (f x + 1) e k xs (omega arith) up.1)

  rise_if : (b : Bool) (m e : ℕ) (xs ys : List X) → Rise f m e xs → Rise f m e ys → Rise f m e (if b then xs else ys)
  rise_if true m e xs ys one other = one
  rise_if false m e xs ys one other = other

pub rise_map : {X Y : Type 0} (f : Y → ℕ) (h : X → Y) (m e : ℕ) (xs : List X) → Rise (λ x. f (h x)) m e xs → Rise f m e (map h xs)
rise_map f h m e [] up = up
rise_map f h m e (x ∷ xs) up = (up.0, rise_map f h (f (h x) + 1) e xs up.1)

pub rise_below : {X : Type 0} (f : X → ℕ) (m e : ℕ) (xs : List X) → Rise f m e xs → AllByRecursion (λ n. n < e) (map f xs)
rise_below f m e [] up = tt
rise_below f m e (x ∷ xs) up = let end : f x + 1 ≤ e = rise_end f (f x + 1) e xs up.1 in (omega arith, rise_below f (f x + 1) e xs up.1)

-- ---- what a tree reports

-- a number
abbrev pub number : {N : Type 0} → ℕ × N → ℕ
number r = r.0

-- an entry that many numbers higher
abbrev pub up : {N : Type 0} → ℕ → ℕ × N → ℕ × N
up k r = (k + r.0, r.1)

map_if : {X Y : Type 0} (f : X → Y) (b : Bool) (xs ys : List Y) (us vs : List X) → xs ≡ map f us → ys ≡ map f vs → (if b then xs else ys) ≡ map f (if b then us else vs)
map_if f true xs ys us vs one other = one
map_if f false xs ys us vs one other = other

module _ {N : Type 0} (single refuses : N → Bool) where
  one_rises : (b : Bool) (k e : ℕ) (n : N) → k + 1 ≤ e → Rise number k e (reported_if b k n)
  one_rises true k e n le = (omega arith, le)
  one_rises false k e n le = omega arith

  mutual
    pub rises : (k : ℕ) (t : Tree N) → Rise number k (k + size t) (reported single refuses k t)
    rises k (tree n below) =
        let all = rises_all (k + 1) below in
        let same : k + 1 + sizes below ≡ k + (1 + sizes below) = omega arith in
        rise_if number (single n) k (k + (1 + sizes below)) _ _ (one_rises (refuses n || any_bad refuses below) k _ n (omega arith))
        (rise_append number k (k + 1) _ (reported_if (refuses n) k n) _ (one_rises (refuses n) k (k + 1) n (omega arith)) (subst (λ (e : ℕ). Rise number (k + 1) e (reported_all single refuses (k + 1) below)) same all))

    rises_all : (k : ℕ) (ts : Trees N) → Rise number k (k + sizes ts) (reported_all single refuses k ts)
    rises_all k none = omega arith
    rises_all k (more t ts) =
        let same : k + size t + sizes ts ≡ k + (size t + sizes ts) = omega arith in
        rise_append number k (k + size t) _ (reported single refuses k t) _ (rises k t) (subst (λ (e : ℕ). Rise number (k + size t) e (reported_all single refuses (k + size t) ts)) same (rises_all (k + size t) ts))

  one_shifts : (b : Bool) (k j : ℕ) (n : N) → reported_if b (k + j) n ≡ map (up k) (reported_if b j n)
  one_shifts true k j n = refl
  one_shifts false k j n = refl

  mutual
    pub shifts : (k j : ℕ) (t : Tree N) → reported single refuses (k + j) t ≡ map (up k) (reported single refuses j t)
    shifts k j (tree n below) =
        let same : k + j + 1 ≡ k + (j + 1) = omega arith in
        map_if (up k) (single n) _ _ _ _ (one_shifts (refuses n || any_bad refuses below) k j n)
        (ap (λ (rs : List (ℕ × N)). rs ++ reported_all single refuses (k + j + 1) below) (one_shifts (refuses n) k j n)
        ∙ ap (λ (i : ℕ). map (up k) (reported_if (refuses n) j n) ++ reported_all single refuses i below) same
        ∙ ap (λ (rs : List (ℕ × N)). map (up k) (reported_if (refuses n) j n) ++ rs) (shifts_all k (j + 1) below)
        ∙ sym (map-append (up k) (reported_if (refuses n) j n) (reported_all single refuses (j + 1) below)))

    shifts_all : (k j : ℕ) (ts : Trees N) → reported_all single refuses (k + j) ts ≡ map (up k) (reported_all single refuses j ts)
    shifts_all k j none = refl
    shifts_all k j (more t ts) =
        let same : k + j + size t ≡ k + (j + size t) = omega arith in
        ap (λ (rs : List (ℕ × N)). rs ++ reported_all single refuses (k + j + size t) ts) (shifts k j t)
        ∙ ap (λ (i : ℕ). map (up k) (reported single refuses j t) ++ reported_all single refuses i ts) same
        ∙ ap (λ (rs : List (ℕ × N)). map (up k) (reported single refuses j t) ++ rs) (shifts_all k (j + size t) ts)
        ∙ sym (map-append (up k) (reported single refuses j t) (reported_all single refuses (j + size t) ts))

-- ---- the numbers that a use reports

moved : {N : Type 0} (k : ℕ) (rs : List (ℕ × N)) → map number (map (up k) rs) ≡ map (λ n. k + n) (map number rs)
moved k [] = refl
moved k (r ∷ rs) = ap (λ (ns : List ℕ). (k + r.0) ∷ ns) (moved k rs)

room : (k e : ℕ) (ns : List ℕ) → k + e ≤ 1024 → AllByRecursion (λ n. n < e) ns → AllByRecursion (λ n. k + n ≤ 1024) ns
room k e [] le below = tt
room k e (n ∷ ns) le below = let here : n < e = below.0 in (omega arith, room k e ns le below.1)

module _ (m : Meanings) (now : ℤ) (s : Subject) (u : Placed) where
  -- the numbers over the whole declarations, by those in the tree
  pub numbers_up : map number (violated m now s u.number u.tree) ≡ map (λ n. u.number + n) (map number (violated m now s 0 u.tree))
  numbers_up =
      let same : u.number + 0 ≡ u.number = omega arith in
      ap (λ (k : ℕ). map number (violated m now s k u.tree)) (sym same)
      ∙ ap (map number) (shifts (λ n. n.single) _ u.number 0 u.tree) ∙ moved u.number (violated m now s 0 u.tree)

  -- there is room for them
  pub numbers_room : u.number + size u.tree ≤ 1024 → AllByRecursion (λ n. u.number + n ≤ 1024) (map number (violated m now s 0 u.tree))
  numbers_room le =
      let all = rise_below number 0 (0 + size u.tree) (violated m now s 0 u.tree) (rises _ _ 0 u.tree) in
      let same : 0 + size u.tree ≡ size u.tree = omega arith in
      room u.number (size u.tree) _ le (subst (λ (e : ℕ). AllByRecursion (λ (n : ℕ). n < e) (map number (violated m now s 0 u.tree))) same all)
