-- The constraint of a number, by the place that a search of the uses' numbers finds.
use Rattle.std.proofs.Common.{length, get_or, map, option_map, suc, zero, ◌≡◌, ◌<◌, ◌≤◌, ◌+◌, ◌-◌, ℕ, List, [], ◌∷◌, ◌++◌, true, false, Some, None, Option, slice_get, leb, refl, sym, ap, subst, ◌∙◌, append-nil, arith}
use Rattle.std.proofs.lemmas.Bool.{leb-true, leb-false}
use Rattle.std.proofs.lemmas.List.{length-map}
use Rattle.std.proofs.lemmas.Option.{slice_get-map}
use Rattle.std.specs.List.{AllWithin}
use Rattle.std.specs.List.Sorted.{IsNonDecreasingBy, IsPartitionPoint}
use Rattle.fv_declare_schema.specs.Declarations.{Placed, AreNumbered}
use Rattle.fv_constraint_tree.specs.Codes.{length-preorder}
use Rattle.fv_constraint_tree.specs.Nodes.{Node}
use Rattle.fv_constraint_tree.specs.Preorder.{preorder, nodes}
use Rattle.fv_constraint_tree.specs.Trees.{Tree, size}
use Rattle.fv_validate.specs.Violations.{nodes_in}

-- ---- elements of joined lists

module _ {X : Type 0} where
  in_front : (xs ys : List X) (i : ℕ) → i < length xs → slice_get (xs ++ ys) i ≡ slice_get xs i
  in_front [] ys i within = absurd (omega arith)
  in_front (x ∷ xs) ys zero within = refl
  in_front (x ∷ xs) ys (suc i) within = in_front xs ys i (omega arith)

  behind : (xs ys : List X) (i n : ℕ) → n ≡ length xs + i → slice_get (xs ++ ys) n ≡ slice_get ys i
  behind [] ys i n e = let same : n ≡ i = omega arith in ap (slice_get ys) same
  behind (x ∷ xs) ys i zero e = absurd (omega arith)
  behind (x ∷ xs) ys i (suc n) e = behind xs ys i n (omega arith)

count : (t : Tree Node) → length (nodes t) ≡ size t
count t = length-map (preorder t) (λ (e : Node × ℕ). e.0) ∙ length-preorder t

-- ---- the last use whose number isn't behind a number

at_last : (m : ℕ) (us : List Placed) (n k : ℕ) (u : Placed) → AreNumbered m us → slice_get us k ≡ Some u → u.number ≤ n
    → ((v : Placed) → slice_get us (suc k) ≡ Some v → n < v.number)
    → (m ≤ u.number) × (slice_get (nodes_in us) (n - m) ≡ slice_get (nodes u.tree) (n - u.number))
at_last m [] n k u numbered e le next = cc
at_last m (o ∷ []) n zero u numbered e le next =
    let is : o ≡ u = cc in
    let first : u.number ≡ m = ap (λ (p : Placed). p.number) (sym is) ∙ numbered.0 in
    let all : nodes o.tree ++ [] ≡ nodes u.tree = append-nil (nodes o.tree) ∙ ap (λ (p : Placed). nodes p.tree) is in
    let same : n - m ≡ n - u.number = omega arith in
    (omega arith, ap (λ (ns : List Node). slice_get ns (n - m)) all ∙ ap (slice_get (nodes u.tree)) same)
at_last m (o ∷ p ∷ os) n zero u numbered e le next =
    let is : o ≡ u = cc in
    let first : u.number ≡ m = ap (λ (p : Placed). p.number) (sym is) ∙ numbered.0 in
    let second : p.number ≡ m + size o.tree = numbered.1.0 in
    let before : n < p.number = next p refl in
    let long : length (nodes o.tree) ≡ size o.tree = count o.tree in
    let same : n - m ≡ n - u.number = omega arith in
    (omega arith, in_front (nodes o.tree) (nodes_in (p ∷ os)) (n - m) (omega arith) ∙ ap (λ (p : Placed). slice_get (nodes p.tree) (n - m)) is ∙ ap (slice_get (nodes u.tree)) same)
at_last m (o ∷ os) n (suc k) u numbered e le next =
    let rest = at_last (m + size o.tree) os n k u numbered.1 e le next in
    let least : m + size o.tree ≤ u.number = rest.0 in
    let long : length (nodes o.tree) ≡ size o.tree = count o.tree in
    (omega arith, behind (nodes o.tree) (nodes_in os) (n - (m + size o.tree)) (n - m) (omega arith) ∙ rest.1)

module _ {X : Type 0} (f : X → Placed) where
  number_of : X → ℕ
  number_of x = (f x).number

  -- ---- numbers rise

  least : (m : ℕ) (xs : List X) (j : ℕ) (d : X) → AreNumbered m (map f xs) → j < length xs → m ≤ (f (get_or xs j d)).number
  least m [] j d numbered within = absurd (omega arith)
  least m (x ∷ xs) zero d numbered within = omega (arith, numbered.0)
  least m (x ∷ xs) (suc j) d numbered within = let more : m + size (f x).tree ≤ (f (get_or xs j d)).number = least (m + size (f x).tree) xs j d numbered.1 (omega arith) in omega arith

  pub rise : (m : ℕ) (xs : List X) → AreNumbered m (map f xs) → IsNonDecreasingBy (λ x. (f x).number) xs
  rise m [] numbered i j d le within = absurd (omega arith)
  rise m (x ∷ xs) numbered zero zero d le within = omega arith
  rise m (x ∷ xs) numbered zero (suc j) d le within =
      let more : m + size (f x).tree ≤ (f (get_or xs j d)).number = least (m + size (f x).tree) xs j d numbered.1 (omega arith) in omega (arith, numbered.0)
  rise m (x ∷ xs) numbered (suc i) zero d le within = absurd (omega arith)
  rise m (x ∷ xs) numbered (suc i) (suc j) d le within = rise (m + size (f x).tree) xs numbered.1 i j d (omega arith) (omega arith)

  -- ---- the place that is found

  map_get : (xs : List X) (i : ℕ) (x : X) → i < length xs → x ≡ get_or xs i x → slice_get (map f xs) i ≡ Some (f x)
  map_get [] i x within e = absurd (omega arith)
  map_get (y ∷ ys) zero x within e = ap (λ (z : X). Some (f z)) (sym e)
  map_get (y ∷ ys) (suc i) x within e = map_get ys i x (omega arith) e

  get_map : (xs : List X) (i : ℕ) (u : Placed) → slice_get (map f xs) i ≡ Some u → (x : X) × (i < length xs) × (f x ≡ u) × ((d : X) → get_or xs i d ≡ x)
  get_map [] i u e = cc
  get_map (x ∷ xs) zero u e = (x, omega arith, cc, λ d. refl)
  get_map (x ∷ xs) (suc i) u e = let r = get_map xs i u e in (r.0, omega arith, r.2, r.3)

  module _ (xs : List X) (n place : ℕ) (numbered : AreNumbered 0 (map f xs))
      (found : IsPartitionPoint (λ x. leb (f x).number n ≡ true) (λ x. leb (f x).number n ≡ false) xs place) where
    pub number_le : (i : ℕ) (x : X) → i < place → x ≡ get_or xs i x → (f x).number ≤ n
    number_le i x below e = leb-true (f x).number n (subst (λ (y : X). leb (f y).number n ≡ true) (sym e) (found.0 i x (omega arith) below))

    next_more : (i : ℕ) → place ≤ i → (v : Placed) → slice_get (map f xs) i ≡ Some v → n < v.number
    next_more i from v e =
        let r = get_map xs i v e in
        leb-false v.number n (subst (λ (p : Placed). leb p.number n ≡ false) (ap f (r.3 r.0) ∙ r.2) (found.1 i r.0 from r.1))

    pub node_at : (i : ℕ) (x : X) → place ≡ suc i → i < length xs → x ≡ get_or xs i x
        → slice_get (nodes_in (map f xs)) n ≡ slice_get (nodes (f x).tree) (n - (f x).number)
    node_at i x is within e =
        let from : n ≡ n - 0 = omega arith in
        ap (slice_get (nodes_in (map f xs))) from
        ∙ (at_last 0 (map f xs) n i (f x) numbered (map_get xs i x within e) (number_le i x (omega arith) e)
        (λ v next. next_more (suc i) (omega arith) v next)).1

  pub none_at : (xs : List X) (n : ℕ) → AreNumbered 0 (map f xs) → AllWithin (λ x. leb (f x).number n ≡ false) xs 0 (length xs) → slice_get (nodes_in (map f xs)) n ≡ None
  none_at [] n numbered none = refl
  none_at (x ∷ xs) n numbered none = let first : n < (f x).number = leb-false (f x).number n (none 0 x (omega arith) (omega arith)) in absurd (omega (arith, numbered.0))

-- a node by its entry
pub node_of_entry : {X : Type 0} (f : X → Node) (g : X → Node × ℕ) (r : Option X) (t : Tree Node) (i : ℕ) → ((x : X) → (g x).0 ≡ f x)
    → option_map g r ≡ slice_get (preorder t) i → option_map f r ≡ slice_get (nodes t) i
node_of_entry f g r t i same e = firsts r ∙ ap (option_map (λ (p : Node × ℕ). p.0)) e ∙ sym (slice_get-map (λ (p : Node × ℕ). p.0) (preorder t) i)
  where
    firsts : (o : Option _) → option_map f o ≡ option_map (λ (p : Node × ℕ). p.0) (option_map g o)
    firsts None = refl
    firsts (Some x) = ap (λ (n : Node). Some n) (sym (same x))
