-- The nodes of definitions: what a node's edges lead to, and that names come back from nodes.
use Rattle.std.proofs.Common.{◌≡◌, ◌<◌, ◌≤◌, ℕ, suc, zero, List, [], ◌∷◌, ◌++◌, map, length, cond, Bool, true, false, Option, Some, None, is_some, bytes_eq, Vec, inl, inr, refl, sym, ap, ◌∙◌, arith}
use Rattle.std.specs.declared.alloc.Global.{Global}
use Rattle.std.specs.Option.{option_map_or}
use Rattle.std.proofs.lemmas.Slice.Eq.{bytes_eq-Decides}
use Rattle.fv_builtin.specs.Names.{builtin_named, is_builtin}
use Rattle.fv_builtin.specs.declared.name.BuiltinName.{BuiltinName}
use Rattle.fv_datum.specs.Lookup.{at_name}
use Rattle.fv_graph.specs.Graph.{IsIn, next_of}
use Rattle.fv_declare_definition.specs.Definitions.{Composing, Definition, Definitions}
use Rattle.fv_constraint.specs.Meanings.{either_meant, meant_composing}
use Rattle.fv_constraint.specs.Composed.{composed_of}
use Rattle.fv_constraint.specs.Numbered.{place_of, number_of, numbers_of, edges_of}

-- ---- places

-- the definition of that name is the first
pub place_here : (name : List ℕ) (d : List ℕ × Definition) (ds : Definitions) → bytes_eq name d.0 ≡ true → place_of name (d ∷ ds) ≡ 0
place_here name d ds e = ap (λ b. cond b 0 (suc (place_of name ds))) e

-- the first definition has another name
pub place_later : (name : List ℕ) (d : List ℕ × Definition) (ds : Definitions) → bytes_eq name d.0 ≡ false → place_of name (d ∷ ds) ≡ suc (place_of name ds)
place_later name d ds e = ap (λ b. cond b 0 (suc (place_of name ds))) e

pub number_builtin : (ds : Definitions) (name : List ℕ) → is_builtin name ≡ true → number_of ds name ≡ length ds
number_builtin ds name e = ap (λ b. cond b (length ds) (place_of name ds)) e

pub number_declared : (ds : Definitions) (name : List ℕ) → is_builtin name ≡ false → number_of ds name ≡ place_of name ds
number_declared ds name e = ap (λ b. cond b (length ds) (place_of name ds)) e

place_within : (name : List ℕ) (ds : Definitions) → place_of name ds ≤ length ds
place_within name [] = omega arith
place_within name (d ∷ ds) = go (bytes_eq name d.0) (place_within name ds)
  where
    go : (b : Bool) → place_of name ds ≤ length ds → cond b 0 (suc (place_of name ds)) ≤ suc (length ds)
    go true h = omega arith
    go false h = omega arith

pub number_within : (ds : Definitions) (name : List ℕ) → number_of ds name ≤ length ds
number_within ds name = go (is_builtin name) (place_within name ds)
  where
    go : (b : Bool) → place_of name ds ≤ length ds → cond b (length ds) (place_of name ds) ≤ length ds
    go true h = omega arith
    go false h = h

-- two names at one place are equal
place_same : (a b : List ℕ) (ds : Definitions) → place_of a ds ≡ place_of b ds → place_of a ds < length ds → a ≡ b
place_same a b [] same less = absurd (omega arith)
place_same a b (d ∷ ds) same less = go (λ e h. place_same a b ds e h) (bytes_eq a d.0) (bytes_eq b d.0) refl refl
  where
    go : (place_of a ds ≡ place_of b ds → place_of a ds < length ds → a ≡ b) → (x y : Bool) → bytes_eq a d.0 ≡ x → bytes_eq b d.0 ≡ y → a ≡ b
    go ih true true x y = (bytes_eq-Decides a d.0).0 x ∙ sym ((bytes_eq-Decides b d.0).0 y)
    go ih true false x y = let p = place_here a d ds x in let q = place_later b d ds y in absurd (omega (arith, p, q, same))
    go ih false true x y = let p = place_later a d ds x in let q = place_here b d ds y in absurd (omega (arith, p, q, same))
    go ih false false x y =
        let p = place_later a d ds x in
        let q = place_later b d ds y in
        ih (omega (arith, p, q, same)) (omega (arith, p, less))

-- two names at one node that is a definition's are equal
pub number_same : (ds : Definitions) (a b : List ℕ) → number_of ds a ≡ number_of ds b → number_of ds a < length ds → a ≡ b
number_same ds a b same less = go (is_builtin a) (is_builtin b) refl refl
  where
    go : (x y : Bool) → is_builtin a ≡ x → is_builtin b ≡ y → a ≡ b
    go true y p q = absurd (omega (arith, number_builtin ds a p, less))
    go false true p q = absurd (omega (arith, number_builtin ds b q, same, less))
    go false false p q =
        let x = number_declared ds a p in
        let y = number_declared ds b q in
        place_same a b ds (sym x ∙ same ∙ y) (omega (arith, x, less))

-- ---- what edges lead to

-- the list at a place, [] where there is none
abbrev pub row : List (List ℕ) → ℕ → List ℕ
row [] i = []
row (r ∷ rs) zero = r
row (r ∷ rs) (suc i) = row rs i

next_row : (edges : List (Vec ℕ Global)) (i : ℕ) → next_of edges i ≡ row (map (λ nodes. nodes.items) edges) i
next_row [] i = refl
next_row (v ∷ edges) zero = refl
next_row (v ∷ edges) (suc i) = next_row edges i

row_last : (rs : List (List ℕ)) → row (rs ++ [] ∷ []) (length rs) ≡ []
row_last [] = refl
row_last (r ∷ rs) = row_last rs

module _ (f : Definition → List ℕ) (name : List ℕ) where
  row_at : (ds : Definitions) → row (map (λ d. f d.1) ds ++ [] ∷ []) (place_of name ds) ≡ option_map_or f (at_name name ds) []
  row_at [] = refl
  row_at (d ∷ ds) = go (bytes_eq name d.0) (row_at ds)
    where
      go : (b : Bool) → row (map (λ e. f e.1) ds ++ [] ∷ []) (place_of name ds) ≡ option_map_or f (at_name name ds) []
          → row (f d.1 ∷ (map (λ e. f e.1) ds ++ [] ∷ [])) (cond b 0 (suc (place_of name ds))) ≡ option_map_or f (cond b (Some d.1) (at_name name ds)) []
      go true h = refl
      go false h = h

-- the names that either meaning is composed of, as numbers
meant_row : (ds : Definitions) (which : Option BuiltinName) (found : Option Definition)
    → cond (is_some which) [] (option_map_or (λ d. numbers_of ds d.composing) found []) ≡ map (number_of ds) (map (λ c. c.constraint) (option_map_or meant_composing (either_meant which found) []))
meant_row ds (Some which) found = refl
meant_row ds None None = refl
meant_row ds None (Some d) = sym (map_twice d.composing)
  where
    map_twice : (cs : List Composing) → map (number_of ds) (map (λ c. c.constraint) cs) ≡ numbers_of ds cs
    map_twice [] = refl
    map_twice (c ∷ cs) = ap (λ ns. number_of ds c.constraint ∷ ns) (map_twice cs)

-- a constraint's edges lead to the nodes of the constraints that it is composed of
row_is : (ds : Definitions) (name : List ℕ) → row (edges_of ds) (number_of ds name) ≡ map (number_of ds) (composed_of ds name)
row_is ds name = go (is_builtin name) refl ∙ meant_row ds (builtin_named name) (at_name name ds)
  where
    go : (b : Bool) → is_builtin name ≡ b → row (edges_of ds) (number_of ds name) ≡ cond (is_builtin name) [] (option_map_or (λ d. numbers_of ds d.composing) (at_name name ds) [])
    go true e =
        ap (row (edges_of ds)) (number_builtin ds name e)
        ∙ ap (λ n. row (edges_of ds) n) (sym (length-map' ds))
        ∙ row_last (map (λ d. numbers_of ds d.1.composing) ds)
        ∙ sym (ap (λ b. cond b [] (option_map_or (λ d. numbers_of ds d.composing) (at_name name ds) [])) e)
      where
        length-map' : (es : Definitions) → length (map (λ d. numbers_of ds d.1.composing) es) ≡ length es
        length-map' [] = refl
        length-map' (d ∷ es) = ap suc (length-map' es)
    go false e =
        ap (row (edges_of ds)) (number_declared ds name e)
        ∙ row_at (λ d. numbers_of ds d.composing) name ds
        ∙ sym (ap (λ b. cond b [] (option_map_or (λ d. numbers_of ds d.composing) (at_name name ds) [])) e)

-- the same of edges as the code has them
pub next_is : (ds : Definitions) (edges : List (Vec ℕ Global)) → map (λ nodes. nodes.items) edges ≡ edges_of ds → (name : List ℕ)
    → next_of edges (number_of ds name) ≡ map (number_of ds) (composed_of ds name)
next_is ds edges are name = next_row edges (number_of ds name) ∙ ap (λ rs. row rs (number_of ds name)) are ∙ row_is ds name

-- nothing follows the node behind the definitions
pub last_is : (ds : Definitions) (edges : List (Vec ℕ Global)) → map (λ nodes. nodes.items) edges ≡ edges_of ds → next_of edges (length ds) ≡ []
last_is ds edges are =
    next_row edges (length ds) ∙ ap (λ rs. row rs (length ds)) are ∙ ap (row (edges_of ds)) (sym (length-map' ds)) ∙ row_last (map (λ d. numbers_of ds d.1.composing) ds)
  where
    length-map' : (es : Definitions) → length (map (λ d. numbers_of ds d.1.composing) es) ≡ length es
    length-map' [] = refl
    length-map' (d ∷ es) = ap suc (length-map' es)

pub in_map : {X Y : Type 0} (f : X → Y) (xs : List X) (y : Y) → IsIn (map f xs) y → (x : X) × IsIn xs x × (f x ≡ y)
in_map f [] y h = absurd h
in_map f (x ∷ xs) y (inl e) = (x, inl refl, e)
in_map f (x ∷ xs) y (inr h) = let r = in_map f xs y h in (r.0, inr r.1, r.2)

-- each edge leads to the node of a name
row_named : (ds es : Definitions) (i j : ℕ) → IsIn (row (map (λ d. numbers_of ds d.1.composing) es ++ [] ∷ []) i) j → (name : List ℕ) × (number_of ds name ≡ j)
row_named ds [] zero j h = absurd h
row_named ds [] (suc i) j h = absurd h
row_named ds (d ∷ es) zero j h = let r = in_map (λ c. number_of ds c.constraint) d.1.composing j h in (r.0.constraint, r.2)
row_named ds (d ∷ es) (suc i) j h = row_named ds es i j h

pub edge_named : (ds : Definitions) (edges : List (Vec ℕ Global)) → map (λ nodes. nodes.items) edges ≡ edges_of ds → (i j : ℕ) → IsIn (next_of edges i) j
    → (name : List ℕ) × (number_of ds name ≡ j)
edge_named ds edges are i j h =
    let rows = next_row edges i ∙ ap (λ rs. row rs i) are in
    row_named ds ds i j (rw rows at h)
