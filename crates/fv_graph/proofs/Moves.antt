-- The same steps on what the code holds.
use Rattle.std.proofs.Common.{◌≡◌, ◌<◌, ◌≤◌, ◌+◌, ℕ, List, [], ◌∷◌, ◌++◌, map, ◌⊎◌, inl, inr, refl, sym, Bool, true, false, ap, subst, arith, zero, suc, ◌∙◌, get_or, length, reverse, drop, All, Option, Some, length-drop, Vec}
use Rattle.std.proofs.Math.ListN.{set}
use Rattle.std.specs.Prelude.{if◌then◌else◌}
use Rattle.std.proofs.lemmas.List.{reverse-append, drop_more, nil_from_length}
use Rattle.std.proofs.lemmas.List.Elements.{All-get_or}
use Rattle.std.proofs.lemmas.Option.{slice_get-get_or}
use Rattle.std.specs.declared.alloc.Global.{Global}
use Rattle.fv_graph.specs.Graph.{IsIn, IsBelow, AreWithin, next_of, items_in}
use Rattle.fv_graph.specs.Search.{Stand, IsSearch, Searches, stand, stands, unmarked, untaken, weighs, weight_of}
use Rattle.fv_graph.specs.declared.search.Mark.{Mark}
use Rattle.fv_graph.specs.declared.search.Mark.TheVariants.{New, Open, Done, Meets}
use Rattle.fv_graph.specs.declared.search.Frame.{Frame}
use Rattle.fv_graph.proofs.Searching.{steps_on, steps_past, closes, finishes, gives_up}

-- the graph

pub next_at : (edges : List (Vec ℕ Global)) (i : ℕ) (v : Vec ℕ Global) → i < length edges → v ≡ get_or edges i v → next_of edges i ≡ v.items
next_at edges i v less e =
    ap (λ (x : Option (Vec ℕ Global)). items_in x) (slice_get-get_or edges i v less ∙ ap (λ (x : Vec ℕ Global). Some x) (sym e))

pub edge_within : (edges : List (Vec ℕ Global)) (i k j : ℕ) (v : Vec ℕ Global) → AreWithin edges → i < length edges → v ≡ get_or edges i v → k < length v.items → j ≡ get_or v.items k j → j < length edges
edge_within edges i k j v all less e kless q =
    let a : All (λ x. x < length edges) v.items =
    subst (λ (w : Vec ℕ Global). All (λ x. x < length edges) w.items) (sym e) (All-get_or (λ (w : Vec ℕ Global). All (λ x. x < length edges) w.items) edges i v less all) in
    subst (λ (w : ℕ). w < length edges) (sym q) (All-get_or (λ x. x < length edges) v.items k j kless a)

in_all : (P : ℕ → Type 0) (xs : List ℕ) (j : ℕ) → All P xs → IsIn xs j → P j
in_all P [] j a h = absurd h
in_all P (x ∷ xs) j a (inl e) = subst P e (a 0 x (omega arith))
in_all P (x ∷ xs) j a (inr h) = in_all P xs j (λ k d less. a (suc k) d (omega arith)) h

below_from : (count : ℕ) (edges : List (Vec ℕ Global)) (i j : ℕ) → All (λ v. All (λ k. k < count) v.items) edges → IsIn (next_of edges i) j → (i < length edges) × (j < count)
below_from count [] i j a h = absurd h
below_from count (v ∷ edges) zero j a h = (omega arith, in_all (λ k. k < count) v.items j (a 0 v (omega arith)) h)
below_from count (v ∷ edges) (suc i) j a h = let r = below_from count edges i j (λ k d less. a (suc k) d (omega arith)) h in (omega (arith, r.0), r.1)

pub is_below : (edges : List (Vec ℕ Global)) → AreWithin edges → IsBelow (next_of edges) (length edges)
is_below edges a i j h = below_from (length edges) edges i j a h

-- the stack

pub stands_more : (edges : List (Vec ℕ Global)) (stack : List Frame) (f : Frame) → stands edges (stack ++ f ∷ []) ≡ stand edges f ∷ stands edges stack
stands_more edges stack f = ap (λ (l : List Frame). map (λ x. stand edges x) l) (reverse-append stack (f ∷ []))

pub taken : (xs : List ℕ) (k j : ℕ) → k < length xs → j ≡ get_or xs k j → drop k xs ≡ j ∷ drop (k + 1) xs
taken xs k j less e = drop_more xs k j less ∙ ap (λ (x : ℕ). x ∷ drop (k + 1) xs) (sym e)

pub spent : (xs : List ℕ) (k : ℕ) → length xs ≤ k → drop k xs ≡ []
spent xs k h = nil_from_length (drop k xs) (omega (arith, length-drop k xs))

pub top_more : (edges : List (Vec ℕ Global)) (stack : List Frame) (f : Frame) (v : Vec ℕ Global) (j : ℕ) → f.node < length edges → v ≡ get_or edges f.node v → f.next < length v.items → j ≡ get_or v.items f.next j
    → stands edges (stack ++ f ∷ []) ≡ record { node = f.node; left = j ∷ drop (f.next + 1) (next_of edges f.node); meets = f.meets } ∷ stands edges stack
top_more edges stack f v j less e more q =
    let n = next_at edges f.node v less e in
    let d : drop f.next (next_of edges f.node) ≡ j ∷ drop (f.next + 1) (next_of edges f.node) =
    subst (λ (l : List ℕ). drop f.next l ≡ j ∷ drop (f.next + 1) l) (sym n) (taken v.items f.next j more q) in
    stands_more edges stack f ∙ ap (λ (l : List ℕ). record { node = f.node; left = l; meets = f.meets } ∷ stands edges stack) d

pub top_spent : (edges : List (Vec ℕ Global)) (stack : List Frame) (f : Frame) (v : Vec ℕ Global) → f.node < length edges → v ≡ get_or edges f.node v → length v.items ≤ f.next
    → stands edges (stack ++ f ∷ []) ≡ record { node = f.node; left = []; meets = f.meets } ∷ stands edges stack
top_spent edges stack f v less e more =
    let n = next_at edges f.node v less e in
    let d : drop f.next (next_of edges f.node) ≡ [] =
    subst (λ (l : List ℕ). drop f.next l ≡ []) (sym n) (spent v.items f.next more) in
    stands_more edges stack f ∙ ap (λ (l : List ℕ). record { node = f.node; left = l; meets = f.meets } ∷ stands edges stack) d

-- weights

unmarks : (edges : List (Vec ℕ Global)) (marks : List Mark) (j : ℕ) → length marks ≡ length edges → j < length edges → get_or marks j New ≡ New
    → unmarked edges (set marks j Open) + (2 + length (next_of edges j)) ≡ unmarked edges marks
unmarks [] marks j len less new = absurd (omega arith)
unmarks (v ∷ edges) [] j len less new = absurd (omega arith)
unmarks (v ∷ edges) (mark ∷ marks) zero len less new =
    let w : weight_of mark (length v.items) ≡ 2 + length v.items = ap (λ (m : Mark). weight_of m (length v.items)) new in
    omega (arith, w)
unmarks (v ∷ edges) (mark ∷ marks) (suc j) len less new =
    let l : length marks ≡ length edges = omega arith in
    let s : j < length edges = omega arith in
    let ih = unmarks edges marks j l s new in
    omega (arith, ih)

remarks : (edges : List (Vec ℕ Global)) (marks : List Mark) (j : ℕ) (mark : Mark) → ((n : ℕ) → weight_of mark n ≡ 0) → unmarked edges (set marks j mark) ≤ unmarked edges marks
remarks [] marks j mark nothing = omega arith
remarks (v ∷ edges) [] j mark nothing = omega arith
remarks (v ∷ edges) (m ∷ marks) zero mark nothing = let w = nothing (length v.items) in omega (arith, w)
remarks (v ∷ edges) (m ∷ marks) (suc j) mark nothing = let ih = remarks edges marks j mark nothing in omega (arith, ih)

pub marked_at : (marks : List Mark) (j : ℕ) (x mark : Mark) → j < length marks → x ≡ get_or marks j x → x ≡ mark → get_or marks j New ≡ mark
marked_at [] j x mark less e q = absurd (omega arith)
marked_at (m ∷ marks) zero x mark less e q = sym e ∙ q
marked_at (m ∷ marks) (suc j) x mark less e q = marked_at marks j x mark (omega arith) e q

-- the steps

-- the search, with its topmost node in full
topped : (edges : List (Vec ℕ Global)) (marks : List Mark) (order : List ℕ) (stack : List Frame) (f : Frame) (top : List Stand) → Searches edges marks order (stack ++ f ∷ []) → stands edges (stack ++ f ∷ []) ≡ top
    → IsSearch (next_of edges) (length edges) marks (reverse order) top
topped edges marks order stack f top s t = subst (λ (l : List Stand). IsSearch (next_of edges) (length edges) marks (reverse order) l) t s

pub top_small : (edges : List (Vec ℕ Global)) (marks : List Mark) (order : List ℕ) (stack : List Frame) (f : Frame) → Searches edges marks order (stack ++ f ∷ []) → f.node < length edges
top_small edges marks order stack f s = (topped edges marks order stack f (stand edges f ∷ stands edges stack) s (stands_more edges stack f)).apart.0

pub move_on : (edges : List (Vec ℕ Global)) (marks : List Mark) (order : List ℕ) (stack stack' stack'' : List Frame) (f : Frame) (v : Vec ℕ Global) (j : ℕ)
    → Searches edges marks order (stack ++ f ∷ []) → AreWithin edges → v ≡ get_or edges f.node v → f.next < length v.items → j ≡ get_or v.items f.next j → (x : Mark) → x ≡ get_or marks j x → x ≡ New
    → stack' ≡ stack ++ f ∷ [] → stack'' ≡ stack' ++ record { node = j; next = 0; meets = false } ∷ []
    → Searches edges (set marks j Open) order stack'' × (weighs edges (set marks j Open) stack'' < weighs edges marks (stack ++ f ∷ []))
move_on edges marks order stack stack' stack'' f v j s all e more q x at is p' p'' =
    let less = top_small edges marks order stack f s in
    let t = top_more edges stack f v j less e more q in
    let small = edge_within edges f.node f.next j v all less e more q in
    let mark = marked_at marks j x New (omega (arith, s.each)) at is in
    let now = steps_on (next_of edges) (length edges) marks (reverse order) f.node j (drop (f.next + 1) (next_of edges f.node)) f.meets (stands edges stack) small mark (topped edges marks order stack f _ s t) in
    let r : stands edges stack'' ≡ record { node = j; left = next_of edges j; meets = false } ∷ record { node = f.node; left = j ∷ drop (f.next + 1) (next_of edges f.node); meets = f.meets } ∷ stands edges stack =
    ap (λ (l : List Frame). stands edges l) p'' ∙ stands_more edges stack' (record { node = j; next = 0; meets = false })
    ∙ ap (λ (l : List Stand). stand edges (record { node = j; next = 0; meets = false }) ∷ l) (ap (λ (l : List Frame). stands edges l) p' ∙ t) in
    let u = unmarks edges marks j s.each small mark in
    let a = ap (λ (l : List Stand). untaken l) t in
    let b = ap (λ (l : List Stand). untaken l) r in (
      subst (λ (l : List Stand). IsSearch (next_of edges) (length edges) (set marks j Open) (reverse order) l) (sym r) now,
      omega (arith, u, a, b),
    )

-- the next edge of the topmost node is taken
taken_on : (edges : List (Vec ℕ Global)) (marks : List Mark) (order : List ℕ) (stack stack' : List Frame) (f : Frame) (j : ℕ) (flag : Bool)
    → stands edges (stack ++ f ∷ []) ≡ record { node = f.node; left = j ∷ drop (f.next + 1) (next_of edges f.node); meets = f.meets } ∷ stands edges stack
    → IsSearch (next_of edges) (length edges) marks (reverse order) (record { node = f.node; left = drop (f.next + 1) (next_of edges f.node); meets = flag } ∷ stands edges stack)
    → stack' ≡ stack ++ record { node = f.node; next = f.next + 1; meets = flag } ∷ []
    → Searches edges marks order stack' × (weighs edges marks stack' < weighs edges marks (stack ++ f ∷ []))
taken_on edges marks order stack stack' f j flag t now p' =
    let r : stands edges stack' ≡ record { node = f.node; left = drop (f.next + 1) (next_of edges f.node); meets = flag } ∷ stands edges stack =
    ap (λ (l : List Frame). stands edges l) p' ∙ stands_more edges stack (record { node = f.node; next = f.next + 1; meets = flag }) in
    let a = ap (λ (l : List Stand). untaken l) t in
    let b = ap (λ (l : List Stand). untaken l) r in (
      subst (λ (l : List Stand). IsSearch (next_of edges) (length edges) marks (reverse order) l) (sym r) now,
      omega (arith, a, b),
    )

pub move_past : (edges : List (Vec ℕ Global)) (marks : List Mark) (order : List ℕ) (stack stack' : List Frame) (f : Frame) (v : Vec ℕ Global) (j : ℕ)
    → Searches edges marks order (stack ++ f ∷ []) → AreWithin edges → v ≡ get_or edges f.node v → f.next < length v.items → j ≡ get_or v.items f.next j → (x : Mark) → x ≡ get_or marks j x → x ≡ Done
    → stack' ≡ stack ++ record { node = f.node; next = f.next + 1; meets = f.meets } ∷ []
    → Searches edges marks order stack' × (weighs edges marks stack' < weighs edges marks (stack ++ f ∷ []))
move_past edges marks order stack stack' f v j s all e more q x at is p' =
    let less = top_small edges marks order stack f s in
    let t = top_more edges stack f v j less e more q in
    let small = edge_within edges f.node f.next j v all less e more q in
    let mark = marked_at marks j x Done (omega (arith, s.each)) at is in
    taken_on edges marks order stack stack' f j f.meets t
    (steps_past (next_of edges) (length edges) marks (reverse order) f.node j (drop (f.next + 1) (next_of edges f.node)) f.meets (stands edges stack) small mark (topped edges marks order stack f _ s t)) p'

pub move_round : (edges : List (Vec ℕ Global)) (marks : List Mark) (order : List ℕ) (stack stack' : List Frame) (f : Frame) (v : Vec ℕ Global) (j : ℕ)
    → Searches edges marks order (stack ++ f ∷ []) → AreWithin edges → v ≡ get_or edges f.node v → f.next < length v.items → j ≡ get_or v.items f.next j → (x : Mark) → x ≡ get_or marks j x → (x ≡ Open) ⊎ (x ≡ Meets)
    → stack' ≡ stack ++ record { node = f.node; next = f.next + 1; meets = true } ∷ []
    → Searches edges marks order stack' × (weighs edges marks stack' < weighs edges marks (stack ++ f ∷ []))
move_round edges marks order stack stack' f v j s all e more q x at is p' =
    let less = top_small edges marks order stack f s in
    let t = top_more edges stack f v j less e more q in
    let small = edge_within edges f.node f.next j v all less e more q in
    let inside : j < length marks = omega (arith, s.each) in
    let mark : (get_or marks j New ≡ Open) ⊎ (get_or marks j New ≡ Meets) = elim is [ inl o ↦ inl (marked_at marks j x Open inside at o) | inr m ↦ inr (marked_at marks j x Meets inside at m) ] in
    taken_on edges marks order stack stack' f j true t
    (closes (next_of edges) (length edges) marks (reverse order) f.node j (drop (f.next + 1) (next_of edges f.node)) f.meets (stands edges stack) small mark (topped edges marks order stack f _ s t)) p'

move_back : (edges : List (Vec ℕ Global)) (marks : List Mark) (order order' : List ℕ) (stack : List Frame) (f : Frame) (v : Vec ℕ Global)
    → Searches edges marks order (stack ++ f ∷ []) → v ≡ get_or edges f.node v → length v.items ≤ f.next → f.meets ≡ false → order' ≡ order ++ f.node ∷ []
    → Searches edges (set marks f.node Done) order' stack × (weighs edges (set marks f.node Done) stack < weighs edges marks (stack ++ f ∷ []))
move_back edges marks order order' stack f v s e more plain p =
    let less = top_small edges marks order stack f s in
    let t = top_spent edges stack f v less e more in
    let now = finishes (next_of edges) (length edges) marks (reverse order) f.node f.meets (stands edges stack) plain (topped edges marks order stack f _ s t) in
    let r : reverse order' ≡ f.node ∷ reverse order = ap (λ (l : List ℕ). reverse l) p ∙ reverse-append order (f.node ∷ []) in
    let u = remarks edges marks f.node Done (λ n. refl) in
    let a = ap (λ (l : List Stand). untaken l) t in (
      subst (λ (l : List ℕ). IsSearch (next_of edges) (length edges) (set marks f.node Done) l (stands edges stack)) (sym r) now,
      omega (arith, u, a),
    )

move_out : (edges : List (Vec ℕ Global)) (marks : List Mark) (order : List ℕ) (stack : List Frame) (f : Frame) (v : Vec ℕ Global)
    → Searches edges marks order (stack ++ f ∷ []) → v ≡ get_or edges f.node v → length v.items ≤ f.next → f.meets ≡ true
    → Searches edges (set marks f.node Meets) order stack × (weighs edges (set marks f.node Meets) stack < weighs edges marks (stack ++ f ∷ []))
move_out edges marks order stack f v s e more flagged =
    let less = top_small edges marks order stack f s in
    let t = top_spent edges stack f v less e more in
    let u = remarks edges marks f.node Meets (λ n. refl) in
    let a = ap (λ (l : List Stand). untaken l) t in (
      gives_up (next_of edges) (length edges) marks (reverse order) f.node f.meets (stands edges stack) flagged (topped edges marks order stack f _ s t),
      omega (arith, u, a),
    )

-- the topmost node is left
pub move_off : (edges : List (Vec ℕ Global)) (marks marks' : List Mark) (order order' : List ℕ) (stack : List Frame) (f : Frame) (v : Vec ℕ Global)
    → Searches edges marks order (stack ++ f ∷ []) → v ≡ get_or edges f.node v → length v.items ≤ f.next
    → marks' ≡ set marks f.node (if f.meets then Meets else Done) → order' ≡ (if f.meets then order else (order ++ f.node ∷ []))
    → Searches edges marks' order' stack × (weighs edges marks' stack < weighs edges marks (stack ++ f ∷ []))
move_off edges marks marks' order order' stack f v s e more m o = go f.meets refl m o
  where
    go : (b : Bool) → f.meets ≡ b → marks' ≡ set marks f.node (if b then Meets else Done) → order' ≡ (if b then order else (order ++ f.node ∷ []))
        → Searches edges marks' order' stack × (weighs edges marks' stack < weighs edges marks (stack ++ f ∷ []))
    go true flagged m o =
        subst (λ (ms : List Mark). Searches edges ms order' stack × (weighs edges ms stack < weighs edges marks (stack ++ f ∷ []))) (sym m)
        (subst (λ (l : List ℕ). Searches edges (set marks f.node Meets) l stack × (weighs edges (set marks f.node Meets) stack < weighs edges marks (stack ++ f ∷ []))) (sym o)
        (move_out edges marks order stack f v s e more flagged))
    go false plain m o =
        subst (λ (ms : List Mark). Searches edges ms order' stack × (weighs edges ms stack < weighs edges marks (stack ++ f ∷ []))) (sym m)
        (move_back edges marks order order' stack f v s e more plain o)
