-- What each step of the search keeps.
use Rattle.std.proofs.Common.{◌≡◌, ◌<◌, ℕ, List, [], ◌∷◌, inl, inr, refl, sym, subst, arith, ◌∙◌, ◌⊎◌, Bool, true, false, nat_eq, get_or, length}
use Rattle.std.proofs.Math.ListN.{set}
use Rattle.std.proofs.lemmas.List.{get_or-set_same, get_or-set_other, length-set}
use Rattle.fv_graph.specs.Graph.{IsIn, Leads, MeetsCycle}
use Rattle.fv_graph.specs.Search.{Stand, nodes, MarkSays, AreMarked, IsStand, IsWay, AreApart, IsSearch}
use Rattle.fv_graph.specs.declared.search.Mark.{Mark}
use Rattle.fv_graph.specs.declared.search.Mark.TheVariants.{New, Open, Done, Meets}
use Rattle.fv_graph.proofs.Lists.{eq_of, ne_of}
use Rattle.fv_graph.proofs.Chains.{leads_on, leads_from, meets_own, meets_from}

-- marks

remark : (next : ℕ → List ℕ) (count : ℕ) (marks : List Mark) (done way done' way' : List ℕ) (j : ℕ) (mark : Mark) → length marks ≡ count → j < count → MarkSays next done' way' j mark
    → ((i : ℕ) (m : Mark) → (j ≡ i → ⊥) → MarkSays next done way i m → MarkSays next done' way' i m) → AreMarked next count marks done way → AreMarked next count (set marks j mark) done' way'
remark next count marks done way done' way' j mark len small new keeps all i less = go (nat_eq j i) refl
  where
    go : (b : Bool) → nat_eq j i ≡ b → MarkSays next done' way' i (get_or (set marks j mark) i New)
    go true e =
        subst (λ (w : ℕ). MarkSays next done' way' w (get_or (set marks j mark) w New)) (eq_of j i e) (subst (λ (m : Mark). MarkSays next done' way' j m) (sym (get_or-set_same marks j mark New (omega arith))) new)
    go false e =
        subst (λ (m : Mark). MarkSays next done' way' i m) (sym (get_or-set_other marks j i mark New (λ q. ne_of j i e (sym q)))) (keeps i (get_or marks i New) (ne_of j i e) (all i less))

keeps_open : (next : ℕ → List ℕ) (done way : List ℕ) (j i : ℕ) (m : Mark) → (j ≡ i → ⊥) → MarkSays next done way i m → MarkSays next done (j ∷ way) i m
keeps_open next done way j i New ne h = (h.0, λ k. elim k [ inl e ↦ ne e | inr w ↦ h.1 w ])
keeps_open next done way j i Open ne h = inr h
keeps_open next done way j i Done ne h = h
keeps_open next done way j i Meets ne h = h

keeps_done : (next : ℕ → List ℕ) (done way : List ℕ) (j i : ℕ) (m : Mark) → (j ≡ i → ⊥) → MarkSays next done (j ∷ way) i m → MarkSays next (j ∷ done) way i m
keeps_done next done way j i New ne h = ((λ k. elim k [ inl e ↦ ne e | inr d ↦ h.0 d ]), λ w. h.1 (inr w))
keeps_done next done way j i Open ne h = elim h [ inl e ↦ absurd (ne e) | inr w ↦ w ]
keeps_done next done way j i Done ne h = inr h
keeps_done next done way j i Meets ne h = h

keeps_meeting : (next : ℕ → List ℕ) (done way : List ℕ) (j i : ℕ) (m : Mark) → (j ≡ i → ⊥) → MarkSays next done (j ∷ way) i m → MarkSays next done way i m
keeps_meeting next done way j i New ne h = (h.0, λ w. h.1 (inr w))
keeps_meeting next done way j i Open ne h = elim h [ inl e ↦ absurd (ne e) | inr w ↦ w ]
keeps_meeting next done way j i Done ne h = h
keeps_meeting next done way j i Meets ne h = h

apart_done : (count : ℕ) (done way : List ℕ) (j : ℕ) → (IsIn way j → ⊥) → AreApart count done way → AreApart count (j ∷ done) way
apart_done count done [] j h a = tt
apart_done count done (x ∷ way) j h a =
    (a.0, (λ k. elim k [ inl e ↦ h (inl (sym e)) | inr d ↦ a.1 d ]), a.2, apart_done count done way j (λ k. h (inr k)) a.3)

-- the way

stand_more : (next : ℕ → List ℕ) (done above : List ℕ) (x : ℕ) (f : Stand) → IsStand next done above f → IsStand next (x ∷ done) above f
stand_more next done above x f s = record {
  edges = λ j h. elim (s.edges j h) [ inl m ↦ inl m | inr r ↦ elim r [ inl d ↦ inr (inl (inr d)) | inr l ↦ inr (inr l) ] ];
  upward = s.upward;
  left = s.left;
  cycle = s.cycle;
}

way_more : (next : ℕ → List ℕ) (done : List ℕ) (x : ℕ) (above : List ℕ) (stack : List Stand) → IsWay next done above stack → IsWay next (x ∷ done) above stack
way_more next done x above [] w = tt
way_more next done x above (f ∷ below) w = (stand_more next done above x f w.0, way_more next done x (f.node ∷ []) below w.1)

way_back : (next : ℕ → List ℕ) (done above : List ℕ) (stack : List Stand) → IsWay next done above stack → IsWay next done [] stack
way_back next done above [] w = tt
way_back next done above (f ∷ below) w = (record { edges = w.0.edges; upward = λ j n. absurd n; left = w.0.left; cycle = w.0.cycle }, w.1)

leads_up : (next : ℕ → List ℕ) (done above : List ℕ) (stack : List Stand) (c a : ℕ) → IsWay next done above stack → IsIn (nodes stack) c → IsIn above a → Leads next c a
leads_up next done above [] c a w h k = absurd h
leads_up next done above (f ∷ below) c a w (inl e) k = (0, subst (λ (x : ℕ). IsIn (next x) a) e (w.0.upward a k))
leads_up next done above (f ∷ below) c a w (inr h) k =
    leads_on next c f.node a (leads_up next done (f.node ∷ []) below c f.node w.1 h (inl refl)) (w.0.upward a k)

-- steps

pub enters : (next : ℕ → List ℕ) (count : ℕ) (marks : List Mark) (done : List ℕ) (j : ℕ) (stack : List Stand) → j < count → get_or marks j New ≡ New → IsWay next done (j ∷ []) stack
    → IsSearch next count marks done stack → IsSearch next count (set marks j Open) done (record { node = j; left = next j; meets = false } ∷ stack)
enters next count marks done j stack small new way s =
    let n : MarkSays next done (nodes stack) j New = subst (λ (m : Mark). MarkSays next done (nodes stack) j m) new (s.marked j small) in
    record {
      each = length-set marks j Open ∙ s.each;
      marked = remark next count marks done (nodes stack) done (j ∷ nodes stack) j Open s.each small (inl refl) (keeps_open next done (nodes stack) j) s.marked;
      apart = (small, n.0, n.1, s.apart);
      way = (record { edges = λ k h. inr (inr h); upward = λ k h. absurd h; left = λ k h. h; cycle = λ e. cc }, way);
      follows = s.follows;
      once = s.once;
      small = s.small;
    }

pub steps_on : (next : ℕ → List ℕ) (count : ℕ) (marks : List Mark) (done : List ℕ) (node j : ℕ) (rest : List ℕ) (flag : Bool) (below : List Stand) → j < count → get_or marks j New ≡ New
    → IsSearch next count marks done (record { node = node; left = j ∷ rest; meets = flag } ∷ below)
    → IsSearch next count (set marks j Open) done (record { node = j; left = next j; meets = false } ∷ record { node = node; left = j ∷ rest; meets = flag } ∷ below)
steps_on next count marks done node j rest flag below small new s =
    enters next count marks done j (record { node = node; left = j ∷ rest; meets = flag } ∷ below) small new
    (record { edges = s.way.0.edges; upward = λ k h. elim h [ inl e ↦ s.way.0.left k (inl e) | inr n ↦ absurd n ]; left = s.way.0.left; cycle = s.way.0.cycle }, s.way.1) s

-- the next edge of the topmost node is taken, with what is known of it then
takes : (next : ℕ → List ℕ) (count : ℕ) (marks : List Mark) (done : List ℕ) (node j : ℕ) (rest : List ℕ) (flag flag' : Bool) (below : List Stand)
    → IsSearch next count marks done (record { node = node; left = j ∷ rest; meets = flag } ∷ below)
    → IsStand next done [] (record { node = node; left = rest; meets = flag' })
    → IsSearch next count marks done (record { node = node; left = rest; meets = flag' } ∷ below)
takes next count marks done node j rest flag flag' below s new = record {
  each = s.each;
  marked = s.marked;
  apart = s.apart;
  way = (new, s.way.1);
  follows = s.follows;
  once = s.once;
  small = s.small;
}

pub steps_past : (next : ℕ → List ℕ) (count : ℕ) (marks : List Mark) (done : List ℕ) (node j : ℕ) (rest : List ℕ) (flag : Bool) (below : List Stand) → j < count → get_or marks j New ≡ Done
    → IsSearch next count marks done (record { node = node; left = j ∷ rest; meets = flag } ∷ below)
    → IsSearch next count marks done (record { node = node; left = rest; meets = flag } ∷ below)
steps_past next count marks done node j rest flag below small was s =
    let there : IsIn done j = subst (λ (m : Mark). MarkSays next done (node ∷ nodes below) j m) was (s.marked j small) in
    takes next count marks done node j rest flag flag below s (record {
      edges = λ k h. elim (s.way.0.edges k h) [ inl m ↦ inl m | inr r ↦ elim r [ inl d ↦ inr (inl d) | inr l ↦ elim l [ inl e ↦ inr (inl (subst (λ (w : ℕ). IsIn done w) e there)) | inr m ↦ inr (inr m) ] ] ];
      upward = λ k h. absurd h;
      left = λ k h. s.way.0.left k (inr h);
      cycle = s.way.0.cycle;
    })

-- an edge to a node on the way closes a cycle, and one to a node that meets a cycle leads to it
meets_by : (next : ℕ → List ℕ) (done : List ℕ) (node j : ℕ) (below : List Stand) (m : Mark) → (m ≡ Open) ⊎ (m ≡ Meets) → IsIn (next node) j → IsWay next done (node ∷ []) below
    → MarkSays next done (node ∷ nodes below) j m → MeetsCycle next node
meets_by next done node j below m (inl o) edge way says =
    elim (subst (λ (x : Mark). MarkSays next done (node ∷ nodes below) j x) o says) [
      | inl e ↦ meets_own next node (0, subst (λ (w : ℕ). IsIn (next node) w) (sym e) edge)
      | inr h ↦ meets_own next node (leads_from next node j node edge (leads_up next done (node ∷ []) below j node way h (inl refl)))
    ]
meets_by next done node j below m (inr o) edge way says =
    meets_from next node j edge (subst (λ (x : Mark). MarkSays next done (node ∷ nodes below) j x) o says)

pub closes : (next : ℕ → List ℕ) (count : ℕ) (marks : List Mark) (done : List ℕ) (node j : ℕ) (rest : List ℕ) (flag : Bool) (below : List Stand) → j < count → (get_or marks j New ≡ Open) ⊎ (get_or marks j New ≡ Meets)
    → IsSearch next count marks done (record { node = node; left = j ∷ rest; meets = flag } ∷ below)
    → IsSearch next count marks done (record { node = node; left = rest; meets = true } ∷ below)
closes next count marks done node j rest flag below small was s =
    takes next count marks done node j rest flag true below s (record {
      edges = λ k h. inl refl;
      upward = λ k h. absurd h;
      left = λ k h. s.way.0.left k (inr h);
      cycle = λ _. meets_by next done node j below (get_or marks j New) was (s.way.0.left j (inl refl)) s.way.1 (s.marked j small);
    })

pub finishes : (next : ℕ → List ℕ) (count : ℕ) (marks : List Mark) (done : List ℕ) (node : ℕ) (flag : Bool) (below : List Stand) → flag ≡ false
    → IsSearch next count marks done (record { node = node; left = []; meets = flag } ∷ below)
    → IsSearch next count (set marks node Done) (node ∷ done) below
finishes next count marks done node flag below plain s = record {
  each = length-set marks node Done ∙ s.each;
  marked = remark next count marks done (node ∷ nodes below) (node ∷ done) (nodes below) node Done s.each s.apart.0 (inl refl) (keeps_done next done (nodes below) node) s.marked;
  apart = apart_done count done (nodes below) node s.apart.2 s.apart.3;
  way = way_back next (node ∷ done) (node ∷ []) below (way_more next done node (node ∷ []) below s.way.1);
  follows = ((λ j h. elim (s.way.0.edges j h) [ inl m ↦ (let c : true ≡ false = sym m ∙ plain in cc) | inr r ↦ elim r [ inl d ↦ d | inr n ↦ absurd n ] ]), s.follows);
  once = (s.apart.1, s.once);
  small = λ i h. elim h [ inl e ↦ subst (λ (w : ℕ). w < count) e s.apart.0 | inr k ↦ s.small i k ];
}

pub gives_up : (next : ℕ → List ℕ) (count : ℕ) (marks : List Mark) (done : List ℕ) (node : ℕ) (flag : Bool) (below : List Stand) → flag ≡ true
    → IsSearch next count marks done (record { node = node; left = []; meets = flag } ∷ below)
    → IsSearch next count (set marks node Meets) done below
gives_up next count marks done node flag below plain s = record {
  each = length-set marks node Meets ∙ s.each;
  marked = remark next count marks done (node ∷ nodes below) done (nodes below) node Meets s.each s.apart.0 (s.way.0.cycle plain) (keeps_meeting next done (nodes below) node) s.marked;
  apart = s.apart.3;
  way = way_back next done (node ∷ []) below s.way.1;
  follows = s.follows;
  once = s.once;
  small = s.small;
}
