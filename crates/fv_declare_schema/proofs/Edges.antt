-- Groups as the nodes of graphs.
use Rattle.std.proofs.Common.{◌≡◌, ◌<◌, ℕ, zero, suc, List, [], ◌∷◌, map, length, get_or, Bool, true, false, cond, Option, Some, None, option_map, slice_get, bytes_eq, Vec, Global, inl, inr, refl, sym, subst, ap, ◌∙◌, arith}
use Rattle.std.specs.List.{cons_option, All, concat}
use Rattle.std.specs.Option.{option_map_or}
use Rattle.std.proofs.lemmas.List.{length-map}
use Rattle.fv_graph.specs.Graph.{IsIn, LeadsIn, IsCyclic, IsBelow, AreWithin, next_of}
use Rattle.fv_graph.specs.Recursion.{value, value_in}
use Rattle.fv_graph.proofs.Unfolding.{map_same, unfolds}
use Rattle.fv_declare_schema.specs.Groups.{Form, inherits, Groups, group_number, numbers_of, inherited_by, members_of, is_a_sequence, is_sequence, form_at, inherit_next, member_next, ranked, ranks}
use Rattle.fv_declare_schema.specs.Judged.{AreSound}
use Rattle.fv_declare_schema.specs.Marked.{flag_of, Reaches, AreMeetingIn}
use Rattle.fv_declare_schema.specs.Once.{once}
use Rattle.fv_declare_schema.specs.Tables.{AreEdges, AreMeeting, AreInheriting, AreRanks}
use Rattle.fv_declare_schema.specs.declared.declared.GroupId.{GroupId}

-- ---- what edges lead to

number_below : (gs : Groups) (name : List ℕ) (i : ℕ) → group_number gs name ≡ Some i → i < length gs
number_below [] name i e = absurd (cc)
number_below (g ∷ gs) name i e = go (bytes_eq name g.0) (group_number gs name) (number_below gs name) e
  where
    go : (b : Bool) (o : Option ℕ) → ((k : ℕ) → o ≡ Some k → k < length gs) → cond b (Some 0) (option_map suc o) ≡ Some i → i < suc (length gs)
    go true o ih is = let z : 0 ≡ i = cc in omega arith
    go false None ih is = absurd (cc)
    go false (Some k) ih is = let h = ih k refl in let s : suc k ≡ i = cc in omega arith

-- the numbers of names are groups'
pub numbers_below : (gs : Groups) (names : List (List ℕ)) (j : ℕ) → IsIn (numbers_of gs names) j → j < length gs
numbers_below gs [] j h = absurd h
numbers_below gs (n ∷ ns) j h = go (group_number gs n) (numbers_below gs ns j) (number_below gs n) h
  where
    go : (o : Option ℕ) → (IsIn (numbers_of gs ns) j → j < length gs) → ((k : ℕ) → o ≡ Some k → k < length gs) → IsIn (cons_option o (numbers_of gs ns)) j → j < length gs
    go None rest f k = rest k
    go (Some i) rest f (inl e) = subst (λ (w : ℕ). w < length gs) e (f i refl)
    go (Some i) rest f (inr k) = rest k

row_at : (f : List ℕ × Form → List ℕ) (edges : List (Vec ℕ Global)) (gs : Groups) → map (λ nodes. nodes.items) edges ≡ map f gs → (i : ℕ) → next_of edges i ≡ option_map_or f (slice_get gs i) []
row_at f [] [] e i = refl
row_at f [] (g ∷ gs) e i = absurd (cc)
row_at f (v ∷ edges) [] e i = absurd (cc)
row_at f (v ∷ edges) (g ∷ gs) e zero = cc
row_at f (v ∷ edges) (g ∷ gs) e (suc i) = row_at f edges gs (cc) i

length_same : (f : List ℕ × Form → List ℕ) (edges : List (Vec ℕ Global)) (gs : Groups) → map (λ nodes. nodes.items) edges ≡ map f gs → length edges ≡ length gs
length_same f edges gs e = sym (length-map edges (λ nodes. nodes.items)) ∙ ap length e ∙ length-map gs f

pub inherited_edges : (gs : Groups) (edges : List (Vec ℕ Global)) → map (λ nodes. nodes.items) edges ≡ map (λ g. numbers_of gs (inherited_by g.1)) gs → AreEdges (inherit_next gs) (length gs) edges
inherited_edges gs edges e = (length_same (λ g. numbers_of gs (inherited_by g.1)) edges gs e, λ i. row_at (λ g. numbers_of gs (inherited_by g.1)) edges gs e i ∙ go (slice_get gs i))
  where
    go : (o : Option (List ℕ × Form)) → option_map_or (λ g. numbers_of gs (inherited_by g.1)) o [] ≡ numbers_of gs (inherited_by (option_map_or (λ g. g.1) o (inherits [])))
    go None = refl
    go (Some g) = refl

pub member_edges : (gs : Groups) (edges : List (Vec ℕ Global)) → map (λ nodes. nodes.items) edges ≡ map (λ g. numbers_of gs (members_of g.1)) gs → AreEdges (member_next gs) (length gs) edges
member_edges gs edges e = (length_same (λ g. numbers_of gs (members_of g.1)) edges gs e, λ i. row_at (λ g. numbers_of gs (members_of g.1)) edges gs e i ∙ go (slice_get gs i))
  where
    go : (o : Option (List ℕ × Form)) → option_map_or (λ g. numbers_of gs (members_of g.1)) o [] ≡ numbers_of gs (members_of (option_map_or (λ g. g.1) o (inherits [])))
    go None = refl
    go (Some g) = refl

below_at : (n : ℕ) (xs : List ℕ) → ((j : ℕ) → IsIn xs j → j < n) → (k d : ℕ) → k < length xs → get_or xs k d < n
below_at n [] all k d less = absurd (omega arith)
below_at n (x ∷ xs) all zero d less = all x (inl refl)
below_at n (x ∷ xs) all (suc k) d less = below_at n xs (λ j h. all j (inr h)) k d (omega arith)

within_at : (n : ℕ) (edges : List (Vec ℕ Global)) → ((i j : ℕ) → IsIn (next_of edges i) j → j < n) → (k : ℕ) (d : Vec ℕ Global) → k < length edges → All (λ j. j < n) (get_or edges k d).items
within_at n [] all k d less = absurd (omega arith)
within_at n (v ∷ edges) all zero d less = below_at n v.items (all 0)
within_at n (v ∷ edges) all (suc k) d less = within_at n edges (λ i. all (suc i)) k d (omega arith)

within : (next : ℕ → List ℕ) (count : ℕ) (edges : List (Vec ℕ Global)) → ((i j : ℕ) → IsIn (next i) j → j < count) → AreEdges next count edges → AreWithin edges
within next count edges below are = within_at (length edges) edges (λ i j h. subst (λ (n : ℕ). j < n) (sym are.0) (below i j (subst (λ (l : List ℕ). IsIn l j) (are.1 i) h)))

-- the edges of inheritance, and those to members, lead to groups
pub inherited_within : (gs : Groups) (edges : List (Vec ℕ Global)) → AreEdges (inherit_next gs) (length gs) edges → AreWithin edges
inherited_within gs edges are = within (inherit_next gs) (length gs) edges (λ i j h. numbers_below gs (inherited_by (form_at gs i)) j h) are

pub members_within : (gs : Groups) (edges : List (Vec ℕ Global)) → AreEdges (member_next gs) (length gs) edges → AreWithin edges
members_within gs edges are = within (member_next gs) (length gs) edges (λ i j h. numbers_below gs (members_of (form_at gs i)) j h) are

member_start : (gs es : Groups) (i j : ℕ) → IsIn (numbers_of gs (members_of (form_at es i))) j → i < length es
member_start gs [] i j h = absurd h
member_start gs (e ∷ es) zero j h = omega arith
member_start gs (e ∷ es) (suc i) j h = let k = member_start gs es i j h in omega arith

pub members_below : (gs : Groups) → IsBelow (member_next gs) (length gs)
members_below gs i j h = (member_start gs gs i j h, numbers_below gs (members_of (form_at gs i)) j h)

-- ---- graphs with the same edges

module _ (a b : ℕ → List ℕ) (same : (i : ℕ) → a i ≡ b i) where
  leads_same : (more i j : ℕ) → LeadsIn a more i j → LeadsIn b more i j
  leads_same zero i j h = subst (λ (l : List ℕ). IsIn l j) (same i) h
  leads_same (suc more) i j (k, h, l) = (k, subst (λ (l : List ℕ). IsIn l k) (same i) h, leads_same more k j l)

  pub reaches_same : (i j : ℕ) → Reaches a i j → Reaches b i j
  reaches_same i j (inl e) = inl e
  reaches_same i j (inr l) = inr (l.0, leads_same l.0 i j l.1)

  pub cyclic_same : IsCyclic a → IsCyclic b
  cyclic_same (i, l) = (i, (l.0, leads_same l.0 i i l.1))

-- and where there is no cycle
pub acyclic_same : (a b : ℕ → List ℕ) → ((i : ℕ) → a i ≡ b i) → (IsCyclic a → ⊥) → IsCyclic b → ⊥
acyclic_same a b same none cycle = none (cyclic_same b a (λ i. sym (same i)) cycle)

pub meeting_same : (gs : Groups) (inherited members : ℕ → List ℕ) (flags : List Bool) → ((i : ℕ) → inherited i ≡ inherit_next gs i) → ((i : ℕ) → members i ≡ member_next gs i)
    → AreMeetingIn inherited members (length gs) flags → AreMeeting gs flags
meeting_same gs inherited members flags inh mem are = (
  are.0,
  λ g less. (
    λ f. (let r = (are.1 g less).0 f in
        (r.0, reaches_same members (member_next gs) mem g r.0 r.1, reaches_same inherited (inherit_next gs) inh r.0 0 r.2)),
    λ r. (are.1 g less).1 (r.0, reaches_same (member_next gs) members (λ i. sym (mem i)) g r.0 r.1, reaches_same (inherit_next gs) inherited (λ i. sym (inh i)) r.0 0 r.2),
  ),
)

pub inheriting_same : (a b : ℕ → List ℕ) (count : ℕ) (rows : List (Vec Bool Global)) → ((i : ℕ) → a i ≡ b i) → AreInheriting a count rows → AreInheriting b count rows
inheriting_same a b count rows same are = (
  are.0,
  λ h d less. (
    (are.1 h d less).0,
    λ i small. (
      λ f. reaches_same a b same i h (((are.1 h d less).1 i small).0 f),
      λ r. ((are.1 h d less).1 i small).1 (reaches_same b a (λ k. sym (same k)) i h r),
    ),
  ),
)

-- ---- ranks

value_same : {V : Type 0} (c c' : ℕ → List V → V) (n n' : ℕ → List ℕ) → ((i : ℕ) (below : List V) → c i below ≡ c' i below) → ((i : ℕ) → n i ≡ n' i) → (deep i : ℕ) → value_in c n deep i ≡ value_in c' n' deep i
value_same c c' n n' e f zero i = e i []
value_same {V} c c' n n' e f (suc deep) i =
    e i (map (λ j. value_in c n deep j) (n i))
    ∙ ap (λ (l : List V). c' i l) (map_same (λ j. value_in c n deep j) (λ j. value_in c' n' deep j) (n i) (λ j h. value_same c c' n n' e f deep j)
    ∙ ap (λ (l : List ℕ). map (λ j. value_in c' n' deep j) l) (f i))

flag_is : (gs : Groups) (i : ℕ) → flag_of (map (λ g. is_a_sequence g.1) gs) i ≡ is_sequence gs i
flag_is [] i = refl
flag_is (g ∷ gs) zero = refl
flag_is (g ∷ gs) (suc i) = flag_is gs i

ranks_same : (gs : Groups) (flags : List Bool) (next : ℕ → List ℕ) → flags ≡ map (λ g. is_a_sequence g.1) gs → ((i : ℕ) → next i ≡ member_next gs i) → (i : ℕ)
    → value (ranked (flag_of flags)) next (length gs) i ≡ ranks gs i
ranks_same gs flags next e same i =
    value_same (ranked (flag_of flags)) (ranked (is_sequence gs)) next (member_next gs)
    (λ k below. ap (λ (b : Bool). cond b (once (concat below)) (k ∷ [])) (ap (λ (l : List Bool). flag_of l k) e ∙ flag_is gs k)) same (length gs) i

pub ranking_same : (gs : Groups) (flags : List Bool) (next : ℕ → List ℕ) (count : ℕ) (rows : List (Vec GroupId Global)) → count ≡ length gs → flags ≡ map (λ g. is_a_sequence g.1) gs → ((i : ℕ) → next i ≡ member_next gs i)
    → AreRanks (value (ranked (flag_of flags)) next count) count rows → AreRanks (ranks gs) (length gs) rows
ranking_same gs flags next count rows long e same are =
    let here = subst (λ (n : ℕ). AreRanks (value (ranked (flag_of flags)) next n) n rows) long are in
    (here.0, λ g d less. here.1 g d less ∙ ranks_same gs flags next e same g)

pub unfolded : (gs : Groups) → AreSound gs → (g : ℕ) → ranks gs g ≡ cond (is_sequence gs g) (once (concat (map (ranks gs) (member_next gs g)))) (g ∷ [])
unfolded gs sound g = unfolds (ranked (is_sequence gs)) (member_next gs) (length gs) (members_below gs) sound.expansion g
