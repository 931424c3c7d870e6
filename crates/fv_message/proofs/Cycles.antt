-- Cycles of keys, where a key whose text is no template counts as leading to itself.
use Rattle.std.proofs.Common.{◌≡◌, ◌<◌, ◌≤◌, ◌+◌, ℕ, zero, suc, List, [], ◌∷◌, ◌++◌, length, Bool, true, false, Option, Some, None, is_some, unwrap_or, if◌then◌else◌, Vec, Global, get_or, inl, inr, ◌⊎◌, refl, sym, ap, subst, ◌∙◌, arith, length-append}
use Rattle.std.specs.List.{All}
use Rattle.std.proofs.lemmas.Bool.{cases_lt}
use Rattle.fv_graph.specs.Graph.{IsIn, LeadsIn, Leads, IsCyclic, MeetsCycle, AreWithin, IsOrder, IsRestOrder, next_of}
use Rattle.fv_graph.proofs.Endings.{left_out, none_out}
use Rattle.fv_graph.proofs.Moves.{is_below}
use Rattle.fv_message.specs.Template.{Piece}
use Rattle.fv_message.specs.Reading.{pieces_of, pieces, is_template}
use Rattle.fv_message.specs.Table.{Messages}
use Rattle.fv_message.specs.Numbers.{text_at, next_keys, AreReadable, keys_in}
use Rattle.fv_message.specs.Measured.{edges_at, AreEdgesOf}
use Rattle.fv_message.proofs.Keys.{next_below, none_behind}

-- a key's text is no template, or leads through keys to one that isn't
abbrev pub MeetsUnreadable : Messages → ℕ → Type 0
MeetsUnreadable ms i = (j : ℕ) × ((i ≡ j) ⊎ Leads (next_keys ms) i j) × (is_template (text_at ms j) ≡ false)

-- a key whose text becomes a text: it meets no cycle and no text that is no template
abbrev pub IsFull : Messages → ℕ → Type 0
IsFull ms i = (MeetsCycle (next_keys ms) i → ⊥) × (MeetsUnreadable ms i → ⊥)

-- ---- one edge

pub unread_pieces : (t : List ℕ) → is_template t ≡ false → pieces t ≡ []
unread_pieces t e = go (pieces_of t) e
  where
    go : (o : Option (List Piece)) → is_some o ≡ false → unwrap_or o [] ≡ []
    go None f = refl
    go (Some ps) f = absurd (cc)

edge_cases : (ms : Messages) (i j : ℕ) → IsIn (edges_at ms i) j → IsIn (next_keys ms i) j ⊎ (is_template (text_at ms i) ≡ false)
edge_cases ms i j h = go (is_template (text_at ms i)) refl h
  where
    go : (b : Bool) → is_template (text_at ms i) ≡ b → IsIn (if b then next_keys ms i else i ∷ []) j → IsIn (next_keys ms i) j ⊎ (is_template (text_at ms i) ≡ false)
    go true e k = inl k
    go false e k = inr e

edge_kept : (ms : Messages) (i j : ℕ) → IsIn (next_keys ms i) j → IsIn (edges_at ms i) j
edge_kept ms i j h = go (is_template (text_at ms i)) refl
  where
    go : (b : Bool) → is_template (text_at ms i) ≡ b → IsIn (if b then next_keys ms i else i ∷ []) j
    go true e = h
    go false e = absurd (subst (λ (l : List Piece). IsIn (keys_in ms l) j) (unread_pieces (text_at ms i) e) h)

next_past : (edges : List (Vec ℕ Global)) (i : ℕ) → length edges ≤ i → next_of edges i ≡ []
next_past [] i h = refl
next_past (v ∷ edges) zero h = absurd (omega arith)
next_past (v ∷ edges) (suc i) h = next_past edges i (omega arith)

-- the edges of all numbers, also of those that are no key's
pub edges_all : (ms : Messages) (edges : List (Vec ℕ Global)) → AreEdgesOf ms edges → (i : ℕ) → next_of edges i ≡ edges_at ms i
edges_all ms edges are i = go (cases_lt i (length ms))
  where
    go : (i < length ms) ⊎ (length ms ≤ i) → next_of edges i ≡ edges_at ms i
    go (inl less) = are.1 i less
    go (inr more) = rw (none_behind ms i (omega arith)) (next_past edges i (omega (arith, are.0)))

-- ---- one list of edges more

next_kept : (edges more : List (Vec ℕ Global)) (i : ℕ) → i < length edges → next_of (edges ++ more) i ≡ next_of edges i
next_kept [] more i h = absurd (omega arith)
next_kept (v ∷ edges) more zero h = refl
next_kept (v ∷ edges) more (suc i) h = next_kept edges more i (omega arith)

next_last : (edges : List (Vec ℕ Global)) (v : Vec ℕ Global) → next_of (edges ++ v ∷ []) (length edges) ≡ v.items
next_last [] v = refl
next_last (w ∷ edges) v = next_last edges v

pub edges_more : (ms : Messages) (edges new : List (Vec ℕ Global)) (v : Vec ℕ Global) (key : ℕ) → new ≡ edges ++ v ∷ [] → v.items ≡ edges_at ms key
    → (length edges ≡ key) × ((i : ℕ) → i < key → next_of edges i ≡ edges_at ms i) → (length new ≡ key + 1) × ((i : ℕ) → i < key + 1 → next_of new i ≡ edges_at ms i)
edges_more ms edges new v key e is all = (
  omega (arith, ap length e, length-append edges (v ∷ []), all.0),
  λ i less. ap (λ (l : List (Vec ℕ Global)). next_of l i) e ∙ go i (cases_lt i key) less,
)
  where
    go : (i : ℕ) → (i < key) ⊎ (key ≤ i) → i < key + 1 → next_of (edges ++ v ∷ []) i ≡ edges_at ms i
    go i (inl l) less = next_kept edges (v ∷ []) i (omega (arith, all.0)) ∙ all.1 i l
    go i (inr l) less =
        let at : i ≡ length edges = omega (arith, all.0) in
        let key_is : i ≡ key = omega arith in
        ap (λ (k : ℕ). next_of (edges ++ v ∷ []) k) at ∙ next_last edges v ∙ is ∙ ap (λ (k : ℕ). edges_at ms k) (sym key_is)

-- ---- edges within the keys

below_at : (n : ℕ) (xs : List ℕ) → ((j : ℕ) → IsIn xs j → j < n) → (k d : ℕ) → k < length xs → get_or xs k d < n
below_at n [] all k d less = absurd (omega arith)
below_at n (x ∷ xs) all zero d less = all x (inl refl)
below_at n (x ∷ xs) all (suc k) d less = below_at n xs (λ j h. all j (inr h)) k d (omega arith)

within_at : (n : ℕ) (edges : List (Vec ℕ Global)) → ((i j : ℕ) → i < length edges → IsIn (next_of edges i) j → j < n) → (k : ℕ) (d : Vec ℕ Global) → k < length edges
    → All (λ j. j < n) (get_or edges k d).items
within_at n [] all k d less = absurd (omega arith)
within_at n (v ∷ edges) all zero d less = below_at n v.items (λ j. all 0 j (omega arith))
within_at n (v ∷ edges) all (suc k) d less = within_at n edges (λ i j l. all (suc i) j (omega arith)) k d (omega arith)

pub edges_within : (ms : Messages) (edges : List (Vec ℕ Global)) → AreEdgesOf ms edges → AreWithin edges
edges_within ms edges are = within_at (length edges) edges (λ i j less h. below i j less (subst (λ (l : List ℕ). IsIn l j) (edges_all ms edges are i) h))
  where
    below : (i j : ℕ) → i < length edges → IsIn (edges_at ms i) j → j < length edges
    below i j less h = go (is_template (text_at ms i)) h
      where
        go : (b : Bool) → IsIn (if b then next_keys ms i else i ∷ []) j → j < length edges
        go true k = let l = (next_below ms i j k).1 in omega (arith, are.0)
        go false (inl e) = omega arith
        go false (inr e) = absurd e

-- ---- chains

pub unread_on : (ms : Messages) (i k : ℕ) → IsIn (next_keys ms i) k → MeetsUnreadable ms k → MeetsUnreadable ms i
unread_on ms i k h (j, inl e, u) = (j, inr (0, subst (λ (w : ℕ). IsIn (next_keys ms i) w) e h), u)
unread_on ms i k h (j, inr (more, l), u) = (j, inr (suc more, (k, h, l)), u)

module _ (ms : Messages) (next : ℕ → List ℕ) (same : (i : ℕ) → next i ≡ edges_at ms i) where
  leads_kept : (more i j : ℕ) → LeadsIn (next_keys ms) more i j → LeadsIn next more i j
  leads_kept zero i j h = subst (λ (l : List ℕ). IsIn l j) (sym (same i)) (edge_kept ms i j h)
  leads_kept (suc more) i j (k, h, l) = (k, subst (λ (l : List ℕ). IsIn l k) (sym (same i)) (edge_kept ms i k h), leads_kept more k j l)

  leads_either : (more i j : ℕ) → LeadsIn next more i j → LeadsIn (next_keys ms) more i j ⊎ MeetsUnreadable ms i
  leads_either zero i j h = elim (edge_cases ms i j (subst (λ (l : List ℕ). IsIn l j) (same i) h)) [
    | inl k ↦ inl k
    | inr u ↦ inr (i, inl refl, u)
  ]
  leads_either (suc more) i j (k, h, l) = go (edge_cases ms i k (subst (λ (l : List ℕ). IsIn l k) (same i) h)) (leads_either more k j l)
    where
      go : IsIn (next_keys ms i) k ⊎ (is_template (text_at ms i) ≡ false) → LeadsIn (next_keys ms) more k j ⊎ MeetsUnreadable ms k
          → LeadsIn (next_keys ms) (suc more) i j ⊎ MeetsUnreadable ms i
      go (inr u) rest = inr (i, inl refl, u)
      go (inl e) (inl m) = inl (k, e, m)
      go (inl e) (inr u) = inr (unread_on ms i k e u)

  unread_behind : (more i j : ℕ) → LeadsIn (next_keys ms) more i j → MeetsUnreadable ms j → MeetsUnreadable ms i
  unread_behind zero i j h u = unread_on ms i j h u
  unread_behind (suc more) i j (k, h, l) u = unread_on ms i k h (unread_behind more k j l u)

  -- a node that meets a cycle meets one of keys, or a text that is no template
  pub meets_either : (i : ℕ) → MeetsCycle next i → MeetsCycle (next_keys ms) i ⊎ MeetsUnreadable ms i
  meets_either i (j, inl e, (more, l)) = elim (leads_either more j j l) [
    | inl m ↦ inl (j, inl e, (more, m))
    | inr u ↦ inr (subst (λ (w : ℕ). MeetsUnreadable ms w) (sym e) u)
  ]
  meets_either i (j, inr (steps, p), (more, l)) = go (leads_either steps i j p) (leads_either more j j l)
    where
      go : LeadsIn (next_keys ms) steps i j ⊎ MeetsUnreadable ms i → LeadsIn (next_keys ms) more j j ⊎ MeetsUnreadable ms j → MeetsCycle (next_keys ms) i ⊎ MeetsUnreadable ms i
      go (inr u) rest = inr u
      go (inl q) (inl m) = inl (j, inr (steps, q), (more, m))
      go (inl q) (inr u) = inr (unread_behind steps i j q u)

  lead_kept : (i j : ℕ) → (i ≡ j) ⊎ Leads (next_keys ms) i j → (i ≡ j) ⊎ Leads next i j
  lead_kept i j (inl e) = inl e
  lead_kept i j (inr (more, l)) = inr (more, leads_kept more i j l)

  -- a key that meets no cycle there becomes a text
  pub full_of : (i : ℕ) → (MeetsCycle next i → ⊥) → IsFull ms i
  full_of i none = (
    λ m. none (m.0, lead_kept i m.0 m.1, (m.2.0, leads_kept m.2.0 m.0 m.0 m.2.1)),
    λ u. none (u.0, lead_kept i u.0 u.1, (0, subst (λ (l : List ℕ). IsIn l u.0) (sym (same u.0)) (rw u.2 (inl refl)))),
  )

-- ---- where each text is a template

pub edges_same : (ms : Messages) (edges : List (Vec ℕ Global)) → AreEdgesOf ms edges → AreReadable ms → (i : ℕ) → next_of edges i ≡ next_keys ms i
edges_same ms edges are readable i = edges_all ms edges are i ∙ rw (readable i) refl

module _ (a b : ℕ → List ℕ) (same : (i : ℕ) → a i ≡ b i) where
  leads_same : (more i j : ℕ) → LeadsIn a more i j → LeadsIn b more i j
  leads_same zero i j h = subst (λ (l : List ℕ). IsIn l j) (same i) h
  leads_same (suc more) i j (k, h, l) = (k, subst (λ (l : List ℕ). IsIn l k) (same i) h, leads_same more k j l)

  pub cyclic_same : IsCyclic a → IsCyclic b
  cyclic_same (i, l) = (i, (l.0, leads_same l.0 i i l.1))

  pub order_same : (count : ℕ) (order : List ℕ) → IsOrder a count order → IsOrder b count order
  order_same count order o =
      (o.0, o.1, λ before i after e j h. o.2 before i after e j (subst (λ (l : List ℕ). IsIn l j) (sym (same i)) h))

-- where a key is left out, the text of some key leads back to it
pub cycle_found : (ms : Messages) (edges : List (Vec ℕ Global)) (order : List ℕ) → AreEdgesOf ms edges → AreReadable ms → IsRestOrder (next_of edges) (length edges) order
    → length order < length edges → IsCyclic (next_keys ms)
cycle_found ms edges order are readable rest short =
    cyclic_same (next_of edges) (next_keys ms) (edges_same ms edges are readable) (left_out (next_of edges) (length edges) order rest short)

-- where none is left out, none leads back
pub none_found : (ms : Messages) (edges : List (Vec ℕ Global)) (order : List ℕ) → AreEdgesOf ms edges → AreReadable ms → IsRestOrder (next_of edges) (length edges) order
    → length edges ≤ length order → (IsCyclic (next_keys ms) → ⊥) × IsOrder (next_keys ms) (length ms) order
none_found ms edges order are readable rest long =
    let same = edges_same ms edges are readable in
    let out = none_out (next_of edges) (length edges) order (is_below edges (edges_within ms edges are)) rest long in (
      λ c. out.0 (cyclic_same (next_keys ms) (next_of edges) (λ i. sym (same i)) c),
      subst (λ (n : ℕ). IsOrder (next_keys ms) n order) are.0 (order_same (next_of edges) (next_keys ms) same (length edges) order out.1),
    )
