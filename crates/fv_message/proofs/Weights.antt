-- How long the texts of keys become.
use Rattle.std.proofs.Common.{◌≡◌, ◌<◌, ◌≤◌, ◌+◌, ℕ, zero, suc, List, [], ◌∷◌, ◌++◌, map, length, take, drop, min, Bool, true, false, Option, Some, None, is_some, if◌then◌else◌, get_or, slice_index, Vec, Global, inl, inr, refl, sym, ap, subst, ◌∙◌, arith, length-append}
use Rattle.std.specs.List.{cons_option, sum}
use Rattle.std.proofs.lemmas.List.{length-map, take_more, take_all}
use Rattle.std.proofs.lemmas.List.Sums.{sum_by-append}
use Rattle.fv_graph.specs.Graph.{IsIn, IsRestOrder, next_of}
use Rattle.fv_graph.specs.Recursion.{value_in}
use Rattle.fv_graph.specs.Weight.{weighed, weight, own_of}
use Rattle.fv_graph.proofs.Lists.{in_cases}
use Rattle.fv_graph.proofs.Unfolding.{map_same}
use Rattle.fv_message.specs.Template.{Piece, plain, parameter}
use Rattle.fv_message.specs.Reading.{pieces, is_template}
use Rattle.fv_message.specs.Table.{Messages}
use Rattle.fv_message.specs.Numbers.{number_of, text_at, keys_in, next_keys}
use Rattle.fv_message.specs.Full.{shown}
use Rattle.fv_message.specs.Evaluated.{first_of, joined, key_joined, key_text}
use Rattle.fv_message.specs.Measured.{AreEdgesOf, own_bytes, own_len}
use Rattle.fv_message.proofs.Keys.{next_below}
use Rattle.fv_message.proofs.Cycles.{MeetsUnreadable, IsFull, edges_all, unread_on, meets_either, full_of}

-- ---- pieces put together

pub sum_cons : (n : ℕ) (ns : List ℕ) → sum (n ∷ ns) ≡ n + sum ns
sum_cons n ns = let e : sum ((n ∷ []) ++ ns) ≡ sum (n ∷ []) + sum ns = sum_by-append (λ x. x) (n ∷ []) ns in omega (arith, e)

shown_len : (name : List ℕ) → length (shown [] name) ≡ length name + 2
shown_len name = omega (arith, length-append name (125 ∷ []))

joined_none_len : (ms : Messages) (ps : List Piece) → length (joined ms [] ps []) ≡ own_bytes ms ps
joined_none_len ms [] = refl
joined_none_len ms (plain b ∷ ps) = omega (arith, joined_none_len ms ps)
joined_none_len ms (parameter name ∷ ps) = go (number_of ms name) (joined_none_len ms ps)
  where
    go : (o : Option ℕ) → length (joined ms [] ps []) ≡ own_bytes ms ps
        → length (if is_some o then joined ms [] ps [] else shown [] name ++ joined ms [] ps []) ≡ (if is_some o then 0 else length name + 2) + own_bytes ms ps
    go None e = omega (arith, e, length-append (shown [] name) (joined ms [] ps []), shown_len name)
    go (Some i) e = omega (arith, e)

joined_len : (ms : Messages) (ps : List Piece) (made : List (List ℕ)) → length made ≡ length (keys_in ms ps) → length (joined ms [] ps made) ≡ own_bytes ms ps + sum (map length made)
joined_len ms [] [] e = refl
joined_len ms [] (t ∷ made) e = absurd (omega arith)
joined_len ms (plain b ∷ ps) made e = omega (arith, joined_len ms ps made e)
joined_len ms (parameter name ∷ ps) made e = go (number_of ms name) made (joined_len ms ps) e
  where
    go : (o : Option ℕ) (made : List (List ℕ)) → ((m : List (List ℕ)) → length m ≡ length (keys_in ms ps) → length (joined ms [] ps m) ≡ own_bytes ms ps + sum (map length m))
        → length made ≡ length (cons_option o (keys_in ms ps))
        → length (if is_some o then first_of made ++ joined ms [] ps (drop 1 made) else shown [] name ++ joined ms [] ps made) ≡ ((if is_some o then 0 else length name + 2) + own_bytes ms ps) + sum (map length made)
    go None m ih f = omega (arith, ih m f, length-append (shown [] name) (joined ms [] ps m), shown_len name)
    go (Some i) [] ih f = absurd (omega arith)
    go (Some i) (t ∷ m) ih f =
        let g : length m ≡ length (keys_in ms ps) = omega arith in
        omega (arith, ih m g, length-append t (joined ms [] ps m), sum_cons (length t) (map length m))

map_lengths : (g : ℕ → List ℕ) (xs : List ℕ) → map length (map g xs) ≡ map (λ j. length (g j)) xs
map_lengths g [] = refl
map_lengths g (x ∷ xs) = ap (λ (l : List ℕ). length (g x) ∷ l) (map_lengths g xs)

-- ---- keys

-- the text of the key of a number becomes too long
abbrev pub IsLongNumber : Messages → ℕ → Type 0
IsLongNumber ms i = (i < length ms) × IsFull ms i × (65536 < length (key_text ms [] i))

-- how many bytes of what each key's text becomes are none of another key's, where the text is a template
abbrev pub AreOwnLens : Messages → List ℕ → Type 0
AreOwnLens ms lens = (length lens ≡ length ms) × ((i : ℕ) → i < length ms → is_template (text_at ms i) ≡ true → slice_index lens i ≡ own_len ms i)

module _ (ms : Messages) (edges : List (Vec ℕ Global)) (are : AreEdgesOf ms edges) (lens : List ℕ) (own : AreOwnLens ms lens) where
  readable : (i : ℕ) → (MeetsUnreadable ms i → ⊥) → is_template (text_at ms i) ≡ true
  readable i full = go (is_template (text_at ms i)) refl
    where
      go : (b : Bool) → is_template (text_at ms i) ≡ b → is_template (text_at ms i) ≡ true
      go true e = e
      go false e = absurd (full (i, inl refl, e))

  len_in : (deep i : ℕ) → i < length ms → (MeetsUnreadable ms i → ⊥)
      → value_in (weighed (own_of lens)) (next_of edges) deep i ≡ length (value_in (key_joined ms []) (next_keys ms) deep i)
  len_in zero i less full = omega (arith, own.1 i less (readable i full), joined_none_len ms (pieces (text_at ms i)))
  len_in (suc deep) i less full =
      let f : ℕ → ℕ = λ j. value_in (weighed (own_of lens)) (next_of edges) deep j in
      let g : ℕ → List ℕ = λ j. value_in (key_joined ms []) (next_keys ms) deep j in
      let is = readable i full in
      let e1 : next_of edges i ≡ next_keys ms i = edges_all ms edges are i ∙ rw is refl in
      let e2 : map f (next_keys ms i) ≡ map (λ j. length (g j)) (next_keys ms i) =
      map_same f (λ j. length (g j)) (next_keys ms i) (λ j h. len_in deep j (next_below ms i j h).1 (λ u. full (unread_on ms i j h u))) in
      let e3 = map_lengths g (next_keys ms i) in
      let s : sum (map f (next_of edges i)) ≡ sum (map length (map g (next_keys ms i))) =
      ap (λ (l : List ℕ). sum (map f l)) e1 ∙ ap (λ (l : List ℕ). sum l) (e2 ∙ sym e3) in
      omega (arith, own.1 i less is, s, joined_len ms (pieces (text_at ms i)) (map g (next_keys ms i)) (length-map (next_keys ms i) g))

  key_len : (i : ℕ) → i < length ms → (MeetsUnreadable ms i → ⊥) → weight (own_of lens) (next_of edges) (length edges) i ≡ length (key_text ms [] i)
  key_len i less full = len_in (length edges) i less full ∙ ap (λ (n : ℕ). length (value_in (key_joined ms []) (next_keys ms) n i)) are.0

  -- a weight above the limit is a key whose text becomes too long
  module _ (order table : List ℕ) (o : IsRestOrder (next_of edges) (length edges) order)
      (weights : (i : ℕ) → IsIn order i → slice_index table i ≡ min 65537 (weight (own_of lens) (next_of edges) (length edges) i)) where
    pub long_of : (i : ℕ) → IsIn order i → 65536 < slice_index table i → IsLongNumber ms i
    long_of i at above =
        let part = o.part.0 i at in
        let less : i < length ms = omega (arith, part.0, are.0) in
        let full = full_of ms (next_of edges) (edges_all ms edges are) i part.1 in
        (less, full, omega (arith, above, weights i at, key_len i less full.1))

    in_order : (i : ℕ) → IsLongNumber ms i → IsIn order i
    in_order i h = elim (o.others i (omega (arith, h.0, are.0))) [
      | inl at ↦ at
      | inr m ↦ absurd (elim (meets_either ms (next_of edges) (edges_all ms edges are) i m) [ inl c ↦ h.1.0 c | inr u ↦ h.1.1 u ])
    ]

    above_of : (i : ℕ) → slice_index table i ≡ min 65537 (weight (own_of lens) (next_of edges) (length edges) i)
        → weight (own_of lens) (next_of edges) (length edges) i ≡ length (key_text ms [] i) → 65536 < length (key_text ms [] i) → 65536 < slice_index table i
    above_of i w k l = omega (arith, w, k, l)

    pub of_long : (i : ℕ) → IsLongNumber ms i → IsIn order i × (65536 < slice_index table i)
    of_long i h = let at = in_order i h in (at, above_of i (weights i at) (key_len i h.0 h.1.1) h.2)

-- ---- numbers at places

in_at : (xs : List ℕ) (k : ℕ) → k < length xs → IsIn xs (get_or xs k 0)
in_at [] k less = absurd (omega arith)
in_at (x ∷ xs) zero less = inl refl
in_at (x ∷ xs) (suc k) less = inr (in_at xs k (omega arith))

pub place_within : (places : List ℕ) (n k : ℕ) → ((i : ℕ) → IsIn places i → i < n) → k < length places → get_or places k 0 < n
place_within places n k within less = within (get_or places k 0) (in_at places k less)

pub place_found : (places : List ℕ) (k : ℕ) → k < length places → IsIn places (get_or places k 0)
place_found places k less = in_at places k less

-- one place more that isn't above
pub none_more : (P : ℕ → Type 0) (places : List ℕ) (k : ℕ) → k < length places → ((i : ℕ) → IsIn (take k places) i → P i → ⊥) → (P (get_or places k 0) → ⊥)
    → (i : ℕ) → IsIn (take (k + 1) places) i → P i → ⊥
none_more P places k less none last i h p = elim (in_cases (take k places) (get_or places k 0 ∷ []) i (subst (λ (l : List ℕ). IsIn l i) (take_more places k 0 less) h)) [
  | inl before ↦ none i before p
  | inr (inl e) ↦ last (subst P (sym e) p)
  | inr (inr nowhere) ↦ absurd nowhere
]

-- none of the places is above
pub none_all : (P : ℕ → Type 0) (places : List ℕ) (k : ℕ) → length places ≤ k → ((i : ℕ) → IsIn (take k places) i → P i → ⊥) → ((i : ℕ) × IsIn places i × P i) → ⊥
none_all P places k more none (i, h, p) = none i (subst (λ (l : List ℕ). IsIn l i) (sym (take_all k places more)) h) p
