-- The full replacement, and the function that it is where no key leads to itself.
use Rattle.std.proofs.Common.{◌≡◌, ◌<◌, ◌≤◌, ◌+◌, ◌↔◌, ℕ, zero, suc, List, [], ◌∷◌, ◌++◌, map, length, slice_get, slice_index, Bool, true, false, IsTrue, cond, not, ◌||◌, Option, Some, None, option_map, is_some, unwrap_or, MatchOption, bytes_eq, inl, inr, ◌⊎◌, refl, sym, ap, subst, ◌∙◌, arith}
use Rattle.std.proofs.lemmas.List.{append-nil}
use Rattle.std.specs.List.{cons_option, sum}
use Rattle.std.specs.Option.{option_map_or}
use Rattle.fv_datum.specs.Attributes.{Attributes, AttributeValue}
use Rattle.fv_datum.specs.Lookup.{at_name}
use Rattle.fv_graph.specs.Graph.{IsIn, Leads, IsCyclic, MeetsCycle}
use Rattle.fv_graph.specs.Weight.{weighed, weight}
use Rattle.fv_graph.proofs.Chains.{meets_from}
use Rattle.fv_graph.proofs.Unfolding.{unfolds_at}
use Rattle.fv_message.specs.Template.{Piece, plain, parameter, SpellsPieces, IsTemplate, is_parameter_name}
use Rattle.fv_message.specs.Reading.{pieces_of, pieces, is_template}
use Rattle.fv_message.specs.Table.{Messages}
use Rattle.fv_message.specs.Numbers.{number_of, text_at, keys_in, next_keys, AreReadable}
use Rattle.fv_message.specs.Full.{attribute_text, shown, Become, nothing, byte, key, other, IsFullText, IsTextOf}
use Rattle.fv_message.specs.Evaluated.{key_text, full_pieces, full_text}
use Rattle.fv_message.specs.Judged.{HasLongKey, IsMisspelt}
use Rattle.fv_message.specs.Judging.{is_misspelt}
use Rattle.fv_message.specs.Whereabouts.{IsLongAt}
use Rattle.fv_message.proofs.Spelled.{spelled_read}
use Rattle.fv_message.proofs.Keys.{next_below, key_unfolds}
use Rattle.fv_message.proofs.Cycles.{MeetsUnreadable, IsFull, unread_pieces, unread_on}
use Rattle.fv_message.proofs.Weights.{IsLongNumber, sum_cons}

-- ---- templates

pub unread : (t : List ℕ) → is_template t ≡ false → IsTemplate t → ⊥
unread t e (ps, s) = no (sym e ∙ ap is_some ((spelled_read t ps).1 s))
  where
    no : false ≡ true → ⊥
    no f = cc

pub spelled_template : (t : List ℕ) → IsTemplate t → is_template t ≡ true
spelled_template t (ps, s) = ap is_some ((spelled_read t ps).1 s)

pub spelled_pieces : (t : List ℕ) (ps : List Piece) → SpellsPieces ps t → pieces t ≡ ps
spelled_pieces t ps s = ap (λ (o : Option (List Piece)). unwrap_or o []) ((spelled_read t ps).1 s)

pub template_spelled : (t : List ℕ) → is_template t ≡ true → SpellsPieces (pieces t) t
template_spelled t is = go (pieces_of t) refl is
  where
    go : (o : Option (List Piece)) → pieces_of t ≡ o → is_some o ≡ true → SpellsPieces (unwrap_or o []) t
    go None e f = absurd (cc)
    go (Some ps) e f = (spelled_read t ps).0 e

-- what is told of a text is whether it is a template
pub told_template : (t : List ℕ) (r : Bool) → r ≡ is_template t → IsTrue r ↔ IsTemplate t
told_template t r e = (λ is. (pieces t, template_spelled t (sym e ∙ is)), λ h. e ∙ spelled_template t h)

pub template_told : (t : List ℕ) (r : Bool) → IsTrue r ↔ IsTemplate t → r ≡ is_template t
template_told t r h = go r (is_template t) refl h
  where
    go : (a b : Bool) → is_template t ≡ b → IsTrue a ↔ IsTemplate t → a ≡ b
    go true true e h = refl
    go true false e h = absurd (unread t e (h.0 refl))
    go false true e h = h.1 (pieces t, template_spelled t e)
    go false false e h = refl

-- ---- names and numbers

-- at a key's name stands the text at its number
pub named_text : (ms : Messages) (name : List ℕ) (i : ℕ) → number_of ms name ≡ Some i → at_name name ms ≡ Some (text_at ms i)
named_text [] name i e = absurd (cc)
named_text (m ∷ ms) name i e = go (bytes_eq name m.0) (number_of ms name) (named_text ms name) e
  where
    go : (b : Bool) (o : Option ℕ) → ((k : ℕ) → o ≡ Some k → at_name name ms ≡ Some (text_at ms k)) → cond b (Some 0) (option_map suc o) ≡ Some i
        → cond b (Some m.1) (at_name name ms) ≡ Some (text_at (m ∷ ms) i)
    go true o ih is = let z : 0 ≡ i = cc in ap (λ (k : ℕ). Some (text_at (m ∷ ms) k)) z
    go false None ih is = absurd (cc)
    go false (Some k) ih is = let s : suc k ≡ i = cc in ih k refl ∙ ap (λ (n : ℕ). Some (text_at (m ∷ ms) n)) s

pub unnamed_text : (ms : Messages) (name : List ℕ) → number_of ms name ≡ None → at_name name ms ≡ None
unnamed_text [] name e = refl
unnamed_text (m ∷ ms) name e = go (bytes_eq name m.0) (number_of ms name) (unnamed_text ms name) e
  where
    go : (b : Bool) (o : Option ℕ) → (o ≡ None → at_name name ms ≡ None) → cond b (Some 0) (option_map suc o) ≡ None → cond b (Some m.1) (at_name name ms) ≡ None
    go true o ih is = absurd (cc)
    go false None ih is = ih refl
    go false (Some k) ih is = absurd (cc)

pub text_named : (ms : Messages) (name t : List ℕ) → at_name name ms ≡ Some t → (i : ℕ) × (number_of ms name ≡ Some i) × (text_at ms i ≡ t)
text_named ms name t e = go (number_of ms name) refl
  where
    go : (o : Option ℕ) → number_of ms name ≡ o → (i : ℕ) × (number_of ms name ≡ Some i) × (text_at ms i ≡ t)
    go None n = let u = unnamed_text ms name n in absurd (cc)
    go (Some i) n = let u = named_text ms name i n in (i, n, cc)

text_unnamed : (ms : Messages) (name : List ℕ) → at_name name ms ≡ None → number_of ms name ≡ None
text_unnamed ms name e = go (number_of ms name) refl
  where
    go : (o : Option ℕ) → number_of ms name ≡ o → number_of ms name ≡ None
    go None n = n
    go (Some i) n = let u = named_text ms name i n in absurd (cc)

-- ---- keys that become texts

cycle_next : (next : ℕ → List ℕ) (i : ℕ) → Leads next i i → (k : ℕ) × IsIn (next i) k × MeetsCycle next k
cycle_next next i (zero, h) = (i, h, (i, inl refl, (0, h)))
cycle_next next i (suc more, (k, h, l)) = (k, h, (i, inr (more, l), (suc more, (k, h, l))))

-- a key that meets a cycle leads to one that does
meets_next : (next : ℕ → List ℕ) (i : ℕ) → MeetsCycle next i → (k : ℕ) × IsIn (next i) k × MeetsCycle next k
meets_next next i (j, inl e, l) = cycle_next next i (subst (λ (w : ℕ). Leads next w w) (sym e) l)
meets_next next i (j, inr (zero, h), l) = (j, h, (j, inl refl, l))
meets_next next i (j, inr (suc more, (k, h, p)), l) = (k, h, (j, inr (more, p), l))

module _ (ms : Messages) where
  full_next : (i j : ℕ) → IsIn (next_keys ms i) j → IsFull ms i → IsFull ms j
  full_next i j h full = (λ m. full.0 (meets_from (next_keys ms) i j h m), λ u. full.1 (unread_on ms i j h u))

  full_readable : (i : ℕ) → IsFull ms i → is_template (text_at ms i) ≡ true
  full_readable i full = go (is_template (text_at ms i)) refl
    where
      go : (b : Bool) → is_template (text_at ms i) ≡ b → is_template (text_at ms i) ≡ true
      go true e = e
      go false e = absurd (full.1 (i, inl refl, e))

  full_read : (i : ℕ) → is_template (text_at ms i) ≡ true → ((j : ℕ) → IsIn (next_keys ms i) j → IsFull ms j) → MeetsUnreadable ms i → ⊥
  full_read i is each (j, inl e, u) = no (sym (subst (λ (w : ℕ). is_template (text_at ms w) ≡ false) (sym e) u) ∙ is)
    where
      no : false ≡ true → ⊥
      no f = cc
  full_read i is each (j, inr (zero, h), u) = (each j h).1 (j, inl refl, u)
  full_read i is each (j, inr (suc more, (k, h, p)), u) = (each k h).1 (j, inr (more, p), u)

  -- a key whose text is a template, and leads to keys that become texts
  full_from : (i : ℕ) → is_template (text_at ms i) ≡ true → ((j : ℕ) → IsIn (next_keys ms i) j → IsFull ms j) → IsFull ms i
  full_from i is each = (λ m. (let k = meets_next (next_keys ms) i m in (each k.0 k.1).0 k.2), full_read i is each)

  -- how many keys stand below a key, and the key
  rank : ℕ → ℕ
  rank i = weight (λ _. 1) (next_keys ms) (length ms) i

  rank_is : (i : ℕ) → (MeetsCycle (next_keys ms) i → ⊥) → rank i ≡ 1 + sum (map (λ j. rank j) (next_keys ms i))
  unfolding rank
  rank_is i none = unfolds_at (weighed (λ _. 1)) (next_keys ms) (length ms) (next_below ms) i none

in_sum : (f : ℕ → ℕ) (xs : List ℕ) (j : ℕ) → IsIn xs j → f j ≤ sum (map f xs)
in_sum f [] j h = absurd h
in_sum f (x ∷ xs) j (inl e) =
    let same : f x ≡ f j = ap f e in
    let s = sum_cons (f x) (map f xs) in
    omega (arith, s, same)
in_sum f (x ∷ xs) j (inr h) =
    let more = in_sum f xs j h in
    let s = sum_cons (f x) (map f xs) in
    omega (arith, s, more)

module _ (ms : Messages) (attributes : Attributes) where
  -- plain bytes stay
  pub become_plain : (text : List ℕ) → Become ms attributes (map plain text) text
  become_plain [] = nothing
  become_plain (b ∷ text) = byte (become_plain text)

  -- a parameter that is an attribute becomes the attribute's text
  pub become_shown : (name : List ℕ) (value : AttributeValue) → at_name name ms ≡ None → at_name name attributes ≡ Some value
      → Become ms attributes (parameter name ∷ []) (attribute_text value)
  become_shown name value none found =
      let is : shown attributes name ≡ attribute_text value = rw found refl in
      subst (λ (t : List ℕ). Become ms attributes (parameter name ∷ []) t) (append-nil (shown attributes name) ∙ is) (other none nothing)

  -- a key's text becomes what the function makes of it
  abbrev Makes : ℕ → Type 0
  Makes i = (is_template (text_at ms i) ≡ true) × Become ms attributes (pieces (text_at ms i)) (key_text ms attributes i)

  become_pieces : (ps : List Piece) → ((j : ℕ) → IsIn (keys_in ms ps) j → Makes j) → Become ms attributes ps (full_pieces ms attributes ps)
  become_pieces [] each = nothing
  become_pieces (plain b ∷ ps) each = byte (become_pieces ps each)
  become_pieces (parameter name ∷ ps) each = go (number_of ms name) refl (become_pieces ps) each
    where
      go : (o : Option ℕ) → number_of ms name ≡ o → (((j : ℕ) → IsIn (keys_in ms ps) j → Makes j) → Become ms attributes ps (full_pieces ms attributes ps))
          → ((j : ℕ) → IsIn (cons_option o (keys_in ms ps)) j → Makes j)
          → Become ms attributes (parameter name ∷ ps) (option_map_or (key_text ms attributes) o (shown attributes name) ++ full_pieces ms attributes ps)
      go None n rest all = other (unnamed_text ms name n) (rest all)
      go (Some i) n rest all =
          let here = all i (inl refl) in
          key (named_text ms name i n) (template_spelled (text_at ms i) here.0) here.1 (rest (λ j h. all j (inr h)))

  become_key : (n i : ℕ) → rank ms i ≤ n → IsFull ms i → Become ms attributes (pieces (text_at ms i)) (key_text ms attributes i)
  become_key zero i less full = let r = rank_is ms i full.0 in absurd (omega (arith, r, less))
  become_key (suc n) i less full =
      subst (λ (t : List ℕ). Become ms attributes (pieces (text_at ms i)) t) (sym (key_unfolds ms attributes i full.0))
      (become_pieces (pieces (text_at ms i)) (λ j h.
      let next = full_next ms i j h full in
      let r = rank_is ms i full.0 in
      let b = in_sum (λ k. rank ms k) (next_keys ms i) j h in
      (full_readable ms j next, become_key n j (omega (arith, r, b, less)) next)))

  pub key_become : (i : ℕ) → IsFull ms i → Become ms attributes (pieces (text_at ms i)) (key_text ms attributes i)
  key_become i full = become_key (rank ms i) i (omega arith) full

  -- ---- and back

  -- pieces that become a text: so do their keys, and the text is what the function makes of the pieces
  evaluated : {ps : List Piece} {full : List ℕ} → Become ms attributes ps full → ((j : ℕ) → IsIn (keys_in ms ps) j → IsFull ms j) × (full ≡ full_pieces ms attributes ps)
  evaluated nothing = (λ j h. absurd h, refl)
  evaluated (byte {b = b} d) = let e = evaluated d in (e.0, ap (λ (l : List ℕ). b ∷ l) e.1)
  evaluated (key {name = name} {template = template} {full = full} {rest = rest} {qs = qs} {ps = ps} found s d more) =
      let i = text_named ms name template found in
      let inner = evaluated d in
      let outer = evaluated more in
      let read : pieces (text_at ms i.0) ≡ qs = ap pieces i.2 ∙ spelled_pieces template qs s in
      let is : is_template (text_at ms i.0) ≡ true = ap is_template i.2 ∙ spelled_template template (qs, s) in
      let here : IsFull ms i.0 = full_from ms i.0 is (λ j h. inner.0 j (subst (λ (l : List Piece). IsIn (keys_in ms l) j) read h)) in
      let same : full ≡ option_map_or (key_text ms attributes) (number_of ms name) (shown attributes name) =
      inner.1 ∙ ap (full_pieces ms attributes) (sym read) ∙ sym (key_unfolds ms attributes i.0 here.0)
      ∙ ap (λ (o : Option ℕ). option_map_or (key_text ms attributes) o (shown attributes name)) (sym i.1) in (
        subst (λ (o : Option ℕ). (j : ℕ) → IsIn (cons_option o (keys_in ms ps)) j → IsFull ms j) (sym i.1)
            (λ j h. elim h [ inl e ↦ subst (λ (w : ℕ). IsFull ms w) e here | inr k ↦ outer.0 j k ]),
        λ k. same k ++ outer.1 k,
      )
  evaluated (other {name = name} {rest = rest} {ps = ps} found more) =
      let outer = evaluated more in
      let n = text_unnamed ms name found in (
        subst (λ (o : Option ℕ). (j : ℕ) → IsIn (cons_option o (keys_in ms ps)) j → IsFull ms j) (sym n) outer.0,
        λ k. option_map_or (key_text ms attributes) (sym n k) (shown attributes name) ++ outer.1 k,
      )

  -- a full text is what the function makes
  pub full_is : (template full : List ℕ) → IsFullText ms attributes template full → full ≡ full_text ms attributes template
  full_is template full (ps, s, d) = (evaluated d).1 ∙ ap (full_pieces ms attributes) (sym (spelled_pieces template ps s))

  pub text_is : (template full : List ℕ) → IsTextOf ms attributes template full → full ≡ full_text ms attributes template
  text_is template full (inl h) = full_is template full h
  text_is template full (inr h) = h.1 ∙ ap (full_pieces ms attributes) (sym (unread_pieces template (go (is_template template) refl)))
    where
      go : (b : Bool) → is_template template ≡ b → is_template template ≡ false
      go false e = e
      go true e = absurd (h.0 (pieces template, template_spelled template e))

  -- where no key leads to itself and each text is a template, what the function makes is the full text
  module _ (readable : AreReadable ms) (none : IsCyclic (next_keys ms) → ⊥) where
    each_full : (i : ℕ) → IsFull ms i
    each_full i = (λ m. none (m.0, m.2), λ u. no (sym u.2 ∙ readable u.0))
      where
        no : false ≡ true → ⊥
        no f = cc

    pub full_of : (template : List ℕ) → is_template template ≡ true → IsFullText ms attributes template (full_text ms attributes template)
    full_of template is =
        (pieces template, template_spelled template is, become_pieces (pieces template) (λ j h. (readable j, key_become j (each_full j))))

    pub text_of : (template : List ℕ) → IsTextOf ms attributes template (full_text ms attributes template)
    text_of template = go (is_template template) refl
      where
        go : (b : Bool) → is_template template ≡ b → IsTextOf ms attributes template (full_text ms attributes template)
        go true e = inl (full_of template e)
        go false e = inr (unread template e, ap (full_pieces ms attributes) (unread_pieces template e))

readable_by : (ms : Messages) → ((m : List ℕ × List ℕ) → IsIn ms m → IsTemplate m.1) → AreReadable ms
readable_by [] each i = refl
readable_by (m ∷ ms) each zero = spelled_template m.1 (each m (inl refl))
readable_by (m ∷ ms) each (suc i) = readable_by ms (λ n h. each n (inr h)) i

-- the same, of messages that are templates
pub full_made : (ms : Messages) (attributes : Attributes) → ((m : List ℕ × List ℕ) → IsIn ms m → IsTemplate m.1) → (IsCyclic (next_keys ms) → ⊥) → (template : List ℕ) → IsTemplate template
    → IsFullText ms attributes template (full_text ms attributes template)
full_made ms attributes each none template is = full_of ms attributes (readable_by ms each) none template (spelled_template template is)

-- ---- keys whose texts become too long

message_at : (ms : Messages) (i : ℕ) → i < length ms → (m : List ℕ × List ℕ) × (slice_get ms i ≡ Some m) × (text_at ms i ≡ m.1)
message_at [] i less = absurd (omega arith)
message_at (m ∷ ms) zero less = (m, refl, refl)
message_at (m ∷ ms) (suc i) less = message_at ms i (omega arith)

got_in : (ms : Messages) (i : ℕ) (m : List ℕ × List ℕ) → slice_get ms i ≡ Some m → IsIn ms m
got_in [] i m e = absurd (cc)
got_in (n ∷ ms) zero m e = inl (cc)
got_in (n ∷ ms) (suc i) m e = inr (got_in ms i m e)

message_number : (ms : Messages) (m : List ℕ × List ℕ) → IsIn ms m → (i : ℕ) × (i < length ms) × (text_at ms i ≡ m.1)
message_number [] m h = absurd h
message_number (n ∷ ms) m (inl e) = (0, omega arith, ap (λ (x : List ℕ × List ℕ). x.1) e)
message_number (n ∷ ms) m (inr h) = let r = message_number ms m h in (suc r.0, omega (arith, r.1), r.2)

long_at : (ms : Messages) (i : ℕ) → IsLongNumber ms i → IsLongAt ms i
long_at ms i (less, full, long) =
    let m = message_at ms i less in
    (m.0, m.1, key_text ms [] i, subst (λ (t : List ℕ). IsFullText ms [] t (key_text ms [] i)) m.2 (pieces (text_at ms i), template_spelled (text_at ms i) (full_readable ms i full), key_become ms [] i full), long)

pub long_key : (ms : Messages) (i : ℕ) → IsLongAt ms i → HasLongKey ms
long_key ms i (m, is, full, text, long) = (m, got_in ms i m is, full, text, long)

long_number : (ms : Messages) → HasLongKey ms → (i : ℕ) × IsLongNumber ms i
long_number ms (m, h, t, (ps, s, d), long) =
    let i = message_number ms m h in
    let told = evaluated ms [] d in
    let read : pieces (text_at ms i.0) ≡ ps = ap pieces i.2 ∙ spelled_pieces m.1 ps s in
    let is : is_template (text_at ms i.0) ≡ true = ap is_template i.2 ∙ spelled_template m.1 (ps, s) in
    let full : IsFull ms i.0 = full_from ms i.0 is (λ j k. told.0 j (subst (λ (l : List Piece). IsIn (keys_in ms l) j) read k)) in
    let same : t ≡ key_text ms [] i.0 = told.1 ∙ ap (full_pieces ms []) (sym read) ∙ sym (key_unfolds ms [] i.0 full.0) in
    (i.0, (i.1, full, subst (λ (x : List ℕ). 65536 < length x) same long))

-- what is found above the limit is a key whose text becomes too long
pub long_found : (ms : Messages) (order table : List ℕ) (found : Option ℕ) → ((i : ℕ) → IsIn order i → 65536 < slice_index table i → IsLongNumber ms i)
    → ((i : ℕ) → IsLongNumber ms i → IsIn order i × (65536 < slice_index table i))
    → MatchOption found ((i : ℕ) → IsIn order i → 65536 < slice_index table i → ⊥) (λ i. IsIn order i × (65536 < slice_index table i)) → MatchOption found (HasLongKey ms → ⊥) (IsLongAt ms)
long_found ms order table None there back none = λ h. (let n = long_number ms h in let at = back n.0 n.1 in none n.0 at.0 at.1)
long_found ms order table (Some i) there back is = long_at ms i (there i is.0 is.1)

-- ---- messages that aren't well written

ill_of : (a b : Bool) → (a ≡ false) ⊎ (b ≡ false) → (not a || not b) ≡ true
ill_of false b h = refl
ill_of true false h = refl
ill_of true true (inl e) = absurd (cc)
ill_of true true (inr e) = absurd (cc)

of_ill : (a b : Bool) → (not a || not b) ≡ true → (a ≡ false) ⊎ (b ≡ false)
of_ill false b h = inl refl
of_ill true false h = inr refl
of_ill true true h = absurd (cc)

one_of : (a b : Bool) → (a || b) ≡ true → (a ≡ true) ⊎ (b ≡ true)
one_of true b h = inl refl
one_of false b h = inr h

of_first : (a b : Bool) → a ≡ true → (a || b) ≡ true
of_first true b h = refl
of_first false b h = absurd (cc)

of_second : (a b : Bool) → b ≡ true → (a || b) ≡ true
of_second true b h = refl
of_second false b h = h

pub misspelt_is : (user : Messages) → is_misspelt user ≡ true → IsMisspelt user
misspelt_is [] e = absurd (cc)
misspelt_is (m ∷ user) e = elim (one_of (not (is_template m.1) || not (is_parameter_name m.0)) (is_misspelt user) e) [
  | inl here ↦ (m, inl refl, elim (of_ill (is_template m.1) (is_parameter_name m.0) here) [ inl t ↦ inl (unread m.1 t) | inr n ↦ inr n ])
  | inr more ↦ (let r = misspelt_is user more in (r.0, inr r.1, r.2))
]

ill_spelt : (m : List ℕ × List ℕ) → (IsTemplate m.1 → ⊥) ⊎ (is_parameter_name m.0 ≡ false) → (is_template m.1 ≡ false) ⊎ (is_parameter_name m.0 ≡ false)
ill_spelt m (inr n) = inr n
ill_spelt m (inl t) = go (is_template m.1) refl
  where
    go : (b : Bool) → is_template m.1 ≡ b → (is_template m.1 ≡ false) ⊎ (is_parameter_name m.0 ≡ false)
    go true e = absurd (t (pieces m.1, template_spelled m.1 e))
    go false e = inl e

pub misspelt_of : (user : Messages) → IsMisspelt user → is_misspelt user ≡ true
misspelt_of [] (n, h, ill) = absurd h
misspelt_of (m ∷ user) (n, inl e, ill) =
    let ill' : (IsTemplate m.1 → ⊥) ⊎ (is_parameter_name m.0 ≡ false) = subst (λ (x : List ℕ × List ℕ). (IsTemplate x.1 → ⊥) ⊎ (is_parameter_name x.0 ≡ false)) (sym e) ill in
    of_first (not (is_template m.1) || not (is_parameter_name m.0)) (is_misspelt user) (ill_of (is_template m.1) (is_parameter_name m.0) (ill_spelt m ill'))
misspelt_of (m ∷ user) (n, inr h, ill) =
    of_second (not (is_template m.1) || not (is_parameter_name m.0)) (is_misspelt user) (misspelt_of user (n, h, ill))
