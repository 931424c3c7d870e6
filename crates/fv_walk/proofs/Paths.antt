-- Paths that a walk makes: behind each step a field may follow.
use Rattle.std.proofs.Common.{◌≡◌, ◌⊎◌, inl, inr, ℕ, List, [], ◌∷◌, ◌++◌, Bool, true, cond, nat_lt, ◌^◌, Option, Some, None, refl, sym, ap, ◌∙◌, subst, append_assoc}
use Rattle.std.proofs.lemmas.Bool.{and_parts, false≢true}
use Rattle.fv_extract.specs.Parts.{LocusPart, Locus, at_index, at_key}
use Rattle.fv_extract.specs.Places.{PlaceStep, element, key as key_step, value, content}
use Rattle.fv_path.specs.Nodes.{PathNode, field, index, key, list_element, map_key, map_value, is_part}
use Rattle.fv_path.specs.Paths.{takes_field, may_stand, IsPath}
use Rattle.fv_path.proofs.Chains.{last_of, path_push}
use Rattle.fv_local.specs.Loci.{leads}
use Rattle.fv_local.specs.Paths.{nodes_of}
use Rattle.fv_walk_traces.specs.Violations.{but_named}
use Rattle.fv_walk.specs.Paths.{TakesField}

-- the nodes behind a field: none, or the last two are an index or a key and the part that it leads to
abbrev pub IsSegment : Locus → List PathNode → Type 0
IsSegment l ns =
    ((l ≡ []) × (ns ≡ []))
    ⊎ ((x : LocusPart) × (rest : Locus) × (before : List PathNode) × (place : PathNode) × (named : PathNode)
    × (l ≡ x ∷ rest) × (ns ≡ before ++ place ∷ named ∷ []) × (takes_field place ≡ true) × (is_part named ≡ true))

longer : (x : LocusPart) (l : Locus) (place named : PathNode) (ns : List PathNode) → takes_field place ≡ true → is_part named ≡ true → IsSegment l ns → IsSegment (x ∷ l) (place ∷ named ∷ ns)
longer x l place named ns takes part (inl none) = inr (x, l, [], place, named, refl, ap (λ (m : List PathNode). place ∷ named ∷ m) none.1, takes, part)
longer x l place named ns takes part (inr k) = inr (x, l, place ∷ named ∷ k.2, k.3, k.4, refl, ap (λ (m : List PathNode). place ∷ named ∷ m) k.6, k.7, k.8)

pub segment : (steps : List PlaceStep) (l : Locus) → leads steps l ≡ true → IsSegment l (nodes_of steps l)
segment [] [] e = inl (refl, refl)
segment [] (x ∷ l) e = absurd (false≢true e)
segment (element ∷ steps) [] e = absurd (false≢true e)
segment (element ∷ steps) (at_index i ∷ l) e = longer (at_index i) l (index i) list_element (nodes_of steps l) refl refl (segment steps l (and_parts (nat_lt i (2 ^ 32)) (leads steps l) e).1)
segment (element ∷ steps) (at_key k ∷ l) e = absurd (false≢true e)
segment (key_step ∷ []) [] e = absurd (false≢true e)
segment (key_step ∷ []) (at_index i ∷ l) e = absurd (false≢true e)
segment (key_step ∷ []) (at_key k ∷ []) e = longer (at_key k) [] (key k) map_key [] refl refl (inl (refl, refl))
segment (key_step ∷ []) (at_key k ∷ x ∷ l) e = absurd (false≢true e)
segment (key_step ∷ s ∷ steps) [] e = absurd (false≢true e)
segment (key_step ∷ s ∷ steps) (at_index i ∷ l) e = absurd (false≢true e)
segment (key_step ∷ s ∷ steps) (at_key k ∷ l) e = absurd (false≢true e)
segment (value ∷ steps) [] e = absurd (false≢true e)
segment (value ∷ steps) (at_index i ∷ l) e = absurd (false≢true e)
segment (value ∷ steps) (at_key k ∷ l) e = longer (at_key k) l (key k) map_value (nodes_of steps l) refl refl (segment steps l e)
segment (content ∷ steps) l e = segment steps l e

but_last : (x : PathNode) (before : List PathNode) (place named : PathNode) → is_part named ≡ true → but_named (x ∷ before ++ place ∷ named ∷ []) ≡ x ∷ before ++ place ∷ []
but_last x [] place named part = ap (λ (b : Bool). x ∷ place ∷ cond b [] (named ∷ [])) part
but_last x (n ∷ before) place named part = ap (λ (l : List PathNode). x ∷ l) (but_last n before place named part)

last_is : (o : Option PathNode) (ns : List PathNode) (n : PathNode) → last_of o (ns ++ n ∷ []) ≡ Some n
last_is o [] n = refl
last_is o (m ∷ ns) n = last_is (Some m) ns n

field_after : (ns : List PathNode) (n : PathNode) → IsPath (ns ++ n ∷ []) → takes_field n ≡ true → TakesField (ns ++ n ∷ [])
field_after ns n path takes name named =
    path_push (ns ++ n ∷ []) (field name) path named
    ∙ ap (λ (o : Option PathNode). may_stand o (field name)) (last_is None ns n)
    ∙ takes

-- the first field of a path
pub field_first : (ns : List PathNode) → ns ≡ [] → TakesField ns
field_first ns none name named = subst (λ (l : List PathNode). IsPath (l ++ field name ∷ [])) (sym none) (rw named refl)

no_snoc : (ns : List PathNode) (n : PathNode) → ns ++ n ∷ [] ≡ [] → ⊥
no_snoc [] n e = cc
no_snoc (m ∷ ns) n e = cc

unsnoc : (xs ys : List PathNode) (x y : PathNode) → xs ++ x ∷ [] ≡ ys ++ y ∷ [] → xs ≡ ys
unsnoc [] [] x y e = refl
unsnoc [] (z ∷ ys) x y e = let rest : [] ≡ ys ++ y ∷ [] = cc (e) in absurd (no_snoc ys y (sym rest))
unsnoc (z ∷ xs) [] x y e = let rest : xs ++ x ∷ [] ≡ [] = cc (e) in absurd (no_snoc xs x rest)
unsnoc (z ∷ xs) (w ∷ ys) x y e =
    let first : z ≡ w = cc (e) in
    let rest : xs ++ x ∷ [] ≡ ys ++ y ∷ [] = cc (e) in
    ap (λ (v : PathNode). v ∷ xs) first ∙ ap (λ (l : List PathNode). w ∷ l) (unsnoc xs ys x y rest)

module _ (old whole : List PathNode) (name : List ℕ) (steps : List PlaceStep) (l : Locus) (led : leads steps l ≡ true) (pushed : whole ≡ old ++ field name ∷ nodes_of steps l) (path : IsPath whole) where
  -- without a locus the segment is the field alone
  pub field_alone : l ≡ [] → (whole ≡ old ++ but_named (field name ∷ nodes_of steps l)) × TakesField whole
  field_alone none = go (segment steps l led)
    where
      go : IsSegment l (nodes_of steps l) → (whole ≡ old ++ but_named (field name ∷ nodes_of steps l)) × TakesField whole
      go (inr k) = let clash : k.0 ∷ k.1 ≡ [] = sym k.5 ∙ none in cc
      go (inl k) =
          let is : whole ≡ old ++ field name ∷ [] = pushed ∙ ap (λ (ns : List PathNode). old ++ field name ∷ ns) k.1 in (
            is ∙ ap (λ (ns : List PathNode). old ++ but_named (field name ∷ ns)) (sym k.1),
            subst TakesField (sym is) (field_after old (field name) (subst IsPath is path) refl),
          )

  -- else its last node goes
  pub last_dropped : (x : LocusPart) (rest : Locus) → l ≡ x ∷ rest → (new : List PathNode) (n : PathNode) → whole ≡ new ++ n ∷ [] → IsPath new → (new ≡ old ++ but_named (field name ∷ nodes_of steps l)) × TakesField new
  last_dropped x rest some new n popped kept = go (segment steps l led)
    where
      go : IsSegment l (nodes_of steps l) → (new ≡ old ++ but_named (field name ∷ nodes_of steps l)) × TakesField new
      go (inl k) = let clash : x ∷ rest ≡ [] = sym some ∙ k.0 in cc
      go (inr k) =
          let before = k.2 in
          let place = k.3 in
          let named = k.4 in
          let ends = field name ∷ (before ++ place ∷ []) in
          let front = old ++ ends in
          let apart_named : before ++ place ∷ named ∷ [] ≡ (before ++ place ∷ []) ++ named ∷ [] = sym (append_assoc before (place ∷ []) (named ∷ [])) in
          let whole_is : whole ≡ front ++ named ∷ [] =
          pushed ∙ ap (λ (ns : List PathNode). old ++ (field name ∷ ns)) (k.6 ∙ apart_named)
          ∙ sym (append_assoc old ends (named ∷ [])) in
          let new_is : new ≡ front = unsnoc new front n named (sym popped ∙ whole_is) in
          let told : old ++ but_named (field name ∷ nodes_of steps l) ≡ front = ap (λ (ns : List PathNode). old ++ but_named (field name ∷ ns)) k.6 ∙ ap (λ (ns : List PathNode). old ++ ns) (but_last (field name) before place named k.8) in
          let apart : front ≡ (old ++ field name ∷ before) ++ place ∷ [] = sym (append_assoc old (field name ∷ before) (place ∷ [])) in (
            new_is ∙ sym told,
            subst TakesField (sym (new_is ∙ apart)) (field_after (old ++ field name ∷ before) place (subst IsPath (new_is ∙ apart) kept) k.7),
          )
