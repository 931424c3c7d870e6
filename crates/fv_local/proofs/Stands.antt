-- Where the nodes of a part may stand.
use Rattle.std.proofs.Common.{◌≡◌, ℕ, ◌+◌, ◌<◌, map, drop, get_or, add-one, drop-cons, length-drop, subst, ap₂, ◌^◌, nat_lt, length, arith, Bool, false, true, List, [], ◌∷◌, ◌++◌, Option, Some, None, Result, Ok, Err, OnOk, OnErr, refl, sym, ap, ◌∙◌, append_assoc}
use Rattle.fv_path.specs.Nodes.{PathNode, field, index, key, list_element, map_key, map_value, is_node}
use Rattle.fv_path.specs.Paths.{takes_place, may_follow, may_stand, is_path, IsPath}
use Rattle.fv_path.proofs.Chains.{last_of, path_push, path_front}
use Rattle.std.proofs.lemmas.Bool.{and_parts, and_from, false≢true}
use Rattle.std.proofs.lemmas.List.{length-map}
use Rattle.fv_extract.specs.Views.{part_view, step_view}
use Rattle.fv_extract.specs.declared.place.Part.{Part as CodePart}
use Rattle.fv_extract.specs.declared.place.Step.{Step as CodeStep}
use Rattle.fv_extract.specs.declared.place.Step.TheVariants as step
use Rattle.fv_extract.specs.Parts.{LocusPart, at_index, at_key, Locus}
use Rattle.fv_extract.specs.Places as to
use Rattle.fv_local.specs.Loci.{leads}
use Rattle.fv_local.specs.Paths.{nodes_of}

last_pushed : (before : Option PathNode) (ns : List PathNode) (n : PathNode) → last_of before (ns ++ n ∷ []) ≡ Some n
last_pushed before [] n = refl
last_pushed before (m ∷ ms) n = last_pushed (Some m) ms n

-- an index or a key may stand behind nodes
abbrev pub IsOpen : List PathNode → Type 0
IsOpen ns = IsPath (ns ++ index 0 ∷ [])

pub path_open : (ns : List PathNode) → IsOpen ns → IsPath ns
path_open ns h = path_front ns (index 0) h

-- a node stands where an index may, which it may stand in the place of
stands : (ns : List PathNode) (n : PathNode) → IsOpen ns → is_node n ≡ true → ((o : Option PathNode) → may_stand o n ≡ may_stand o (index 0)) → IsPath (ns ++ n ∷ [])
stands ns n h sound same = path_push ns n (path_open ns h) sound ∙ same (last_of None ns) ∙ sym (path_push ns (index 0) (path_open ns h) refl) ∙ h

follows : (ns : List PathNode) (n m : PathNode) → IsPath (ns ++ n ∷ []) → is_node m ≡ true → may_follow n m ≡ true → IsPath ((ns ++ n ∷ []) ++ m ∷ [])
follows ns n m h sound may = path_push (ns ++ n ∷ []) m h sound ∙ ap (λ o. may_stand o m) (last_pushed None ns n) ∙ may

-- what a push leaves, of which it is told what stands there where it could be made and where not
pub pushed : {A E : Type 0} (r : Result A E) (ns ms : List PathNode) (n : PathNode) → IsPath (ns ++ n ∷ []) → OnOk r (ms ≡ ns ++ n ∷ []) → OnErr r (ms ≡ ns) → IsPath ms
pushed (Ok x) ns ms n path ok err = subst IsPath (sym ok) path
pushed (Err e) ns ms n path ok err = subst IsPath (sym err) (path_front ns n path)

-- an index or a key may stand behind a field
pub field_open : (ns : List PathNode) (name : List ℕ) → IsPath (ns ++ field name ∷ []) → IsOpen (ns ++ field name ∷ [])
field_open ns name h = follows ns (field name) (index 0) h refl refl

-- the nodes of an index or a key and of what it names
pub pair_stands : (ns : List PathNode) (n m : PathNode) → IsOpen ns → is_node n ≡ true → ((o : Option PathNode) → may_stand o n ≡ may_stand o (index 0))
    → is_node m ≡ true → may_follow n m ≡ true → IsPath (ns ++ n ∷ m ∷ [])
pair_stands ns n m h sound same part may = ap is_path (sym (append_assoc ns (n ∷ []) (m ∷ []))) ∙ follows ns n m (stands ns n h sound same) part may

-- an index or a key may stand behind them again, unless they name a key
pub pair_open : (ns : List PathNode) (n m : PathNode) → IsPath (ns ++ n ∷ m ∷ []) → takes_place m ≡ true → IsOpen (ns ++ n ∷ m ∷ [])
pair_open ns n m h takes =
    let whole : IsPath ((ns ++ n ∷ []) ++ m ∷ []) = ap is_path (append_assoc ns (n ∷ []) (m ∷ [])) ∙ h in
    ap (λ l. is_path (l ++ index 0 ∷ [])) (sym (append_assoc ns (n ∷ []) (m ∷ []))) ∙ follows (ns ++ n ∷ []) m (index 0) whole refl takes

-- ---- a step

-- the step is one to a content
abbrev pub is_content : to.PlaceStep → Bool
is_content to.content = true
is_content _ = false

-- what the nodes of a step are to those of all
pub record Turn (step : to.PlaceStep) (steps : List to.PlaceStep) (part : LocusPart) (l : Locus) (ns : List PathNode) : Type 0 where
  pub here : leads (step ∷ []) (part ∷ []) ≡ true
  pub later : leads steps l ≡ true
  pub nodes : nodes_of (step ∷ steps) (part ∷ l) ≡ nodes_of (step ∷ []) (part ∷ []) ++ nodes_of steps l
  pub opened : 0 < length steps → IsPath (ns ++ nodes_of (step ∷ []) (part ∷ [])) → IsOpen (ns ++ nodes_of (step ∷ []) (part ∷ []))

pub turn : (step : to.PlaceStep) (steps : List to.PlaceStep) (part : LocusPart) (l : Locus) (ns : List PathNode) → is_content step ≡ false → leads (step ∷ steps) (part ∷ l) ≡ true → Turn step steps part l ns
turn to.element steps (at_index i) l ns plain led =
    let parts = and_parts (nat_lt i (2 ^ 32)) (leads steps l) led in
    record {
      here = and_from (nat_lt i (2 ^ 32)) true parts.0 refl;
      later = parts.1;
      nodes = refl;
      opened = λ some path. pair_open ns (index i) list_element path refl;
    }
turn to.key [] (at_key k) [] ns plain led = record { here = refl; later = refl; nodes = refl; opened = λ some path. absurd (omega arith) }
turn to.value steps (at_key k) l ns plain led = record { here = refl; later = led; nodes = refl; opened = λ some path. pair_open ns (key k) map_value path refl }
turn to.content steps part l ns plain led = cc
turn _ _ _ _ ns plain led = absurd (false≢true led)

-- no step to another part than a content leads to the empty locus
pub none_led : (step : to.PlaceStep) (steps : List to.PlaceStep) → is_content step ≡ false → leads (step ∷ steps) [] ≡ true → ⊥
none_led to.element steps plain led = false≢true led
none_led to.key [] plain led = false≢true led
none_led to.key (s ∷ steps) plain led = false≢true led
none_led to.value steps plain led = false≢true led
none_led to.content steps plain led = false≢true (sym plain)

pub index_pair : (ns : List PathNode) (i : ℕ) → IsOpen ns → leads (to.element ∷ []) (at_index i ∷ []) ≡ true → IsPath (ns ++ index i ∷ list_element ∷ [])
index_pair ns i h small = pair_stands ns (index i) list_element h (and_parts (nat_lt i (2 ^ 32)) true small).0 (λ o. same o) refl refl
  where
    same : (o : Option PathNode) → may_stand o (index i) ≡ may_stand o (index 0)
    same None = refl
    same (Some n) = refl

key_same : (k : List ℕ) (o : Option PathNode) → may_stand o (key k) ≡ may_stand o (index 0)
key_same k None = refl
key_same k (Some n) = refl

pub key_pair : (ns : List PathNode) (k : List ℕ) → IsOpen ns → is_node (key k) ≡ true → IsPath (ns ++ key k ∷ map_key ∷ [])
key_pair ns k h sound = pair_stands ns (key k) map_key h sound (key_same k) refl refl

pub value_pair : (ns : List PathNode) (k : List ℕ) → IsOpen ns → is_node (key k) ≡ true → IsPath (ns ++ key k ∷ map_value ∷ [])
value_pair ns k h sound = pair_stands ns (key k) map_value h sound (key_same k) refl refl

-- ---- the turns of the loop over the steps

plain_step : (s : CodeStep) → (s ≡ step.Content → ⊥) → is_content (step_view s) ≡ false
plain_step step.Element differs = refl
plain_step step.Key differs = refl
plain_step step.Value differs = refl
plain_step step.Content differs = absurd (differs refl)

-- the nodes up to a step and its part, and those that are still to come
pub record Standing (steps : List to.PlaceStep) (l : Locus) (ns all : List PathNode) : Type 0 where
  pub led : leads steps l ≡ true
  pub nodes : ns ++ nodes_of steps l ≡ all
  pub room : 0 < length steps → IsOpen ns

pub turned : (step : to.PlaceStep) (steps : List to.PlaceStep) (part : LocusPart) (l : Locus) (ns more all : List PathNode) → is_content step ≡ false → leads (step ∷ steps) (part ∷ l) ≡ true
    → ns ++ nodes_of (step ∷ steps) (part ∷ l) ≡ all → more ≡ ns ++ nodes_of (step ∷ []) (part ∷ []) → IsPath more → Standing steps l more all
turned step steps part l ns more all plain led nodes is path =
    let t = turn step steps part l ns plain led in
    record {
      led = t.later;
      nodes = ap (λ (ms : List PathNode). ms ++ nodes_of steps l) is ∙ append_assoc ns (nodes_of (step ∷ []) (part ∷ [])) (nodes_of steps l)
          ∙ ap (λ (ms : List PathNode). ns ++ ms) (sym t.nodes) ∙ nodes;
      room = λ some. subst IsOpen (sym is) (t.opened some (subst IsPath is path));
    }

module _ (xs : List CodeStep) (ys : List CodePart) where
  step_first : (i : ℕ) (d : CodeStep) → i < length xs → map step_view (drop i xs) ≡ step_view (get_or xs i d) ∷ map step_view (drop (i + 1) xs)
  step_first i d within = rw (add-one, drop-cons xs i d within) refl

  part_first : (j : ℕ) (p : CodePart) → j < length ys → p ≡ get_or ys j p → map part_view (drop j ys) ≡ part_view p ∷ map part_view (drop (j + 1) ys)
  part_first j p within is = rw (add-one, drop-cons ys j p within, ← is) refl

  -- a step to another part than a content goes on with the next of the locus
  pub step_turns : (i j : ℕ) (d : CodeStep) (p : CodePart) (ns more all : List PathNode) → i < length xs → (get_or xs i d ≡ step.Content → ⊥) → j < length ys → p ≡ get_or ys j p
      → leads (map step_view (drop i xs)) (map part_view (drop j ys)) ≡ true → ns ++ nodes_of (map step_view (drop i xs)) (map part_view (drop j ys)) ≡ all
      → more ≡ ns ++ nodes_of (step_view (get_or xs i d) ∷ []) (part_view p ∷ []) → IsPath more
      → Standing (map step_view (drop (i + 1) xs)) (map part_view (drop (j + 1) ys)) more all
  step_turns i j d p ns more all within plain inside is led nodes made path =
      let s = step_first i d within in
      let q = part_first j p inside is in
      turned (step_view (get_or xs i d)) (map step_view (drop (i + 1) xs)) (part_view p) (map part_view (drop (j + 1) ys)) ns more all (plain_step (get_or xs i d) plain)
      (sym (ap₂ leads s q) ∙ led) (ap (λ (ms : List PathNode). ns ++ ms) (sym (ap₂ nodes_of s q)) ∙ nodes) made path

  pub steps_left : (i : ℕ) → i + 1 < length xs → 0 < length (map step_view (drop (i + 1) xs))
  steps_left i h = omega (arith, length-map (drop (i + 1) xs) step_view, length-drop (i + 1) xs)
