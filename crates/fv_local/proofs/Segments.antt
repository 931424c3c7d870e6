-- A path falls into segments: a field, and the nodes of a part of its datum.
use Rattle.std.proofs.Common.{◌≡◌, ℕ, ◌^◌, List, [], ◌∷◌, ◌++◌, Bool, true, false, cond, nat_lt, refl, sym, ap, ◌∙◌}
use Rattle.std.proofs.lemmas.Bool.{and_parts}
use Rattle.std.specs.List.{AllByRecursion}
use Rattle.fv_extract.specs.Parts.{at_index, at_key, Locus}
use Rattle.fv_extract.specs.Places as to
use Rattle.fv_path.specs.Nodes.{PathNode, field, index, key, list_element, map_key, map_value, is_field, is_part}
use Rattle.fv_local.specs.Loci.{leads}
use Rattle.fv_local.specs.Paths.{nodes_of}
use Rattle.fv_walk_traces.specs.Violations.{but_named}

-- ---- where a segment ends

-- the nodes in front of the first field
abbrev before_field : List PathNode → List PathNode
before_field [] = []
before_field (n ∷ ns) = cond (is_field n) [] (n ∷ before_field ns)

-- the nodes from there on
abbrev from_field : List PathNode → List PathNode
from_field [] = []
from_field (n ∷ ns) = cond (is_field n) (n ∷ ns) (from_field ns)

-- none of the nodes is a field
abbrev pub HaveNoField : List PathNode → Type 0
HaveNoField ns = AllByRecursion (λ n. is_field n ≡ false) ns

-- no nodes, or a field first
abbrev pub IsHeaded : List PathNode → Type 0
IsHeaded [] = Unit {0}
IsHeaded (n ∷ ns) = is_field n ≡ true

before_head : (ns : List PathNode) → IsHeaded ns → before_field ns ≡ []
before_head [] headed = refl
before_head (n ∷ ns) headed = rw headed refl

from_head : (ns : List PathNode) → IsHeaded ns → from_field ns ≡ ns
from_head [] headed = refl
from_head (n ∷ ns) headed = rw headed refl

before_is : (ns rest : List PathNode) → HaveNoField ns → IsHeaded rest → before_field (ns ++ rest) ≡ ns
before_is [] rest none headed = before_head rest headed
before_is (n ∷ ns) rest none headed =
    ap (λ (b : Bool). cond b [] (n ∷ before_field (ns ++ rest))) none.0 ∙ ap (λ l. n ∷ l) (before_is ns rest none.1 headed)

from_is : (ns rest : List PathNode) → HaveNoField ns → IsHeaded rest → from_field (ns ++ rest) ≡ rest
from_is [] rest none headed = from_head rest headed
from_is (n ∷ ns) rest none headed =
    ap (λ (b : Bool). cond b (n ∷ ns ++ rest) (from_field (ns ++ rest))) none.0 ∙ from_is ns rest none.1 headed

-- nodes without fields in front of a field, or of nothing, are told by the whole, and so is what follows
pub segments_same : (ns ms rest other : List PathNode) → HaveNoField ns → HaveNoField ms → IsHeaded rest → IsHeaded other → ns ++ rest ≡ ms ++ other → (ns ≡ ms) × (rest ≡ other)
segments_same ns ms rest other none no_more headed so e = (
  sym (before_is ns rest none headed) ∙ ap before_field e ∙ before_is ms other no_more so,
  sym (from_is ns rest none headed) ∙ ap from_field e ∙ from_is ms other no_more so,
)

-- ---- the nodes of a part

-- none of them is a field
pub none_of_part : (steps : List to.PlaceStep) (l : Locus) → leads steps l ≡ true → HaveNoField (nodes_of steps l)
none_of_part [] [] h = tt
none_of_part (to.element ∷ steps) (at_index i ∷ l) h = (refl, (refl, none_of_part steps l (and_parts (nat_lt i (2 ^ 32)) (leads steps l) h).1))
none_of_part (to.key ∷ []) (at_key k ∷ []) h = (refl, (refl, tt))
none_of_part (to.value ∷ steps) (at_key k ∷ l) h = (refl, (refl, none_of_part steps l h))
none_of_part (to.content ∷ steps) l h = none_of_part steps l h
none_of_part _ _ h = cc

none_but_named : (ns : List PathNode) → HaveNoField ns → HaveNoField (but_named ns)
none_but_named [] none = tt
none_but_named (n ∷ []) none = go (is_part n)
  where
    go : (b : Bool) → HaveNoField (cond b [] (n ∷ []))
    go true = tt
    go false = none
none_but_named (n ∷ m ∷ ns) none = (none.0, none_but_named (m ∷ ns) none.1)

-- nor of those but the last
pub none_of_named : (steps : List to.PlaceStep) (l : Locus) → leads steps l ≡ true → HaveNoField (but_named (nodes_of steps l))
none_of_named steps l h = none_but_named (nodes_of steps l) (none_of_part steps l h)

-- the field in front of them stays
pub field_stays : (name : List ℕ) (ns : List PathNode) → but_named (field name ∷ ns) ≡ field name ∷ but_named ns
field_stays name [] = refl
field_stays name (n ∷ ns) = refl

-- ---- the locus that nodes are of, with or without the last that only names a part

-- what a node adds to the locus
abbrev adds : PathNode → Locus
adds (index i) = at_index i ∷ []
adds (key k) = at_key k ∷ []
adds _ = []

abbrev locus_of : List PathNode → Locus
locus_of [] = []
locus_of (n ∷ ns) = adds n ++ locus_of ns

last_adds : (n : PathNode) → locus_of (cond (is_part n) [] (n ∷ [])) ≡ adds n ++ []
last_adds (field name) = refl
last_adds (index i) = refl
last_adds (key k) = refl
last_adds list_element = refl
last_adds map_key = refl
last_adds map_value = refl

locus_stays : (ns : List PathNode) → locus_of (but_named ns) ≡ locus_of ns
locus_stays [] = refl
locus_stays (n ∷ []) = last_adds n
locus_stays (n ∷ m ∷ ns) = ap (λ (l : Locus). adds n ++ l) (locus_stays (m ∷ ns))

locus_back : (steps : List to.PlaceStep) (l : Locus) → leads steps l ≡ true → locus_of (nodes_of steps l) ≡ l
locus_back [] [] h = refl
locus_back (to.element ∷ steps) (at_index i ∷ l) h = ap (λ m. at_index i ∷ m) (locus_back steps l (and_parts (nat_lt i (2 ^ 32)) (leads steps l) h).1)
locus_back (to.key ∷ []) (at_key k ∷ []) h = refl
locus_back (to.value ∷ steps) (at_key k ∷ l) h = ap (λ m. at_key k ∷ m) (locus_back steps l h)
locus_back (to.content ∷ steps) l h = locus_back steps l h
locus_back _ _ h = cc

-- two loci that the steps lead to have two lists of nodes, also without the last that only names a part
pub named_locus_same : (steps : List to.PlaceStep) (l m : Locus) → leads steps l ≡ true → leads steps m ≡ true → but_named (nodes_of steps l) ≡ but_named (nodes_of steps m) → l ≡ m
named_locus_same steps l m one two e = sym (back l one) ∙ ap locus_of e ∙ back m two
  where
    back : (l : Locus) → leads steps l ≡ true → locus_of (but_named (nodes_of steps l)) ≡ l
    back l h = locus_stays (nodes_of steps l) ∙ locus_back steps l h
