-- A locus has nodes of its own, so that no two parts of a field's datum have the same.
use Rattle.std.proofs.Common.{◌≡◌, ◌≢◌, ◌^◌, List, [], ◌∷◌, true, nat_lt, refl, sym, ap, ◌∙◌}
use Rattle.std.proofs.lemmas.Bool.{and_parts}
use Rattle.std.specs.List.{AllByRecursion}
use Rattle.fv_datum.specs.Data.{Data}
use Rattle.fv_extract.specs.Parts.{at_index, at_key, Locus, parts_of}
use Rattle.fv_extract.specs.Places as to
use Rattle.fv_extract.proofs.Loci.{parts_differ}
use Rattle.fv_extract.specs.Pairs.{Pairwise, Differ}
use Rattle.fv_bundle.specs.Writing.{IsWritten}
use Rattle.fv_path.specs.Nodes.{PathNode, index, key}
use Rattle.fv_local.specs.Loci.{leads, IsIndexed}
use Rattle.fv_local.specs.Paths.{nodes_of}
use Rattle.fv_local.proofs.Leading.{IsLedTo, parts_led}

-- the locus that nodes are of
abbrev locus_of : List PathNode → Locus
locus_of (index i ∷ part ∷ ns) = at_index i ∷ locus_of ns
locus_of (key k ∷ part ∷ ns) = at_key k ∷ locus_of ns
locus_of _ = []

locus_back : (steps : List to.PlaceStep) (l : Locus) → leads steps l ≡ true → locus_of (nodes_of steps l) ≡ l
locus_back [] [] h = refl
locus_back (to.element ∷ steps) (at_index i ∷ l) h = ap (λ m. at_index i ∷ m) (locus_back steps l (and_parts (nat_lt i (2 ^ 32)) (leads steps l) h).1)
locus_back (to.key ∷ []) (at_key k ∷ []) h = refl
locus_back (to.value ∷ steps) (at_key k ∷ l) h = ap (λ m. at_key k ∷ m) (locus_back steps l h)
locus_back (to.content ∷ steps) l h = locus_back steps l h
locus_back _ _ h = cc

-- two loci that the steps lead to have two lists of nodes
pub locus_same : (steps : List to.PlaceStep) (l m : Locus) → leads steps l ≡ true → leads steps m ≡ true → nodes_of steps l ≡ nodes_of steps m → l ≡ m
locus_same steps l m one two e = sym (locus_back steps l one) ∙ ap locus_of e ∙ locus_back steps m two

-- the nodes are two
abbrev pub NodesDiffer : List to.PlaceStep → Locus × Data → Locus × Data → Type 0
NodesDiffer steps p q = nodes_of steps p.0 ≢ nodes_of steps q.0

module _ (steps : List to.PlaceStep) where
  nodes_after : (p : Locus × Data) (ps : List (Locus × Data)) → IsLedTo steps p → AllByRecursion (IsLedTo steps) ps → AllByRecursion (Differ p) ps → AllByRecursion (NodesDiffer steps p) ps
  nodes_after p [] one led differ = tt
  nodes_after p (q ∷ qs) one led differ = (λ e. differ.0 (locus_same steps p.0 q.0 one led.0 e), nodes_after p qs one led.1 differ.1)

  nodes_differ : (ps : List (Locus × Data)) → AllByRecursion (IsLedTo steps) ps → Pairwise Differ ps → Pairwise (NodesDiffer steps) ps
  nodes_differ [] led differ = tt
  nodes_differ (p ∷ ps) led differ = (nodes_after p ps led.0 led.1 differ.0, nodes_differ ps led.1 differ.1)

  -- no two parts of a field's datum have the same nodes
  pub parts_nodes_differ : (d : Data) → IsWritten d → IsIndexed d → Pairwise (NodesDiffer steps) (parts_of steps d)
  parts_nodes_differ d can small = nodes_differ (parts_of steps d) (parts_led steps d can small) (parts_differ steps d can)
