-- The turns of reading: the nodes read so far, and what is left of the text.
use Rattle.std.proofs.Common.{◌≡◌, ℕ, true, false, List, [], ◌∷◌, ◌++◌, Option, Some, None, Result, Ok, Err, refl, sym, ap, ◌∙◌, subst, append_assoc, append-nil, drop}
use Rattle.std.specs.Prelude.{⊤}
use Rattle.std.specs.Option.{MatchOption}
use Rattle.std.specs.Result.{IfOk}
use Rattle.std.specs.List.{list_all}
use Rattle.std.proofs.lemmas.Bool.{and_parts, and_from, both_ways}
use Rattle.std.proofs.lemmas.List.Concat.{flat_map-append}
use Rattle.fv_path.specs.Nodes.{PathNode, is_node, is_field}
use Rattle.fv_path.specs.Paths.{may_stand, is_chain, is_path, IsPath}
use Rattle.fv_path.specs.Texts.{node_text, nodes_text, path_text_of}
use Rattle.fv_path.specs.Reading.{Begins, BeginsWithNone}
use Rattle.fv_path.proofs.Determined.{told_node, determined}
use Rattle.fv_path.proofs.Joined.{closes_nodes, starts, dotted}

-- further nodes whose text is what is left, behind those read so far
pub record Left (path all : List PathNode) (rest : List ℕ) : Type 0 where
  pub more : List PathNode
  pub nodes : all ≡ path ++ more
  pub text : nodes_text more ≡ rest

-- the nodes that were begun, and those read behind them from the text
pub record Read (begun path : List PathNode) (rest text : List ℕ) : Type 0 where
  pub whole : IsPath path
  pub done : List PathNode
  pub nodes : path ≡ begun ++ done
  pub written : nodes_text done ++ rest ≡ text
  pub only : (ms : List PathNode) → IsPath (begun ++ ms) → nodes_text ms ≡ text → Left path (begun ++ ms) rest

pub read_none : (begun : List PathNode) (text : List ℕ) → IsPath begun → Read begun begun text text
read_none begun text path = record {
  whole = path;
  done = [];
  nodes = sym (append-nil begun);
  written = refl;
  only = λ ms all e. record { more = ms; nodes = refl; text = e };
}

sound_back : (xs ys : List PathNode) → list_all is_node (xs ++ ys) ≡ true → list_all is_node ys ≡ true
sound_back [] ys h = h
sound_back (x ∷ xs) ys h = sound_back xs ys (and_parts (is_node x) (list_all is_node (xs ++ ys)) h).1

sound_front : (xs ys : List PathNode) → list_all is_node (xs ++ ys) ≡ true → list_all is_node xs ≡ true
sound_front [] ys h = refl
sound_front (x ∷ xs) ys h =
    let p = and_parts (is_node x) (list_all is_node (xs ++ ys)) h in
    and_from (is_node x) (list_all is_node xs) p.0 (sound_front xs ys p.1)

pub chain_front : (before : Option PathNode) (xs ys : List PathNode) → is_chain before (xs ++ ys) ≡ true → is_chain before xs ≡ true
chain_front before [] ys h = refl
chain_front before (x ∷ xs) ys h =
    let p = and_parts (may_stand before x) (is_chain (Some x) (xs ++ ys)) h in
    and_from (may_stand before x) (is_chain (Some x) xs) p.0 (chain_front (Some x) xs ys p.1)

-- the first nodes of a path are one
path_begins : (xs ys : List PathNode) → IsPath (xs ++ ys) → IsPath xs
path_begins xs ys h =
    let p = and_parts (is_chain None (xs ++ ys)) (list_all is_node (xs ++ ys)) h in
    and_from (is_chain None xs) (list_all is_node xs) (chain_front None xs ys p.0) (sound_front xs ys p.1)

-- what is left begins with the next of the further nodes
pub record Next (path all : List PathNode) (rest : List ℕ) : Type 0 where
  pub node : PathNode
  pub more : List PathNode
  pub nodes : all ≡ path ++ node ∷ more
  pub begins : Begins rest node (nodes_text more)

next_at : (path all ms : List PathNode) (rest : List ℕ) → IsPath all → all ≡ path ++ ms → nodes_text ms ≡ rest → (rest ≡ [] → ⊥) → Next path all rest
next_at path all [] rest whole e text some = absurd (some (sym text))
next_at path all (m ∷ ms) rest whole e text some =
    let sound = (and_parts (is_chain None all) (list_all is_node all) whole).1 in
    let back = sound_back path (m ∷ ms) (ap (list_all is_node) (sym e) ∙ sound) in
    record {
      node = m;
      more = ms;
      nodes = e;
      begins = record { node = (and_parts (is_node m) (list_all is_node ms) back).0; split = sym text; closed = closes_nodes m ms };
    }

pub next : (path all : List PathNode) (rest : List ℕ) → IsPath all → Left path all rest → (rest ≡ [] → ⊥) → Next path all rest
next path all rest whole left some = next_at path all left.more rest whole left.nodes left.text some

-- where no node begins what is left, nothing is a path with that text
pub none_begins : (begun path : List PathNode) (rest text : List ℕ) → Read begun path rest text → (rest ≡ [] → ⊥) → BeginsWithNone (λ _. true) rest
    → (ms : List PathNode) → IsPath (begun ++ ms) → nodes_text ms ≡ text → ⊥
none_begins begun path rest text read some none ms whole e =
    let n = next path (begun ++ ms) rest whole (read.only ms whole e) some in
    none n.node (nodes_text n.more) refl n.begins

-- the node that is read is the next
pub next_is : (path all : List PathNode) (rest after : List ℕ) (n : PathNode) → Begins rest n after → (m : Next path all rest) → (m.node ≡ n) × (nodes_text m.more ≡ after)
next_is path all rest after n b m =
    determined m.node n (nodes_text m.more) after (told_node m.node m.begins.node) (told_node n b.node) m.begins.closed b.closed (sym m.begins.split ∙ b.split)

-- nor where the node that was read can't stand there
pub none_stands : (begun path : List PathNode) (rest text after : List ℕ) (n : PathNode) → Read begun path rest text → (rest ≡ [] → ⊥) → Begins rest n after
    → is_path (path ++ n ∷ []) ≡ false → (ms : List PathNode) → IsPath (begun ++ ms) → nodes_text ms ≡ text → ⊥
none_stands begun path rest text after n read some b bad ms whole e =
    let m = next path (begun ++ ms) rest whole (read.only ms whole e) some in
    let same = next_is path (begun ++ ms) rest after n b m in
    let listed : begun ++ ms ≡ (path ++ n ∷ []) ++ m.more = m.nodes ∙ ap (λ x. path ++ x ∷ m.more) same.0 ∙ sym (append_assoc path (n ∷ []) m.more) in
    both_ways (is_path (path ++ n ∷ [])) bad (path_begins (path ++ n ∷ []) m.more (subst IsPath listed whole))

pub read_more : (begun path : List PathNode) (rest text after : List ℕ) (n : PathNode) → Read begun path rest text → (rest ≡ [] → ⊥) → Begins rest n after
    → is_path (path ++ n ∷ []) ≡ true → Read begun (path ++ n ∷ []) after text
read_more begun path rest text after n read some b good = record {
  whole = good;
  done = read.done ++ n ∷ [];
  nodes = ap (λ ns. ns ++ n ∷ []) read.nodes ∙ append_assoc begun read.done (n ∷ []);
  written = ap (λ l. l ++ after) (flat_map-append node_text read.done (n ∷ []) ∙ ap (λ l. nodes_text read.done ++ l) (append-nil (node_text n)))
      ∙ append_assoc (nodes_text read.done) (node_text n) after ∙ ap (λ l. nodes_text read.done ++ l) (sym b.split) ∙ read.written;
  only = λ ms whole e.
      let m = next path (begun ++ ms) rest whole (read.only ms whole e) some in
      let same = next_is path (begun ++ ms) rest after n b m in
      record {
        more = m.more;
        nodes = m.nodes ∙ ap (λ x. path ++ x ∷ m.more) same.0 ∙ sym (append_assoc path (n ∷ []) m.more);
        text = same.1;
      };
}

-- where nothing is left, the nodes read are those of the text
pub read_all : (begun path : List PathNode) (rest text : List ℕ) → Read begun path rest text → rest ≡ [] → (ms : List PathNode) × (path ≡ begun ++ ms) × (nodes_text ms ≡ text)
read_all begun path rest text read end = (read.done, read.nodes, sym (append-nil (nodes_text read.done)) ∙ ap (λ l. nodes_text read.done ++ l) (sym end) ∙ read.written)

-- ---- the first node

-- the text of a path that has nodes begins with the field that is its first
pub first_begins : (n : PathNode) (ms : List PathNode) (text : List ℕ) → IsPath (n ∷ ms) → path_text_of (n ∷ ms) ≡ text → (is_field n ≡ true) × Begins (46 ∷ text) n (nodes_text ms)
first_begins n ms text path e =
    let s = starts n ms path in
    (s.first, record { node = s.sound; split = ap (λ l. 46 ∷ l) (sym e) ∙ sym (dotted n ms path); closed = closes_nodes n ms })

-- a text that no field begins is of no path, unless it is empty
pub none_first : (text : List ℕ) → (text ≡ [] → ⊥) → BeginsWithNone is_field (46 ∷ text) → (ns : List PathNode) → IsPath ns → path_text_of ns ≡ text → ⊥
none_first text some none [] path e = some (sym e)
none_first text some none (n ∷ ms) path e = let b = first_begins n ms text path e in none n (nodes_text ms) b.0 b.1

-- where the first node is read, and nothing goes on with it as the rest does, the text is of no path
pub none_behind : (text rest : List ℕ) (n : PathNode) → (text ≡ [] → ⊥) → Begins (46 ∷ text) n rest
    → ((ms : List PathNode) → IsPath (n ∷ ms) → nodes_text ms ≡ rest → ⊥) → (ns : List PathNode) → IsPath ns → path_text_of ns ≡ text → ⊥
none_behind text rest n some b none [] path e = some (sym e)
none_behind text rest n some b none (m ∷ ms) path e =
    let c = first_begins m ms text path e in
    let same = determined m n (nodes_text ms) rest (told_node m c.1.node) (told_node n b.node) c.1.closed b.closed (sym c.1.split ∙ b.split) in
    none ms (subst (λ x. IsPath (x ∷ ms)) same.0 path) same.1

-- a path of the first node and of those that the rest reads as has the text
pub text_whole : (text rest : List ℕ) (n : PathNode) (ms ns : List PathNode) → Begins (46 ∷ text) n rest → ns ≡ n ∷ ms → nodes_text ms ≡ rest → path_text_of ns ≡ text
text_whole text rest n ms ns b all e = ap path_text_of all ∙ ap (drop 1) (ap (λ l. node_text n ++ l) e ∙ sym b.split)

-- what is read behind the first node is what the whole text reads as
pub read_whole : {E : Type 0} (text rest : List ℕ) (n : PathNode) (begun : List PathNode) (r : Result (Option (List PathNode)) E) → (text ≡ [] → ⊥) → Begins (46 ∷ text) n rest → begun ≡ n ∷ []
    → IfOk r (λ o. MatchOption o ⊤ IsPath)
    → IfOk r (λ o. MatchOption o ((ms : List PathNode) → IsPath (begun ++ ms) → nodes_text ms ≡ rest → ⊥) (λ p. (ms : List PathNode) × (p ≡ begun ++ ms) × (nodes_text ms ≡ rest)))
    → IfOk r (λ o. MatchOption o ((ns : List PathNode) → IsPath ns → path_text_of ns ≡ text → ⊥) (λ p. IsPath p × (path_text_of p ≡ text)))
read_whole text rest n begun (Err e) some b is path clause = tt
read_whole text rest n begun (Ok None) some b is path clause =
    none_behind text rest n some b (λ ms whole e. clause ms (subst (λ ns. IsPath (ns ++ ms)) (sym is) whole) e)
read_whole text rest n begun (Ok (Some p)) some b is path clause =
    (path, text_whole text rest n clause.0 p b (clause.1 ∙ ap (λ ns. ns ++ clause.0) is) clause.2)
