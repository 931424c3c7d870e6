-- Cycles of keys, told by names and by numbers.
use Rattle.std.proofs.Common.{◌≡◌, ℕ, zero, suc, List, [], ◌∷◌, Bool, true, false, cond, Option, Some, None, option_map, bytes_eq, inl, inr, refl, sym, ap, subst, ◌∙◌, arith}
use Rattle.std.specs.List.{cons_option}
use Rattle.std.proofs.lemmas.Slice.Eq.{bytes_eq-Decides}
use Rattle.fv_datum.specs.Attributes.{Attributes}
use Rattle.fv_graph.specs.Graph.{IsIn, IsCyclic}
use Rattle.fv_graph.specs.Graph as graph
use Rattle.fv_message.specs.Template.{Piece, plain, parameter, SpellsPieces}
use Rattle.fv_message.specs.Reading.{pieces, is_template}
use Rattle.fv_message.specs.Table.{Messages}
use Rattle.fv_message.specs.Numbers.{number_of, text_at, keys_in, next_keys, AreReadable}
use Rattle.fv_message.specs.Full.{IsTextOf}
use Rattle.fv_message.specs.Evaluated.{full_text}
use Rattle.fv_message.specs.Judged.{HasParameter, LeadsAmong, IsCircular}
use Rattle.fv_message.proofs.Becoming.{template_spelled, spelled_pieces, named_text, text_named, text_of}
use Rattle.fv_message.proofs.Cycles.{unread_pieces}

-- one number is one name's
number_same : (ms : Messages) (x y : List ℕ) (i : ℕ) → number_of ms x ≡ Some i → number_of ms y ≡ Some i → x ≡ y
number_same [] x y i e f = absurd (cc)
number_same (m ∷ ms) x y i e f = go (bytes_eq x m.0) (bytes_eq y m.0) refl refl (number_of ms x) (number_of ms y) (number_same ms x y) e f
  where
    go : (a b : Bool) → bytes_eq x m.0 ≡ a → bytes_eq y m.0 ≡ b → (o p : Option ℕ) → ((k : ℕ) → o ≡ Some k → p ≡ Some k → x ≡ y)
        → cond a (Some 0) (option_map suc o) ≡ Some i → cond b (Some 0) (option_map suc p) ≡ Some i → x ≡ y
    go true true d g o p ih e f = (bytes_eq-Decides x m.0).0 d ∙ sym ((bytes_eq-Decides y m.0).0 g)
    go true false d g o None ih e f = absurd (cc)
    go true false d g o (Some k) ih e f =
        let z : 0 ≡ i = cc in
        let s : suc k ≡ i = cc in
        absurd (omega (arith, z, s))
    go false true d g None p ih e f = absurd (cc)
    go false true d g (Some k) p ih e f =
        let z : 0 ≡ i = cc in
        let s : suc k ≡ i = cc in
        absurd (omega (arith, z, s))
    go false false d g None p ih e f = absurd (cc)
    go false false d g (Some k) None ih e f = absurd (cc)
    go false false d g (Some k) (Some l) ih e f =
        let s : suc k ≡ i = cc in
        let t : suc l ≡ i = cc in
        let same : l ≡ k = omega (arith, s, t) in
        ih k refl (ap (λ (n : ℕ). Some n) same)

module _ (ms : Messages) where
  -- ---- from names to numbers

  number_in : (ps : List Piece) (name : List ℕ) (i : ℕ) → number_of ms name ≡ Some i → IsIn ps (parameter name) → IsIn (keys_in ms ps) i
  number_in [] name i n h = absurd h
  number_in (p ∷ ps) name i n (inl e) =
      subst (λ (q : Piece). IsIn (keys_in ms (q ∷ ps)) i) (sym e) (subst (λ (o : Option ℕ). IsIn (cons_option o (keys_in ms ps)) i) (sym n) (inl refl))
  number_in (plain b ∷ ps) name i n (inr h) = number_in ps name i n h
  number_in (parameter other ∷ ps) name i n (inr h) = go (number_of ms other) (number_in ps name i n h)
    where
      go : (o : Option ℕ) → IsIn (keys_in ms ps) i → IsIn (cons_option o (keys_in ms ps)) i
      go None k = k
      go (Some j) k = inr k

  key_number : (key name : List ℕ) → HasParameter ms key name → (i : ℕ) × (number_of ms key ≡ Some i)
  key_number key name (template, ps, found, s, h) = let r = text_named ms key template found in (r.0, r.1)

  edge_of : (key name : List ℕ) (i j : ℕ) → number_of ms key ≡ Some i → number_of ms name ≡ Some j → HasParameter ms key name → IsIn (next_keys ms i) j
  edge_of key name i j n m (template, ps, found, s, h) =
      let u = named_text ms key i n in
      let same : text_at ms i ≡ template = cc in
      subst (λ (l : List Piece). IsIn (keys_in ms l) j) (sym (ap pieces same ∙ spelled_pieces template ps s)) (number_in ps name j m h)

  start : (more : ℕ) (key name : List ℕ) → LeadsAmong ms more key name → (i : ℕ) × (number_of ms key ≡ Some i)
  start zero key name h = key_number key name h
  start (suc more) key name (next, h, l) = key_number key next h

  chain_of : (more : ℕ) (key name : List ℕ) (i j : ℕ) → number_of ms key ≡ Some i → number_of ms name ≡ Some j → LeadsAmong ms more key name → graph.LeadsIn (next_keys ms) more i j
  chain_of zero key name i j n m h = edge_of key name i j n m h
  chain_of (suc more) key name i j n m (next, h, l) =
      let k = start more next name l in
      (k.0, edge_of key next i k.0 n k.1 h, chain_of more next name k.0 j k.1 m l)

  pub cyclic_of : IsCircular ms → IsCyclic (next_keys ms)
  cyclic_of (key, more, l) = let i = start more key key l in (i.0, (more, chain_of more key key i.0 i.0 i.1 i.1 l))

  -- ---- and back

  name_in : (ps : List Piece) (j : ℕ) → IsIn (keys_in ms ps) j → (name : List ℕ) × IsIn ps (parameter name) × (number_of ms name ≡ Some j)
  name_in [] j h = absurd h
  name_in (plain b ∷ ps) j h = let r = name_in ps j h in (r.0, inr r.1, r.2)
  name_in (parameter name ∷ ps) j h = go (number_of ms name) refl (name_in ps j) h
    where
      go : (o : Option ℕ) → number_of ms name ≡ o → (IsIn (keys_in ms ps) j → (x : List ℕ) × IsIn ps (parameter x) × (number_of ms x ≡ Some j)) → IsIn (cons_option o (keys_in ms ps)) j
          → (x : List ℕ) × IsIn (parameter name ∷ ps) (parameter x) × (number_of ms x ≡ Some j)
      go None n rest k = let r = rest k in (r.0, inr r.1, r.2)
      go (Some i) n rest (inl e) = (name, inl refl, n ∙ ap (λ (w : ℕ). Some w) e)
      go (Some i) n rest (inr k) = let r = rest k in (r.0, inr r.1, r.2)

  pub parameter_of : (i j : ℕ) (key : List ℕ) → number_of ms key ≡ Some i → IsIn (next_keys ms i) j → (name : List ℕ) × (number_of ms name ≡ Some j) × HasParameter ms key name
  parameter_of i j key n h =
      let r = name_in (pieces (text_at ms i)) j h in
      (r.0, r.2, (text_at ms i, pieces (text_at ms i), named_text ms key i n, go (is_template (text_at ms i)) refl, r.1))
    where
      go : (b : Bool) → is_template (text_at ms i) ≡ b → SpellsPieces (pieces (text_at ms i)) (text_at ms i)
      go true e = template_spelled (text_at ms i) e
      go false e = absurd (subst (λ (l : List Piece). IsIn (keys_in ms l) j) (unread_pieces (text_at ms i) e) h)

  names_of : (more i j : ℕ) (key : List ℕ) → number_of ms key ≡ Some i → graph.LeadsIn (next_keys ms) more i j → (name : List ℕ) × (number_of ms name ≡ Some j) × LeadsAmong ms more key name
  names_of zero i j key n h = parameter_of i j key n h
  names_of (suc more) i j key n (k, h, l) =
      let p = parameter_of i k key n h in
      let q = names_of more k j p.0 p.1 l in
      (q.0, q.1, (p.0, p.2, q.2))

  pub last_name : (more i j : ℕ) → graph.LeadsIn (next_keys ms) more i j → (name : List ℕ) × (number_of ms name ≡ Some j)
  last_name zero i j h = let r = name_in (pieces (text_at ms i)) j h in (r.0, r.2)
  last_name (suc more) i j (k, h, l) = last_name more k j l

  pub circular_of : IsCyclic (next_keys ms) → IsCircular ms
  circular_of (i, (more, l)) =
      let a = last_name more i i l in
      let q = names_of more i i a.0 a.1 l in
      let same : q.0 ≡ a.0 = number_same ms q.0 a.0 i q.1 a.1 in
      (a.0, more, subst (λ (x : List ℕ). LeadsAmong ms more a.0 x) same q.2)

-- what the function makes, of keys that don't lead to themselves and texts that are templates
pub written : (ms : Messages) (attributes : Attributes) (template s : List ℕ) → AreReadable ms × (IsCircular ms → ⊥) → s ≡ full_text ms attributes template → IsTextOf ms attributes template s
written ms attributes template s sound e =
    subst (λ (t : List ℕ). IsTextOf ms attributes template t) (sym e) (text_of ms attributes sound.0 (λ cyclic. sound.1 (circular_of ms cyclic)) template)
