-- Rings of keys, by their numbers and by their names.
use Rattle.std.proofs.Common.{◌≡◌, ℕ, suc, List, [], ◌∷◌, ◌++◌, map, Bool, true, false, cond, Option, Some, None, option_map, bytes_eq, Vec, Global, refl, sym, ap, subst, ◌∙◌}
use Rattle.std.proofs.lemmas.List.{map-append}
use Rattle.std.proofs.lemmas.Slice.Eq.{bytes_eq-Decides}
use Rattle.fv_graph.specs.Graph.{IsIn}
use Rattle.fv_message.specs.Judged.{HasParameter, IsCircular, IsMisspelt}
use Rattle.fv_message.specs.Judging.{is_misspelt}
use Rattle.fv_message.specs.Numbers.{number_of, next_keys, AreReadable}
use Rattle.fv_message.specs.Table.{Messages, all_messages}
use Rattle.fv_message.specs.Whereabouts.{name_at, AreLinked, IsKeyRing}
use Rattle.fv_message.proofs.Becoming.{misspelt_is}
use Rattle.fv_message.proofs.Built.{all_readable}
use Rattle.fv_message.proofs.Circles.{parameter_of, last_name, circular_of, cyclic_of}
use Rattle.fv_ring.specs.Rings.{IsLinked, IsRing, FindsRing}

-- where messages are well written, each key's text is a template
pub readable_of : (user : Messages) → (IsMisspelt user → ⊥) → AreReadable (all_messages user)
readable_of user well = all_readable user (go (is_misspelt user) refl)
  where
    go : (b : Bool) → is_misspelt user ≡ b → b ≡ false
    go true e = absurd (well (misspelt_is user e))
    go false e = refl

-- a name's number is a number of that name
number_name : (ms : Messages) (name : List ℕ) (j : ℕ) → number_of ms name ≡ Some j → name_at ms j ≡ name
number_name [] name j e = absurd (cc)
number_name (m ∷ ms) name j e = go (bytes_eq name m.0) refl (number_of ms name) (number_name ms name) e
  where
    go : (b : Bool) → bytes_eq name m.0 ≡ b → (o : Option ℕ) → ((k : ℕ) → o ≡ Some k → name_at ms k ≡ name) → cond b (Some 0) (option_map suc o) ≡ Some j → name_at (m ∷ ms) j ≡ name
    go true d o ih is = let z : 0 ≡ j = cc in ap (λ (k : ℕ). name_at (m ∷ ms) k) (sym z) ∙ sym ((bytes_eq-Decides name m.0).0 d)
    go false d None ih is = absurd (cc)
    go false d (Some k) ih is = let s : suc k ≡ j = cc in ap (λ (n : ℕ). name_at (m ∷ ms) n) (sym s) ∙ ih k refl

module _ (ms : Messages) where
  link_named : (i j : ℕ) → number_of ms (name_at ms i) ≡ Some i → IsIn (next_keys ms i) j → HasParameter ms (name_at ms i) (name_at ms j) × (number_of ms (name_at ms j) ≡ Some j)
  link_named i j n h =
      let p = parameter_of ms i j (name_at ms i) n h in
      let same : name_at ms j ≡ p.0 = number_name ms p.0 j p.1 in
      (subst (λ (x : List ℕ). HasParameter ms (name_at ms i) x) (sym same) p.2, subst (λ (x : List ℕ). number_of ms x ≡ Some j) (sym same) p.1)

  end_named : (i : ℕ) (js : List ℕ) (k : ℕ) → IsLinked (next_keys ms) (i ∷ js ++ k ∷ []) → number_of ms (name_at ms k) ≡ Some k
  end_named i [] k l =
      let p = last_name ms 0 i k l.0 in
      subst (λ (x : List ℕ). number_of ms x ≡ Some k) (sym (number_name ms p.0 k p.1)) p.1
  end_named i (j ∷ js) k l = end_named j js k l.1

  linked_named : (i : ℕ) (js : List ℕ) → number_of ms (name_at ms i) ≡ Some i → IsLinked (next_keys ms) (i ∷ js) → AreLinked ms (map (name_at ms) (i ∷ js))
  linked_named i [] n l = tt
  linked_named i (j ∷ js) n l = let p = link_named i j n l.0 in (p.0, linked_named j js p.1 l.1)

  ring_named : (r : List ℕ) → IsRing (next_keys ms) r → IsKeyRing ms (map (name_at ms) r)
  ring_named [] h = h
  ring_named (i ∷ is) h =
      subst (λ (l : List (List ℕ)). AreLinked ms (name_at ms i ∷ l)) (map-append (name_at ms) is (i ∷ [])) (linked_named i (is ++ i ∷ []) (end_named i is i h) h)

  -- a ring of numbers is one of names
  pub ring_found : (found : Option (Vec ℕ Global)) (r : Vec ℕ Global) → found ≡ Some r → FindsRing (next_keys ms) found → IsCircular ms × IsKeyRing ms (map (name_at ms) r.items)
  ring_found found r is h =
      let both = subst (λ (o : Option (Vec ℕ Global)). FindsRing (next_keys ms) o) is h in
      (circular_of ms both.0, ring_named r.items both.1)

  pub none_found : (found : Option (Vec ℕ Global)) → found ≡ None → FindsRing (next_keys ms) found → IsCircular ms → ⊥
  none_found found is h circular = subst (λ (o : Option (Vec ℕ Global)). FindsRing (next_keys ms) o) is h (cyclic_of ms circular)
