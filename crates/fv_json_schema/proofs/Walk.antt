-- What is asked beside the nodes of a tree, one after another.
use Rattle.std.proofs.Common.{◌≡◌, ℕ, ℤ, ◌+◌, ◌<◌, ◌≤◌, Some, ◌⊎◌, inl, inr, slice_get, true, refl, sym, ap, ◌∙◌, arith, subst}
use Rattle.fv_builtin.specs.BuiltIns.{BuiltIn}
use Rattle.fv_builtin.specs.Says.{says}
use Rattle.fv_constraint_tree.specs.Nodes.{Node, built_in}
use Rattle.fv_constraint_tree.specs.Preorder.{preorder}
use Rattle.fv_constraint_tree.specs.Trees.{Tree}
use Rattle.fv_datum.specs.Data.{Data, null}
use Rattle.fv_json_schema.specs.declared.asked.Asked.{Asked}
use Rattle.fv_json_schema.specs.Asked.{IsOf, Takes, is_said, HasWhole, Adds, Asks, AddsFirst}

of_some : {X : Type 0} (x y : X) → Some x ≡ Some y → x ≡ y
of_some x y e = cc

-- at first nothing is asked
pub at_first : (a : Asked) (t : Tree Node) → AddsFirst a a t 0
at_first a t = record {
  same_kind = refl;
  sound = λ d now of h met. h;
  kept = λ d of h. h;
  said = λ d now of h n b asks s has. absurd (none asks.place asks.early);
}
  where
    none : (k : ℕ) → k < 0 → ⊥
    none k h = omega arith

-- what one of the first nodes asks is asked by one more
more : (t : Tree Node) (count : ℕ) (n : Node) (b : BuiltIn) → Asks t count n b → Asks t (count + 1) n b
more t count n b asks = record { place = asks.place; below = asks.below; early = omega (arith, asks.early); there = asks.there; asked = asks.asked }

-- what one of one more node asks one of the first asks, or the last
either : (t : Tree Node) (count : ℕ) (n : Node) (b : BuiltIn) → Asks t (count + 1) n b → Asks t count n b ⊎ ((below : ℕ) × (slice_get (preorder t) count ≡ Some (n, below)))
either t count n b asks = go (le_or asks.place count (omega (arith, asks.early)))
  where
    le_or : (k c : ℕ) → k ≤ c → (k < c) ⊎ (k ≡ c)
    le_or k c h = grind arith

    go : (asks.place < count) ⊎ (asks.place ≡ count) → Asks t count n b ⊎ ((below : ℕ) × (slice_get (preorder t) count ≡ Some (n, below)))
    go (inl h) = inl (record { place = asks.place; below = asks.below; early = h; there = asks.there; asked = asks.asked })
    go (inr e) = inr (asks.below, subst (λ k. slice_get (preorder t) k ≡ Some (n, asks.below)) e asks.there)

-- where the next node asks a built-in constraint, that is added
pub next_asks : (first old new : Asked) (t : Tree Node) (count : ℕ) (n : Node) (below : ℕ) (b : BuiltIn) → slice_get (preorder t) count ≡ Some (n, below)
    → n.test ≡ built_in b → AddsFirst first old t count → Adds old new b → AddsFirst first new t (count + 1)
next_asks first old new t count n below b there asked before adds = record {
  same_kind = adds.same_kind ∙ before.same_kind;
  sound = λ d now of h met. adds.sound d now (of_old d of) (before.sound d now of h (λ m c asks. met m c (more t count m c asks)))
      (met n b (record { place = count; below = below; early = omega arith; there = there; asked = asked }));
  kept = λ d of h. before.kept d of (adds.kept d (of_old d of) h);
  said = λ d now of h m c asks s has. told d now of h m c s has asks.asked (either t count m c asks);
}
  where
    of_old : (d : Data) → IsOf d first.kind → IsOf d old.kind
    of_old d of = subst (λ k. IsOf d k) (sym before.same_kind) of

    told : (d : Data) (now : ℤ) → IsOf d first.kind → Takes new d → (m : Node) (c : BuiltIn) → is_said d c ≡ true → HasWhole c now → m.test ≡ built_in c
        → Asks t count m c ⊎ ((below' : ℕ) × (slice_get (preorder t) count ≡ Some (m, below'))) → says c d now ≡ true
    told d now of h m c s has asks (inl asked) = before.said d now of (adds.kept d (of_old d of) h) m c asked s has
    told d now of h m c s has asks (inr at) =
        let node : m ≡ n = ap (λ (e : Node × ℕ). e.0) (of_some {X = Node × ℕ} (m, at.0) (n, below) (sym at.1 ∙ there)) in
        let constraint : c ≡ b = cc in
        subst (λ x. says x d now ≡ true) (sym constraint) (adds.said d now (of_old d of) (subst (λ x. is_said d x ≡ true) constraint s) (subst (λ x. HasWhole x now) constraint has) h)

-- where it asks none, nothing is added
pub next_passes : (first old new : Asked) (t : Tree Node) (count : ℕ) → ((n : Node) (below : ℕ) (b : BuiltIn) → slice_get (preorder t) count ≡ Some (n, below) → n.test ≡ built_in b → ⊥)
    → AddsFirst first old t count → new ≡ record old { left_out = new.left_out } → AddsFirst first new t (count + 1)
next_passes first old new t count none before is = record {
  same_kind = ap (λ a. a.kind) is ∙ before.same_kind;
  sound = λ d now of h met. (same d).0 (before.sound d now of h (λ m c asks. met m c (more t count m c asks)));
  kept = λ d of h. before.kept d of ((same d).1 h);
  said = λ d now of h m c asks s has. told d now of ((same d).1 h) m c s has asks.asked (either t count m c asks);
}
  where
    same : (d : Data) → (Takes old d → Takes new d) × (Takes new d → Takes old d)
    same d = ((λ h. subst (λ a. Takes a d) (sym is) ((there d).0 h)), (λ h. (there d).1 (subst (λ a. Takes a d) is h)))
      where
        there : (d : Data) → (Takes old d → Takes (record old { left_out = new.left_out }) d) × (Takes (record old { left_out = new.left_out }) d → Takes old d)
        there null = ((λ h. h), (λ h. h))
        there _ = ((λ h. h), (λ h. h))

    told : (d : Data) (now : ℤ) → IsOf d first.kind → Takes old d → (m : Node) (c : BuiltIn) → is_said d c ≡ true → HasWhole c now → m.test ≡ built_in c
        → Asks t count m c ⊎ ((below' : ℕ) × (slice_get (preorder t) count ≡ Some (m, below'))) → says c d now ≡ true
    told d now of h m c s has asks (inl asked) = before.said d now of h m c asked s has
    told d now of h m c s has asks (inr at) = absurd (none m at.0 c at.1 asks)

-- a node that asks no built-in constraint is none that does
pub unasked : (t : Tree Node) (count : ℕ) (n m : Node) (below below' : ℕ) (b : BuiltIn) → Some (n, below) ≡ slice_get (preorder t) count
    → slice_get (preorder t) count ≡ Some (m, below') → (n.test ≡ built_in b → ⊥) → m.test ≡ built_in b → ⊥
unasked t count n m below below' b there at other asks =
    other (ap (λ (e : Node × ℕ). e.0.test) (of_some {X = Node × ℕ} (n, below) (m, below') (there ∙ at)) ∙ asks)
