-- A constraint has one tree alone.
use Rattle.std.proofs.Common.{◌≡◌, ℕ, List, [], ◌∷◌, Option, refl, sym, ap, subst, ◌∙◌}
use Rattle.fv_datum.proofs.Maps.{same_map}
use Rattle.fv_datum.specs.Attributes.{AttributeValue, Attributes}
use Rattle.fv_constraint.specs.Composed.{Planned, IsTreeOf, AreTreesOf}
use Rattle.fv_declare_definition.specs.Definitions.{Composing, Definitions}
use Rattle.fv_constraint.specs.Meanings.{Meant, meant_composing}
use Rattle.fv_constraint.specs.Effect.{effective, handed}
use Rattle.fv_constraint_tree.specs.Trees.{Tree, tree, Trees, none, more}

-- planned constraints with the same parts
planned_same : (a b : List ℕ) (m n : Meant) (o p : Option (List ℕ)) (g h : Attributes) → a ≡ b → m ≡ n → o ≡ p → g ≡ h
    → ◌≡◌ {A = Planned} (record { constraint = a; meant = m; own = o; given = g }) (record { constraint = b; meant = n; own = p; given = h })
planned_same a b m n o p g h w x y z = rw (w, x, y, z) refl

mutual
  pub unique : (ds : Definitions) (name : List ℕ) (own : Option (List ℕ)) (given : Attributes) (t u : Tree Planned) → IsTreeOf ds name own given t → IsTreeOf ds name own given u → t ≡ u
  unique ds name own given (tree p below) (tree q others) x y =
      let found = sym x.1 ∙ y.1 in
      let meant : p.meant ≡ q.meant = cc in
      let same : p ≡ q = planned_same p.constraint q.constraint p.meant q.meant p.own q.own p.given q.given (x.0 ∙ sym y.0) meant (x.2 ∙ sym y.2) (x.3 ∙ sym y.3) in
      let z = subst (λ (m : Meant). AreTreesOf ds (meant_composing m) (effective m given) others) (sym meant) y.4 in
      let kids = uniques ds (meant_composing p.meant) (effective p.meant given) below others x.4 z in
      ap (λ r. tree r below) same ∙ ap (tree q) kids

  uniques : (ds : Definitions) (cs : List Composing) (above : List ℕ → Option AttributeValue) (ts us : Trees Planned) → AreTreesOf ds cs above ts → AreTreesOf ds cs above us → ts ≡ us
  uniques ds [] above none none x y = refl
  uniques ds [] above none (more u us) x y = absurd y
  uniques ds [] above (more t ts) us x y = absurd x
  uniques ds (c ∷ cs) above none us x y = absurd x
  uniques ds (c ∷ cs) above (more t ts) none x y = absurd y
  uniques ds (c ∷ cs) above (more t ts) (more u us) x y =
      let same : x.0.0 ≡ y.0.0 = same_map (handed c above) x.0.0 y.0.0 x.0.1 y.0.1 in
      let first = unique ds c.constraint c.message x.0.0 t u x.0.2 (subst (λ (given : Attributes). IsTreeOf ds c.constraint c.message given u) (sym same) y.0.2) in
      ap (λ r. more r ts) first ∙ ap (more u) (uniques ds cs above ts us x.1 y.1)
