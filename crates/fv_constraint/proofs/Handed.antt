-- The map of what a composing constraint is handed.
use Rattle.std.proofs.Common.{◌≡◌, ℕ, List, [], ◌∷◌, ◌++◌, Bool, true, false, cond, ◌||◌, Option, Some, None, bytes_eq, refl, sym, ap, ◌∙◌}
use Rattle.std.specs.List.{list_any}
use Rattle.std.specs.Map.{keys_of}
use Rattle.std.proofs.lemmas.Bool.{or_parts}
use Rattle.std.proofs.lemmas.List.Folds.{list_any-append}
use Rattle.std.proofs.lemmas.Slice.Eq.{bytes_eq-Decides}
use Rattle.fv_datum.specs.Maps.{ascends, IsMapOf}
use Rattle.fv_datum.proofs.Maps.{at_insert, ascends-insert}
use Rattle.fv_datum.specs.Attributes.{AttributeValue}
use Rattle.fv_datum.specs.Lookup.{at_name}
use Rattle.fv_declare_definition.specs.Definitions.{Composing}
use Rattle.fv_constraint.specs.Effect.{handed}
use Rattle.fv_constraint.specs.Numbered.{with_value, tabulated, handed_map}

same_either : (b : Bool) (o : Option AttributeValue) → o ≡ None → cond b o None ≡ o
same_either true o e = refl
same_either false o e = sym e

module _ (value : List ℕ → Option AttributeValue) where
  -- a table has the values at its names
  tabulated_at : (ns : List (List ℕ)) (q : List ℕ) → at_name q (tabulated value ns) ≡ cond (list_any (bytes_eq q) ns) (value q) None
  tabulated_at [] q = refl
  tabulated_at (n ∷ ns) q = go (value n) (bytes_eq q n) refl refl (tabulated_at ns q)
    where
      put : (v : AttributeValue) (b : Bool) → value n ≡ Some v → bytes_eq q n ≡ b → at_name q (tabulated value ns) ≡ cond (list_any (bytes_eq q) ns) (value q) None
          → cond b (Some v) (at_name q (tabulated value ns)) ≡ cond (b || list_any (bytes_eq q) ns) (value q) None
      put v true is e ih = let same : q ≡ n = (bytes_eq-Decides q n).0 e in sym (ap value same ∙ is)
      put v false is e ih = ih

      go : (o : Option AttributeValue) (b : Bool) → value n ≡ o → bytes_eq q n ≡ b → at_name q (tabulated value ns) ≡ cond (list_any (bytes_eq q) ns) (value q) None
          → at_name q (with_value n o (tabulated value ns)) ≡ cond (b || list_any (bytes_eq q) ns) (value q) None
      go None true is e ih = let same : q ≡ n = (bytes_eq-Decides q n).0 e in ih ∙ same_either (list_any (bytes_eq q) ns) (value q) (ap value same ∙ is)
      go None false is e ih = ih
      go (Some v) b is e ih = at_insert (tabulated value ns) n v q ∙ ap (λ c. cond c (Some v) (at_name q (tabulated value ns))) e ∙ put v b is e ih

  -- a table ascends
  tabulated-ascends : (ns : List (List ℕ)) → ascends (tabulated value ns) ≡ true
  tabulated-ascends [] = refl
  tabulated-ascends (n ∷ ns) = go (value n) (tabulated-ascends ns)
    where
      go : (o : Option AttributeValue) → ascends (tabulated value ns) ≡ true → ascends (with_value n o (tabulated value ns)) ≡ true
      go None ih = ih
      go (Some v) ih = ascends-insert (tabulated value ns) n v ih

-- nothing stands at a name that is none of a list's
not_there : {X : Type 0} (q : List ℕ) (es : List (List ℕ × X)) → list_any (bytes_eq q) (keys_of es) ≡ false → at_name q es ≡ None
not_there q [] h = refl
not_there q (e ∷ es) h =
    let parts = or_parts (bytes_eq q e.0) (list_any (bytes_eq q) (keys_of es)) h in
    ap (λ b. cond b (Some e.1) (at_name q es)) parts.0 ∙ not_there q es parts.1

-- the map that is handed has the values that are handed
pub handed_map_is : (c : Composing) (above : List ℕ → Option AttributeValue) → IsMapOf (handed c above) (handed_map c above)
handed_map_is c above = record {
  each = λ q. tabulated_at (handed c above) (keys_of c.given ++ keys_of c.overrides) q ∙ there q (list_any (bytes_eq q) (keys_of c.given ++ keys_of c.overrides)) refl;
  ascending = tabulated-ascends (handed c above) (keys_of c.given ++ keys_of c.overrides);
}
  where
    there : (q : List ℕ) (b : Bool) → list_any (bytes_eq q) (keys_of c.given ++ keys_of c.overrides) ≡ b → cond b (handed c above q) None ≡ handed c above q
    there q true e = refl
    there q false e =
        let parts = or_parts (list_any (bytes_eq q) (keys_of c.given)) (list_any (bytes_eq q) (keys_of c.overrides)) (sym (list_any-append (bytes_eq q) (keys_of c.given) (keys_of c.overrides)) ∙ e) in
        rw (not_there q c.given parts.0, not_there q c.overrides parts.1) refl
