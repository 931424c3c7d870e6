-- The flaws of a container are those of itself and of what stands in it.
use Rattle.std.proofs.Common.{◌≡◌, List, [], ◌∷◌, length, Bool, false, ◌||◌, nat_lt, Some, refl, ◌∙◌}
use Rattle.std.specs.List.{list_any}
use Rattle.serde_json.specs.Data as json
use Rattle.fv_datum.specs.Members.{pairs, listed}
use Rattle.fv_bundle.specs.Flaws.{undeclared, is_long}
use Rattle.fv_bundle.specs.Names.{ObjectTypes}
use Rattle.fv_bundle.specs.Tells.{Tells}
use Rattle.fv_bundle.specs.Types.{TypeUse, lists, maps, optionals}
use Rattle.fv_bundle.specs.declared.flaws.Flaws.{Flaws}
use Rattle.fv_bundle.proofs.Telling.{Joins}

joined : (a b c x y : Bool) → c ≡ (a || b) → a ≡ x → b ≡ y → c ≡ (x || y)
joined a b c x y both here more = rw (both, here, more) refl

pub none_any : {X : Type 0} (t : X → Bool) (xs : List X) → ((x : X) → t x ≡ false) → list_any t xs ≡ false
none_any t [] each = refl
none_any t (x ∷ xs) each = rw (each x) (none_any t xs each)

-- only that something is too large, where it is
pub record IsOfSize (told : Flaws) (over : Bool) : Type 0 where
  pub undeclared : told.undeclared ≡ false
  pub dangling : told.dangling ≡ false
  pub stray : told.stray ≡ false
  pub large : told.large ≡ over

pub list_tells : (types : ObjectTypes) (u : TypeUse) (js : json.Items) (own found both : Flaws) → IsOfSize own (nat_lt 65536 (length (listed js))) → Joins own found both → Tells found types (λ flaw. list_any (flaw (Some u)) (listed js))
    → Tells both types (λ flaw. flaw (Some (lists u)) (json.array js))
list_tells types u js own found both size joins tells = record {
  undeclared = joined own.undeclared found.undeclared both.undeclared false (list_any (undeclared (Some u)) (listed js)) joins.undeclared size.undeclared tells.undeclared ∙ none_any (undeclared (Some u)) (listed js) (λ j. refl);
  dangling = joined own.dangling found.dangling both.dangling false _ joins.dangling size.dangling tells.dangling;
  stray = joined own.stray found.stray both.stray false _ joins.stray size.stray tells.stray;
  large = joined own.large found.large both.large (nat_lt 65536 (length (listed js))) _ joins.large size.large tells.large;
}

pub map_tells : (types : ObjectTypes) (u : TypeUse) (ms : json.Members) (own found both : Flaws) → IsOfSize own (nat_lt 65536 (length (pairs ms)) || list_any (λ m. is_long m.0) (pairs ms)) → Joins own found both → Tells found types (λ flaw. list_any (λ m. flaw (Some u) m.1) (pairs ms))
    → Tells both types (λ flaw. flaw (Some (maps u)) (json.object ms))
map_tells types u ms own found both size joins tells = record {
  undeclared = joined own.undeclared found.undeclared both.undeclared false (list_any (λ m. undeclared (Some u) m.1) (pairs ms)) joins.undeclared size.undeclared tells.undeclared ∙ none_any (λ m. undeclared (Some u) m.1) (pairs ms) (λ m. refl);
  dangling = joined own.dangling found.dangling both.dangling false _ joins.dangling size.dangling tells.dangling;
  stray = joined own.stray found.stray both.stray false _ joins.stray size.stray tells.stray;
  large = joined own.large found.large both.large (nat_lt 65536 (length (pairs ms)) || list_any (λ m. is_long m.0) (pairs ms)) _ joins.large size.large tells.large;
}

pub optional_tells : (types : ObjectTypes) (u : TypeUse) (js : json.Items) (found : Flaws) → Tells found types (λ flaw. list_any (flaw (Some u)) (listed js)) → Tells found types (λ flaw. flaw (Some (optionals u)) (json.array js))
optional_tells types u js found tells = record {
  undeclared = tells.undeclared ∙ none_any (undeclared (Some u)) (listed js) (λ j. refl);
  dangling = tells.dangling;
  stray = tells.stray;
  large = tells.large;
}
