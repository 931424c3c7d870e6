-- Nothing is told of values with which nothing can be wrong.
use Rattle.std.proofs.Common.{List, false, Some, refl, sym, ◌∙◌}
use Rattle.std.specs.List.{list_any}
use Rattle.serde_json.specs.Data as json
use Rattle.fv_bundle.specs.Flaws.{undeclared, dangles, strays, is_large, IsNeverFlawed}
use Rattle.fv_bundle.specs.Names.{ObjectTypes}
use Rattle.fv_bundle.specs.Tells.{Tells}
use Rattle.fv_bundle.specs.Types.{TypeUse}
use Rattle.fv_bundle.specs.declared.flaws.Flaws.{Flaws}
use Rattle.fv_bundle.proofs.Contained.{IsOfSize, none_any}

-- nothing is told of any value of a type use that is never flawed, as items or as values of entries
pub none_flawed : {X : Type 0} (value : X → json.Data) (types : ObjectTypes) (u : TypeUse) (xs : List X) (told : Flaws) → IsNeverFlawed u → IsOfSize told false
    → Tells told types (λ flaw. list_any (λ x. flaw (Some u) (value x)) xs)
none_flawed value types u xs told plain none = record {
  undeclared = none.undeclared ∙ sym (none_any (λ x. undeclared (Some u) (value x)) xs (λ x. refl));
  dangling = none.dangling ∙ sym (none_any (λ x. dangles types (Some u) (value x)) xs (λ x. (plain types (value x)).0));
  stray = none.stray ∙ sym (none_any (λ x. strays types (Some u) (value x)) xs (λ x. (plain types (value x)).1));
  large = none.large ∙ sym (none_any (λ x. is_large (Some u) (value x)) xs (λ x. (plain types (value x)).2));
}
