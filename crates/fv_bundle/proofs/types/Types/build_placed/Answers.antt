use Rattle.std.proofs.Common.{◌≡◌, ◌∙◌, true, false, length, nat_lt, ◌||◌, is_some, refl, sym, ap, subst}
use Rattle.fv_bundle.specs.Types.{FieldsApart, declared_view, has_unknown_type, has_large_type, has_deep, too_many}
use Rattle.fv_datum.proofs.Bools.{or_right}
use Rattle.fv_bundle.specs.TypeLimits.{most_types}
use Rattle.fv_bundle.proofs.Placed.{unknown_told, large_told}
use Rattle.fv_bundle.proofs.types.Types.build_placed.Goals as goal

pub returns-in-Some-clause-made : goal.returns-in-Some-clause-made
returns-in-Some-clause-made c =
    let ts = declared_view c.args.declared in
    let unknown : has_unknown_type ts ≡ true = sym (ap is_some c.in-Some.ensures ∙ unknown_told ts) in
    λ _. rw unknown refl

pub returns-in-Some-too_large-clause-made : goal.returns-in-Some-too_large-clause-made
returns-in-Some-too_large-clause-made c =
    let ts = declared_view c.args.declared in
    let known : has_unknown_type ts ≡ false = sym (ap is_some c.in_default.ensures ∙ unknown_told ts) in
    let many : too_many ts ≡ true = sym (ap is_some c.in-Some-too_large.ensures.exact ∙ large_told ts) in
    λ _. rw (known, many) refl

pub invariant_of-result : goal.invariant_of-result
invariant_of-result c =
    let ts = declared_view c.args.declared in
    let few : too_many ts ≡ false = sym (ap is_some c.in_default-too_large.ensures.exact ∙ large_told ts) in
    let shallow : has_deep ts ≡ false = or_right (nat_lt most_types (length ts) || has_large_type ts) (has_deep ts) few in
    record {
      apart = subst (λ m. FieldsApart (declared_view m)) (sym c.in_ok-new.ensures.ok) c.in_default-too_large.ensures.apart;
      shallow = subst (λ m. has_deep (declared_view m) ≡ false) (sym c.in_ok-new.ensures.ok) shallow;
    }

pub returns-clause-made : goal.returns-clause-made
returns-clause-made c =
    let ts = declared_view c.args.declared in
    let known : has_unknown_type ts ≡ false = sym (ap is_some c.in_default.ensures ∙ unknown_told ts) in
    let few : too_many ts ≡ false = sym (ap is_some c.in_default-too_large.ensures.exact ∙ large_told ts) in
    (rw (known, few) refl, ap declared_view c.in_ok-new.ensures.ok)
