use Rattle.std.proofs.Common.{◌≡◌, List, false, Some, map, is_some, sym, ap, ◌∙◌}
use Rattle.fv_declare_draft.specs.AllUses.{DraftUse, uses_in}
use Rattle.fv_declare_draft.specs.DraftViews.{type_view, form_view, draft_view}
use Rattle.fv_declare_draft.specs.UseViews.{use_view}
use Rattle.fv_bundle.specs.Types.{Declared, declared_view, types_fault}
use Rattle.fv_bundle.specs.declared.fault.TypesFault.TheVariants.{UnknownType, TooLarge, Memory}
use Rattle.fv_declare_judging.specs.NamePlaces.{bad_name}
use Rattle.fv_declare_judging.specs.Types.{type_declared, types_declared}
use Rattle.fv_declare_judging.proofs.Named.{bad_first, outside, found_outside, all_named, named_large, unknown_type}
use Rattle.fv_declare_judging.proofs.names.known_types.Goals as goal

pub returns-in-Some-clause-refused : goal.returns-in-Some-clause-refused
returns-in-Some-clause-refused c = λ other. bad_first (draft_view c.args.draft.now) (sym (ap is_some c.in-Some.ensures))

pub returns-in-Some-unknown_outside-clause-refused : goal.returns-in-Some-unknown_outside-clause-refused
returns-in-Some-unknown_outside-clause-refused c =
    let d = draft_view c.args.draft.now in
    let ds = d.definitions in
    let good : is_some (bad_name d) ≡ false = sym (ap is_some c.in_default.ensures) in
    let declared : declared_view c.in_ok-declared.declared ≡ types_declared d = c.in_ok-declared.ensures ∙ ap (λ ts. map type_declared (map type_view ts)) c.deref.ensures.value in
    let fs = map form_view c.deref-2.result.now in
    let same = ap (λ (ts : Declared). outside ts ds (map use_view c.args.uses.now) fs) declared ∙ ap (λ (us : List DraftUse). outside (types_declared d) ds us fs) c.requires ∙ ap (λ xs. outside (types_declared d) ds (uses_in d.types) (map form_view xs)) c.deref-2.ensures.value in
    λ other. found_outside d good c.in-Some-unknown_outside.at (c.in-Some-unknown_outside.ensures ∙ same)

pub returns-in-Ok-clause-named : goal.returns-in-Ok-clause-named
returns-in-Ok-clause-named c =
    let d = draft_view c.args.draft.now in
    let ds = d.definitions in
    let good : is_some (bad_name d) ≡ false = sym (ap is_some c.in_default.ensures) in
    let declared : declared_view c.in_ok-declared.declared ≡ types_declared d = c.in_ok-declared.ensures ∙ ap (λ ts. map type_declared (map type_view ts)) c.deref.ensures.value in
    let fs = map form_view c.deref-2.result.now in
    let same = ap (λ (ts : Declared). outside ts ds (map use_view c.args.uses.now) fs) declared ∙ ap (λ (us : List DraftUse). outside (types_declared d) ds us fs) c.requires ∙ ap (λ xs. outside (types_declared d) ds (uses_in d.types) (map form_view xs)) c.deref-2.ensures.value in
    all_named d good (c.in_default-unknown_outside.ensures ∙ same) (ap types_fault (sym declared) ∙ c.in-Ok.ensures.made.0)

pub returns-in-TooLarge-Some-clause-named : goal.returns-in-TooLarge-Some-clause-named
returns-in-TooLarge-Some-clause-named c =
    let d = draft_view c.args.draft.now in
    let ds = d.definitions in
    let good : is_some (bad_name d) ≡ false = sym (ap is_some c.in_default.ensures) in
    let declared : declared_view c.in_ok-declared.declared ≡ types_declared d = c.in_ok-declared.ensures ∙ ap (λ ts. map type_declared (map type_view ts)) c.deref.ensures.value in
    let fs = map form_view c.deref-2.result.now in
    let same = ap (λ (ts : Declared). outside ts ds (map use_view c.args.uses.now) fs) declared ∙ ap (λ (us : List DraftUse). outside (types_declared d) ds us fs) c.requires ∙ ap (λ xs. outside (types_declared d) ds (uses_in d.types) (map form_view xs)) c.deref-2.ensures.value in
    let fault : types_fault (types_declared d) ≡ Some TooLarge = ap types_fault (sym declared) ∙ c.in-Err.ensures.made (λ is. let other : TooLarge ≡ Memory = sym c.in-TooLarge-Some.is-0 ∙ is in cc) ∙ ap (λ f. Some f) c.in-TooLarge-Some.is-0 in
    named_large d good (c.in_default-unknown_outside.ensures ∙ same) fault

pub returns-in-UnknownType-Some-clause-refused : goal.returns-in-UnknownType-Some-clause-refused
returns-in-UnknownType-Some-clause-refused c =
    let d = draft_view c.args.draft.now in
    let ds = d.definitions in
    let good : is_some (bad_name d) ≡ false = sym (ap is_some c.in_default.ensures) in
    let declared : declared_view c.in_ok-declared.declared ≡ types_declared d = c.in_ok-declared.ensures ∙ ap (λ ts. map type_declared (map type_view ts)) c.deref.ensures.value in
    let fs = map form_view c.deref-2.result.now in
    let same = ap (λ (ts : Declared). outside ts ds (map use_view c.args.uses.now) fs) declared ∙ ap (λ (us : List DraftUse). outside (types_declared d) ds us fs) c.requires ∙ ap (λ xs. outside (types_declared d) ds (uses_in d.types) (map form_view xs)) c.deref-2.ensures.value in
    let fault : types_fault (types_declared d) ≡ Some UnknownType = ap types_fault (sym declared) ∙ c.in-Err.ensures.made (λ is. let other : UnknownType ≡ Memory = sym c.in-UnknownType-Some.is-0 ∙ is in cc) ∙ ap (λ f. Some f) c.in-UnknownType-Some.is-0 in
    λ other. unknown_type d good (c.in_default-unknown_outside.ensures ∙ same) fault
