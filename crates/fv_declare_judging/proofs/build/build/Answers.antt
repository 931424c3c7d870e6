use Rattle.std.proofs.Common.{◌≡◌, ◌≢◌, List, map, Result, Ok, Err, IfErr, IsErrAnd, sym, ap, subst, ◌∙◌, arith}
use Rattle.std.proofs.lemmas.List.{length-map}
use Rattle.fv_declare_draft.specs.Drafts.{Drafted}
use Rattle.fv_declare_draft.specs.DraftViews.{draft_view, form_view}
use Rattle.fv_declare_draft.specs.declared.draft.FormDraft.{FormDraft}
use Rattle.fv_declare_draft.specs.UseViews.{use_view, cascade_view}
use Rattle.fv_declare_schema.specs.Declarations.{Declarations}
use Rattle.fv_declare_schema.specs.Fits.{fits}
use Rattle.fv_declare_schema.specs.declared.schema.NumberedParts.{NumberedParts}
use Rattle.fv_message.specs.Table.{Messages, all_messages}
use Rattle.fv_bundle.specs.Types.{Declared}
use Rattle.fv_bundle.specs.TypesView.{types_view}
use Rattle.fv_bundle.specs.declared.fault.TypesAt.{TypesAt}
use Rattle.fv_bundle.specs.declared.types.Types.{Types}
use Rattle.fv_declare_judging.specs.Conditions.{unknown_root}
use Rattle.fv_declare_judging.specs.Parts.{AreTypesOf}
use Rattle.fv_declare_judging.specs.Schemas.{IsDeclared}
use Rattle.fv_declare_judging.specs.Types.{types_declared}
use Rattle.fv_declare_judging.specs.declared.fault.DeclFault.{DeclFault}
use Rattle.fv_declare_judging.specs.declared.fault.DeclFault.TheVariants.{Memory}
use Rattle.fv_declare_judging.proofs.Built.{IsNumbered, are_numbered, told, in_order, declared, all_fit}
use Rattle.fv_declare_judging.proofs.Found.{roots_known}
use Rattle.fv_declare_judging.proofs.Steps.{good, ok_same}
use Rattle.fv_declare_judging.proofs.build.build.Goals as goal

-- the types that are there are the draft's
same_types : (d : Drafted) (o : Result Types TypesAt) (types : Types) → AreTypesOf d o → o ≡ Ok types → types_view types ≡ types_declared d
same_types d (Ok other) types is so = let same : types ≡ other = cc in ap types_view same ∙ is.1
same_types d (Err at) types is so = cc

-- a call that is answered a value is refused for want of memory alone
memory_alone : {Y : Type 0} (y : Y) (e : DeclFault) → (e ≢ Memory → good y ≡ Err e) → e ≡ Memory
memory_alone y e none = grind arith

refused : {X : Type 0} (r : Result X DeclFault) (e : DeclFault) → e ≡ Memory → IsErrAnd r (λ f. f ≡ e) → IfErr r (λ f. f ≡ Memory)
refused (Ok x) e is h = tt
refused (Err f) e is h = h ∙ is

refused_here : {X : Type 0} (r : Result X DeclFault) → IsErrAnd r (λ f. f ≡ Memory) → IfErr r (λ f. f ≡ Memory)
refused_here (Ok x) h = tt
refused_here (Err f) h = h

pub returns-in_err-forms_for-clause-refused : goal.returns-in_err-forms_for-clause-refused
returns-in_err-forms_for-clause-refused c =
    refused c.from_residual-in_err-forms_for.result c.in_err-forms_for.field-0.0 (memory_alone _ _ c.in_err-forms_for.ensures) c.from_residual-in_err-forms_for.ensures.1

pub returns-in_err-sequences_of-clause-refused : goal.returns-in_err-sequences_of-clause-refused
returns-in_err-sequences_of-clause-refused c = refused_here c.from_residual-in_err-sequences_of.result c.from_residual-in_err-sequences_of.ensures.1

pub returns-in_err-valid_places-clause-refused : goal.returns-in_err-valid_places-clause-refused
returns-in_err-valid_places-clause-refused c = refused_here c.from_residual-in_err-valid_places.result c.from_residual-in_err-valid_places.ensures.1

pub forms_for-requires-clause-known : goal.forms_for-requires-clause-known
forms_for-requires-clause-known c =
    let d = draft_view c.args.draft.now in
    ap (λ (fs : List FormDraft). unknown_root (types_view c.in-Ok-Ok.types) (map form_view fs)) c.deref.ensures.value
    ∙ ap (λ (ts : Declared). unknown_root ts d.forms) (same_types d c.args.parts.types c.in-Ok-Ok.types c.requires.checked.types c.in-Ok-Ok.is-0) ∙ roots_known d c.requires.checked.named

pub new-requires : goal.new-requires
new-requires c =
    let d = draft_view c.args.draft.now in
    let us = map use_view c.args.uses.now in
    let types = c.in-Ok-Ok.types in
    let same = same_types d c.args.parts.types types c.requires.checked.types c.in-Ok-Ok.is-0 in
    let gs = c.in-Ok.groups in
    let cs = map cascade_view c.deref-3.result.now in
    let cascades = ap (map cascade_view) c.deref-3.ensures.value ∙ c.requires.checked.groups.1 in
    let made = ok_same _ _ c.in_ok-forms_for.ensures in
    let n : NumberedParts = record { occurrences = c.in_ok-place_all.field-0; forms = c.in_ok-forms_for.field-0; sequences = c.in_ok-sequences_of.field-0; valid_places = c.in_ok-valid_places.field-0 } in
    let numbered : IsNumbered d (types_view types) gs us cs c.args.trees.items n =
    are_numbered c.args.draft.now (types_view types) gs us cs c.args.trees.items n c.deref.result.now c.deref-2.result.now c.deref.ensures.value c.deref-2.ensures.value
    c.in_ok-place_all.ensures (ap (λ p. p.0) made) (ap (λ p. p.1) made) c.in_ok-sequences_of.ensures c.in_ok-valid_places.ensures in
    in_order c.args.draft.now us c.args.parts c.requires.checked types same gs (c.in-Ok.ensures.0 ∙ c.requires.checked.groups.0) cs cascades c.args.trees.items (c.requires.each ∙ sym (length-map c.args.uses.now use_view)) n numbered c.in-Ok-Ok.messages c.requires.few

pub returns-clause-taken : goal.returns-clause-taken
returns-clause-taken c =
    let d = draft_view c.args.draft.now in
    let us = map use_view c.args.uses.now in
    let types = c.in-Ok-Ok.types in
    let same = same_types d c.args.parts.types types c.requires.checked.types c.in-Ok-Ok.is-0 in
    let gs = c.in-Ok.groups in
    let cs = map cascade_view c.deref-3.result.now in
    let cascades = ap (map cascade_view) c.deref-3.ensures.value ∙ c.requires.checked.groups.1 in
    let made = ok_same _ _ c.in_ok-forms_for.ensures in
    let n : NumberedParts = record { occurrences = c.in_ok-place_all.field-0; forms = c.in_ok-forms_for.field-0; sequences = c.in_ok-sequences_of.field-0; valid_places = c.in_ok-valid_places.field-0 } in
    let numbered : IsNumbered d (types_view types) gs us cs c.args.trees.items n =
    are_numbered c.args.draft.now (types_view types) gs us cs c.args.trees.items n c.deref.result.now c.deref-2.result.now c.deref.ensures.value c.deref-2.ensures.value
    c.in_ok-place_all.ensures (ap (λ p. p.0) made) (ap (λ p. p.1) made) c.in_ok-sequences_of.ensures c.in_ok-valid_places.ensures in
    let order = in_order c.args.draft.now us c.args.parts c.requires.checked types same gs (c.in-Ok.ensures.0 ∙ c.requires.checked.groups.0) cs cascades c.args.trees.items (c.requires.each ∙ sym (length-map c.args.uses.now use_view)) n numbered c.in-Ok-Ok.messages c.requires.few in
    λ ts z. subst (λ (s : Declarations). IsDeclared d ts s) (sym c.new.ensures)
    (declared c.args.draft.now us c.args.parts c.requires.checked types same gs (c.in-Ok.ensures.0 ∙ c.requires.checked.groups.0) cs cascades c.args.trees.items (c.requires.each ∙ sym (length-map c.args.uses.now use_view)) n numbered c.in-Ok-Ok.messages order (told (λ (m : Messages). m ≡ all_messages d.messages) c.args.parts.wording c.in-Ok-Ok.messages c.in-Ok-Ok.is-1 c.requires.checked.messages) ts z)

pub returns-clause-fits : goal.returns-clause-fits
returns-clause-fits c =
    let d = draft_view c.args.draft.now in
    let us = map use_view c.args.uses.now in
    let types = c.in-Ok-Ok.types in
    let same = same_types d c.args.parts.types types c.requires.checked.types c.in-Ok-Ok.is-0 in
    let gs = c.in-Ok.groups in
    let cs = map cascade_view c.deref-3.result.now in
    let cascades = ap (map cascade_view) c.deref-3.ensures.value ∙ c.requires.checked.groups.1 in
    let made = ok_same _ _ c.in_ok-forms_for.ensures in
    let n : NumberedParts = record { occurrences = c.in_ok-place_all.field-0; forms = c.in_ok-forms_for.field-0; sequences = c.in_ok-sequences_of.field-0; valid_places = c.in_ok-valid_places.field-0 } in
    let numbered : IsNumbered d (types_view types) gs us cs c.args.trees.items n =
    are_numbered c.args.draft.now (types_view types) gs us cs c.args.trees.items n c.deref.result.now c.deref-2.result.now c.deref.ensures.value c.deref-2.ensures.value
    c.in_ok-place_all.ensures (ap (λ p. p.0) made) (ap (λ p. p.1) made) c.in_ok-sequences_of.ensures c.in_ok-valid_places.ensures in
    λ k z. ap (fits k) c.new.ensures ∙ all_fit c.args.draft.now us c.args.parts c.requires.checked types same gs (c.in-Ok.ensures.0 ∙ c.requires.checked.groups.0) cs cascades c.args.trees.items (c.requires.each ∙ sym (length-map c.args.uses.now use_view)) n numbered c.in-Ok-Ok.messages k z
