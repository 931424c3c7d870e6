use Rattle.std.proofs.Common.{◌≡◌, List, Some, None, Result, Ok, Err, IfErr, MatchResult, inl, map, is_some, sym, ap, subst, ◌∙◌}
use Rattle.fv_declare_draft.specs.AllUses.{DraftUse, uses_in}
use Rattle.fv_declare_draft.specs.Drafts.{Drafted}
use Rattle.fv_declare_draft.specs.DraftViews.{draft_view, message_view}
use Rattle.fv_message.specs.Judged.{AreSound, IsFault}
use Rattle.fv_message.specs.Table.{Messages, all_messages}
use Rattle.fv_message.specs.Views.{messages_view}
use Rattle.fv_message.specs.Whereabouts as message
use Rattle.fv_message.specs.declared.fault.PlacedMessageFault.{PlacedMessageFault}
use Rattle.fv_declare_judging.specs.WordingPlaces.{flawed_template}
use Rattle.fv_declare_judging.specs.declared.templates.TemplateFlaw.TheVariants.{Long, Misspelt}
use Rattle.fv_declare_judging.proofs.Faults.{IsFound, long_first, judged, taken, refused, placed}
use Rattle.fv_declare_judging.proofs.wording.wording.Goals as goal

-- what is found of messages that are the draft's
found_of : (d : Drafted) (us : Messages) → us ≡ d.messages → (r : Result Messages PlacedMessageFault) → MatchResult r (λ m. (m ≡ all_messages us) × AreSound us) (λ e. IsFault us e.fault)
    → IfErr r (λ e. message.IsAt us e.fault e.at) → IsFound d r
found_of d us same (Ok m) h p = subst (λ (vs : Messages). (m ≡ all_messages vs) × AreSound vs) same h
found_of d us same (Err e) h p = (subst (λ (vs : Messages). IsFault vs e.fault) same h, subst (λ (vs : Messages). message.IsAt vs e.fault e.at) same p)

pub returns-in-Some-clause-refused : goal.returns-in-Some-clause-refused
returns-in-Some-clause-refused c =
    let d = draft_view c.args.draft.now in
    λ other. long_first d c.in-Some.at (c.in-Some.ensures ∙ ap (λ (us : List DraftUse). flawed_template Long us d.definitions) c.requires)

pub returns-in-Some-clause-placed : goal.returns-in-Some-clause-placed
returns-in-Some-clause-placed c =
    let d = draft_view c.args.draft.now in
    let is : Some c.in-Some.at ≡ flawed_template Long (uses_in d.types) d.definitions = c.in-Some.ensures ∙ ap (λ (us : List DraftUse). flawed_template Long us d.definitions) c.requires in
    λ other. inl (is, sym (ap is_some is))

pub returns-clause-taken : goal.returns-clause-taken
returns-clause-taken c =
    let d = draft_view c.args.draft.now in
    let none : flawed_template Long (uses_in d.types) d.definitions ≡ None = sym (c.in_default.ensures ∙ ap (λ (us : List DraftUse). flawed_template Long us d.definitions) c.requires) in
    let is = c.flawed_template-misspelt.ensures ∙ ap (λ (us : List DraftUse). flawed_template Misspelt us d.definitions) c.requires in
    let ms : messages_view c.in_ok-user.user ≡ d.messages = c.in_ok-user.ensures ∙ ap (map message_view) c.deref.ensures.value in
    let found = found_of d (messages_view c.in_ok-user.user) ms c.read_placed.result c.read_placed.ensures.judged c.read_placed.ensures.placed in
    taken d c.judged_with.result (judged d none c.flawed_template-misspelt.result is c.read_placed.result c.judged_with.result found c.judged_with.ensures)

pub returns-clause-refused : goal.returns-clause-refused
returns-clause-refused c =
    let d = draft_view c.args.draft.now in
    let none : flawed_template Long (uses_in d.types) d.definitions ≡ None = sym (c.in_default.ensures ∙ ap (λ (us : List DraftUse). flawed_template Long us d.definitions) c.requires) in
    let is = c.flawed_template-misspelt.ensures ∙ ap (λ (us : List DraftUse). flawed_template Misspelt us d.definitions) c.requires in
    let ms : messages_view c.in_ok-user.user ≡ d.messages = c.in_ok-user.ensures ∙ ap (map message_view) c.deref.ensures.value in
    let found = found_of d (messages_view c.in_ok-user.user) ms c.read_placed.result c.read_placed.ensures.judged c.read_placed.ensures.placed in
    refused d c.judged_with.result (judged d none c.flawed_template-misspelt.result is c.read_placed.result c.judged_with.result found c.judged_with.ensures)

pub returns-clause-placed : goal.returns-clause-placed
returns-clause-placed c =
    let d = draft_view c.args.draft.now in
    let none : flawed_template Long (uses_in d.types) d.definitions ≡ None = sym (c.in_default.ensures ∙ ap (λ (us : List DraftUse). flawed_template Long us d.definitions) c.requires) in
    let is = c.flawed_template-misspelt.ensures ∙ ap (λ (us : List DraftUse). flawed_template Misspelt us d.definitions) c.requires in
    let ms : messages_view c.in_ok-user.user ≡ d.messages = c.in_ok-user.ensures ∙ ap (map message_view) c.deref.ensures.value in
    let found = found_of d (messages_view c.in_ok-user.user) ms c.read_placed.result c.read_placed.ensures.judged c.read_placed.ensures.placed in
    placed d c.judged_with.result (judged d none c.flawed_template-misspelt.result is c.read_placed.result c.judged_with.result found c.judged_with.ensures)
