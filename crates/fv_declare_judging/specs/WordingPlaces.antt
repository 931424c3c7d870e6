-- Where the wording of declarations has a flaw.
use Rattle.std.specs.Prelude.{◌≡◌, ◌⊎◌, ℕ, List, Bool, false, IsTrue, not, if◌then◌else◌, Option, Some, None, option_map, is_some, Result, Ok, Err}
use Rattle.std.specs.Option.{option_or, option_map_or}
use Rattle.fv_declare_definition.specs.Definitions.{Composing, Definition, Definitions}
use Rattle.fv_declare_draft.specs.AllUses.{DraftUse, uses_in}
use Rattle.fv_declare_draft.specs.Drafts.{Drafted}
use Rattle.fv_first.specs.First.{first_in, first_where}
use Rattle.fv_message.specs.Judged.{fits}
use Rattle.fv_message.specs.Reading.{is_template}
use Rattle.fv_message.specs.Whereabouts as message
use Rattle.fv_message.specs.declared.fault.MessageFault.{MessageFault}
use Rattle.fv_message.specs.declared.fault.MessageFault.TheVariants.{TooLarge, MessageSyntax, MessageCycle}
use Rattle.fv_message.specs.declared.fault.MessagesAt.{MessagesAt}
use Rattle.fv_message.specs.declared.fault.PlacedMessageFault.{PlacedMessageFault}
use Rattle.fv_declare_judging.specs.Judging.{is_wordy}
use Rattle.fv_declare_judging.specs.Wording.{IsTooLarge}
use Rattle.fv_declare_judging.specs.declared.placed.WordingAt.{WordingAt}
use Rattle.fv_declare_judging.specs.declared.placed.WordingAt.TheVariants as at
use Rattle.fv_declare_judging.specs.declared.placed.PlacedWording.{PlacedWording}
use Rattle.fv_declare_judging.specs.declared.templates.TemplateFlaw.{TemplateFlaw}
use Rattle.fv_declare_judging.specs.declared.templates.TemplateFlaw.TheVariants.{Long, Misspelt}

-- a text has a flaw as a template
abbrev pub has_flaw : TemplateFlaw → List ℕ → Bool
has_flaw Long text = not (fits text)
has_flaw Misspelt text = not (is_template text)

-- the same of a text that may be missing
abbrev pub is_flawed : TemplateFlaw → Option (List ℕ) → Bool
is_flawed flaw told = option_map_or (has_flaw flaw) told false

-- the first use with a flawed message
abbrev pub flawed_use : TemplateFlaw → List DraftUse → Option WordingAt
flawed_use flaw us = first_in (λ n u. if is_flawed flaw u.draft.message then Some (at.Use n) else None) us

-- the first composing constraint with a flawed message
abbrev pub flawed_composing : TemplateFlaw → List Composing → Option ℕ
flawed_composing flaw cs = first_where (λ c. is_flawed flaw c.message) cs

-- a declared constraint's own message, else the first of those that it is composed of
abbrev pub flawed_definition : TemplateFlaw → ℕ → List ℕ × Definition → Option WordingAt
flawed_definition flaw n c = if is_flawed flaw c.1.message then Some (at.Definition n) else option_map (at.Composing n) (flawed_composing flaw c.1.composing)

-- the first template with a flaw: of uses, then of declared constraints
abbrev pub flawed_template : TemplateFlaw → List DraftUse → Definitions → Option WordingAt
flawed_template flaw us ds = option_or (flawed_use flaw us) (first_in (flawed_definition flaw) ds)

-- a flaw of templates or the fault of messages that is one: the first such template, else where the messages have the fault
abbrev pub IsFlawedAt : Drafted → TemplateFlaw → MessageFault → Option WordingAt → Type 0
IsFlawedAt d flaw fault found =
    let told = flawed_template flaw (uses_in d.types) d.definitions in
    ((found ≡ told) × IsTrue (is_some told))
    ⊎ ((told ≡ None) × ((m : Option MessagesAt) × message.IsAt d.messages fault m × (found ≡ option_map at.Messages m)))

-- where the wording has a fault; a cycle of keys is told by itself
abbrev pub IsWordedAt : Drafted → MessageFault → Option WordingAt → Type 0
IsWordedAt d TooLarge found = IsFlawedAt d Long TooLarge found
IsWordedAt d MessageSyntax found = IsFlawedAt d Misspelt MessageSyntax found
IsWordedAt d _ found = found ≡ None

-- which limit of the wording is passed, if one is
abbrev pub IsWordyAt : Drafted → Option WordingAt → Type 0
IsWordyAt d None = IsTooLarge d → ⊥
IsWordyAt d (Some p) = IsTooLarge d × IsWordedAt d TooLarge (Some p)

-- ---- for private clauses

-- a fault of the wording at its place
abbrev pub worded_at : MessageFault → Option WordingAt → PlacedWording
worded_at fault at = record { fault = fault; at = at }

-- a fault of messages, where a template may be misspelt beside them
abbrev pub worded : Option WordingAt → MessageFault → Option MessagesAt → PlacedWording
worded (Some p) MessageSyntax _ = worded_at MessageSyntax (Some p)
worded (Some p) MessageCycle _ = worded_at MessageSyntax (Some p)
worded _ fault m = worded_at fault (option_map at.Messages m)

-- what is found of messages, where a template may be misspelt beside them
abbrev pub judged_with : {T : Type 0} → Option WordingAt → Result T PlacedMessageFault → Result T PlacedWording
judged_with misspelt (Err p) = Err (worded misspelt p.fault p.at)
judged_with (Some p) (Ok messages) = Err (worded_at MessageSyntax (Some p))
judged_with None (Ok messages) = Ok messages

-- the fault that is told of the wording, if one is
abbrev pub fault_told : {T : Type 0} → Result T PlacedWording → Option MessageFault
fault_told (Ok messages) = None
fault_told (Err p) = Some p.fault

-- the limit that is told of it, if one is
abbrev pub limit_told : {T : Type 0} → Result T PlacedWording → Option WordingAt
limit_told (Ok messages) = None
limit_told (Err p) = if is_wordy (Some p.fault) then p.at else None
