-- The first fault of a draft's wording, by that of its messages, and its place.
use Rattle.std.proofs.Common.{◌≡◌, ◌≢◌, false, Option, Some, None, option_map, is_some, Result, Ok, Err, IfOk, IfErr, MatchResult, inl, inr, refl, sym, ap, subst, ◌∙◌, true≢false}
use Rattle.fv_declare_draft.specs.AllUses.{uses_in}
use Rattle.fv_declare_draft.specs.Drafts.{Drafted}
use Rattle.fv_message.specs.Judged.{IsLarge, IsMisspelt, AreSound, IsFault}
use Rattle.fv_message.specs.Table.{Messages, all_messages}
use Rattle.fv_message.specs.Whereabouts as message
use Rattle.fv_message.specs.declared.fault.MessageFault.{MessageFault}
use Rattle.fv_message.specs.declared.fault.MessageFault.TheVariants.{TooLarge, MessageSyntax, MessageCycle, Memory}
use Rattle.fv_message.specs.declared.fault.MessagesAt.{MessagesAt}
use Rattle.fv_message.specs.declared.fault.PlacedMessageFault.{PlacedMessageFault}
use Rattle.fv_declare_judging.specs.Templates.{templates, has_long}
use Rattle.fv_declare_judging.specs.Wording.{IsTooLarge, IsIllWritten, IsFirstFault}
use Rattle.fv_declare_judging.specs.WordingPlaces.{flawed_template, worded, judged_with, IsWordedAt}
use Rattle.fv_declare_judging.specs.declared.placed.PlacedWording.{PlacedWording}
use Rattle.fv_declare_judging.specs.declared.placed.WordingAt.{WordingAt}
use Rattle.fv_declare_judging.specs.declared.templates.TemplateFlaw.TheVariants.{Long, Misspelt}
use Rattle.fv_declare_judging.proofs.Flawed.{flawed_told, misspelt_told}

module _ (d : Drafted) where
  -- what is found of the messages by themselves
  abbrev pub IsFound : Result Messages PlacedMessageFault → Type 0
  IsFound found = MatchResult found (λ m. (m ≡ all_messages d.messages) × AreSound d.messages) (λ e. IsFault d.messages e.fault × message.IsAt d.messages e.fault e.at)

  -- and what of all
  abbrev pub IsJudged : Result Messages PlacedWording → Type 0
  IsJudged (Ok m) = (m ≡ all_messages d.messages) × IsFirstFault d None
  IsJudged (Err p) = p.fault ≢ Memory → IsFirstFault d (Some p.fault) × IsWordedAt d p.fault p.at

  -- a template that is too long is the first fault
  pub long_first : (p : WordingAt) → Some p ≡ flawed_template Long (uses_in d.types) d.definitions → IsTooLarge d
  long_first p is = inl (sym (flawed_told Long d) ∙ sym (ap is_some is))

  module _ (none : flawed_template Long (uses_in d.types) d.definitions ≡ None) where
    short : has_long (templates d) ≡ false
    short = sym (flawed_told Long d) ∙ ap is_some none

    -- where no template is too long, only the messages can be
    not_large : (IsLarge d.messages → ⊥) → IsTooLarge d → ⊥
    not_large small (inl long) = true≢false (sym long ∙ short)
    not_large small (inr large) = small large

    module _ (misspelt : Option WordingAt) (is : misspelt ≡ flawed_template Misspelt (uses_in d.types) d.definitions) where
      ill : (p : WordingAt) → misspelt ≡ Some p → IsIllWritten d
      ill p so = inl ((misspelt_told d).0 (ap is_some (sym is ∙ so)))

      at_template : (p : WordingAt) → misspelt ≡ Some p → IsWordedAt d MessageSyntax (Some p)
      at_template p so = inl (sym so ∙ is, ap is_some (sym is ∙ so))

      well : misspelt ≡ None → (IsMisspelt d.messages → ⊥) → IsIllWritten d → ⊥
      well so other (inl one) = true≢false (sym ((misspelt_told d).1 one) ∙ ap is_some (sym is ∙ so))
      well so other (inr two) = other two

      refused_if : (o : Option WordingAt) (f : MessageFault) (at : Option MessagesAt) → misspelt ≡ o → IsFault d.messages f → message.IsAt d.messages f at → IsJudged (Err (worded o f at))
      refused_if (Some p) TooLarge at so fault placed = λ other. (inr fault, inr (none, (at, placed, refl)))
      refused_if None TooLarge at so fault placed = λ other. (inr fault, inr (none, (at, placed, refl)))
      refused_if (Some p) Memory at so fault placed = λ other. absurd (other refl)
      refused_if None Memory at so fault placed = λ other. absurd (other refl)
      refused_if (Some p) MessageSyntax at so fault placed = λ other. ((not_large fault.0, ill p so), at_template p so)
      refused_if None MessageSyntax at so fault placed = λ other. ((not_large fault.0, inr fault.1), inr (sym is ∙ so, (at, placed, refl)))
      refused_if (Some p) MessageCycle at so fault placed = λ other. ((not_large fault.0, ill p so), at_template p so)
      refused_if None MessageCycle at so fault placed = λ other. ((not_large fault.0, well so fault.1, fault.2), ap (option_map _) placed)

      judged_if : (o : Option WordingAt) (found : Result Messages PlacedMessageFault) → misspelt ≡ o → IsFound found → IsJudged (judged_with o found)
      judged_if (Some p) (Ok m) so found = λ other. ((not_large found.1.small, ill p so), at_template p so)
      judged_if None (Ok m) so found = (found.0, (not_large found.1.small, well so found.1.spelt, found.1.no_cycle))
      judged_if (Some p) (Err e) so found = refused_if (Some p) e.fault e.at so found.0 found.1
      judged_if None (Err e) so found = refused_if None e.fault e.at so found.0 found.1

      pub judged : (found : Result Messages PlacedMessageFault) (told : Result Messages PlacedWording) → IsFound found → told ≡ judged_with misspelt found → IsJudged told
      judged found told h e = subst IsJudged (sym e) (judged_if misspelt found refl h)

  pub taken : (told : Result Messages PlacedWording) → IsJudged told → IfOk told (λ m. (m ≡ all_messages d.messages) × IsFirstFault d None)
  taken (Ok m) h = h
  taken (Err p) h = tt

  pub refused : (told : Result Messages PlacedWording) → IsJudged told → IfErr told (λ p. p.fault ≢ Memory → IsFirstFault d (Some p.fault))
  refused (Ok m) h = tt
  refused (Err p) h = λ other. (h other).0

  pub placed : (told : Result Messages PlacedWording) → IsJudged told → IfErr told (λ p. p.fault ≢ Memory → IsWordedAt d p.fault p.at)
  placed (Ok m) h = tt
  placed (Err p) h = λ other. (h other).1
