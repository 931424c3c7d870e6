use Rattle.std.proofs.Common.{◌≡◌, ◌||◌, ◌∙◌, Bool, false, nat_lt, length, Option, Some, None, is_some, inl, inr, sym, ap, subst, arith}
use Rattle.std.proofs.lemmas.Result.{err_from_is_err_and}
use Rattle.std.proofs.lemmas.Bool.{or_cases, or_parts, ltb-true, ltb-false, both_ways}
use Rattle.fv_message.specs.Judged.{has_long_text, IsLarge, HasLongKey, IsMisspelt, IsFault}
use Rattle.fv_message.specs.Judging.{is_misspelt, misspelt_in, AreWhole, IsFaultOf, IsFoundAt}
use Rattle.fv_message.specs.Table.{Messages, all_messages}
use Rattle.fv_message.specs.Numbers.{AreReadable, AreNamed}
use Rattle.fv_message.specs.Views.{messages_view}
use Rattle.fv_message.specs.Whereabouts.{large_in, IsMisspeltIn, IsAt}
use Rattle.fv_message.specs.declared.fault.MessageFault.{MessageFault}
use Rattle.fv_message.specs.declared.fault.MessageFault.TheVariants.{TooLarge, MessageSyntax, MessageCycle, Memory}
use Rattle.fv_message.specs.declared.fault.MessagesAt.{MessagesAt}
use Rattle.fv_message.specs.declared.fault.PlacedMessageFault.{PlacedMessageFault}
use Rattle.fv_message.proofs.Becoming.{misspelt_is, misspelt_of}
use Rattle.fv_message.proofs.Built.{all_readable}
use Rattle.fv_message.proofs.Named.{all_named}
use Rattle.fv_message.proofs.Placed.{large_told, misspelt_told, misspelt_first}
use Rattle.fv_message.proofs.messages.Messages.read_placed.Goals as goal

-- too many messages, or a text that is too long
large_of : (user : Messages) (found : Option MessagesAt) (p : MessagesAt) → found ≡ large_in user → found ≡ Some p → IsLarge user
large_of user found p same is = elim (or_cases (nat_lt 1024 (length user)) (has_long_text user) (sym (large_told user) ∙ ap is_some (sym same ∙ is))) [
  | inl many ↦ inl (ltb-true 1024 (length user) many)
  | inr long ↦ inr (inl long)
]

not_large : (user : Messages) → large_in user ≡ None → (nat_lt 1024 (length user) || has_long_text user) ≡ false
not_large user none = sym (large_told user) ∙ ap is_some none

small_of : (user : Messages) → large_in user ≡ None → (HasLongKey (all_messages user) → ⊥) → IsLarge user → ⊥
small_of user e none (inl many) = let few = ltb-false 1024 (length user) (or_parts (nat_lt 1024 (length user)) (has_long_text user) (not_large user e)).0 in omega (arith, few, many)
small_of user e none (inr (inl long)) = both_ways (has_long_text user) (or_parts (nat_lt 1024 (length user)) (has_long_text user) (not_large user e)).1 long
small_of user e none (inr (inr key)) = none key

well_of : (user : Messages) → is_misspelt user ≡ false → IsMisspelt user → ⊥
well_of user well ill = both_ways (is_misspelt user) well (misspelt_of user ill)

-- the first fault of the user's messages, of that of all messages
fault_of : (user : Messages) (misspelt : Bool) (e : MessageFault) → large_in user ≡ None → misspelt ≡ is_misspelt user
    → IsFaultOf (all_messages user) misspelt e → IsFault user e
fault_of user misspelt TooLarge few same f = inr (inr f)
fault_of user misspelt MessageSyntax few same f = (small_of user few f.0, misspelt_is user (sym same ∙ f.1))
fault_of user misspelt MessageCycle few same f = (small_of user few f.0, well_of user (sym same ∙ f.1), f.2)
fault_of user misspelt Memory few same f = tt

-- and its place
at_of : (user : Messages) (misspelt : Option MessagesAt) (e : MessageFault) (found : Option MessagesAt) → large_in user ≡ None → misspelt ≡ misspelt_in user
    → IsFoundAt (all_messages user) misspelt e found → IsAt user e found
at_of user misspelt TooLarge found few same f = inr (few, f)
at_of user misspelt MessageSyntax found few same f = (subst (λ (o : Option MessagesAt). IsMisspeltIn user o) (sym (f.0 ∙ same)) (misspelt_first user), f.1)
at_of user misspelt MessageCycle found few same f = f
at_of user misspelt Memory found few same f = f

told_of : (user : Messages) (misspelt : Option MessagesAt) → misspelt ≡ misspelt_in user → is_some misspelt ≡ is_misspelt user
told_of user misspelt same = ap is_some same ∙ misspelt_told user

pub expansions_of-requires : goal.expansions_of-requires
expansions_of-requires c = λ none.
    let user = messages_view c.args.user in
    subst (λ (ms : Messages). AreReadable ms) (sym c.in_ok-keys.ensures) (all_readable user (sym (told_of user c.misspelt_in-misspelt.result c.misspelt_in-misspelt.ensures) ∙ ap is_some none))

pub returns-in-Some-clause-judged : goal.returns-in-Some-clause-judged
returns-in-Some-clause-judged c = large_of (messages_view c.args.user) c.large_in.result c.in-Some.at c.large_in.ensures c.in-Some.is

pub returns-in_err-expansions-clause-judged : goal.returns-in_err-expansions-clause-judged
returns-in_err-expansions-clause-judged c =
    let user = messages_view c.args.user in
    let misspelt = c.misspelt_in-misspelt.result in
    let f = c.in_err-expansions.field-0.0 in
    let p = err_from_is_err_and c.from_residual-in_err-expansions.result c.from_residual-in_err-expansions.ensures.1 in
    rw p.1
    (subst (λ (e : PlacedMessageFault). IsFault user e.fault) (sym p.2)
    (fault_of user (is_some misspelt) f.fault (sym c.large_in.ensures ∙ c.in_default.is) (told_of user misspelt c.misspelt_in-misspelt.ensures)
    (subst (λ (ms : Messages). IsFaultOf ms (is_some misspelt) f.fault) c.in_ok-keys.ensures c.in_err-expansions.ensures.judged)))

pub returns-in_err-expansions-clause-placed : goal.returns-in_err-expansions-clause-placed
returns-in_err-expansions-clause-placed c =
    let user = messages_view c.args.user in
    let misspelt = c.misspelt_in-misspelt.result in
    let f = c.in_err-expansions.field-0.0 in
    let p = err_from_is_err_and c.from_residual-in_err-expansions.result c.from_residual-in_err-expansions.ensures.1 in
    rw p.1
    (subst (λ (e : PlacedMessageFault). IsAt user e.fault e.at) (sym p.2)
    (at_of user misspelt f.fault f.at (sym c.large_in.ensures ∙ c.in_default.is) c.misspelt_in-misspelt.ensures
    (subst (λ (ms : Messages). IsFoundAt ms misspelt f.fault f.at) c.in_ok-keys.ensures c.in_err-expansions.ensures.placed)))

pub invariant_of-result : goal.invariant_of-result
invariant_of-result c =
    let user = messages_view c.args.user in
    let whole = c.in_ok-expansions.ensures.judged in
    let well = sym (told_of user c.misspelt_in-misspelt.result c.misspelt_in-misspelt.ensures) ∙ whole.1.spelt in (
      whole.0,
      subst (λ (ms : Messages). AreNamed ms) (sym c.in_ok-keys.ensures) (all_named user well),
      subst (λ (ms : Messages). AreReadable ms) (sym c.in_ok-keys.ensures) (all_readable user well),
      whole.1.no_cycle,
    )

pub returns-clause-judged : goal.returns-clause-judged
returns-clause-judged c =
    let user = messages_view c.args.user in
    let misspelt = c.misspelt_in-misspelt.result in
    let whole = subst (λ (ms : Messages). AreWhole ms (is_some misspelt)) c.in_ok-keys.ensures c.in_ok-expansions.ensures.judged.1 in (
      c.in_ok-keys.ensures,
      record {
        small = small_of user (sym c.large_in.ensures ∙ c.in_default.is) whole.small;
        spelt = well_of user (sym (told_of user misspelt c.misspelt_in-misspelt.ensures) ∙ whole.spelt);
        no_cycle = whole.no_cycle;
      },
    )
