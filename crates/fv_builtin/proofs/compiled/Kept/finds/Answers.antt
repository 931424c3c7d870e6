use Rattle.std.proofs.Common.{◌≡◌, sym, ap, subst, ◌∙◌, is_some}
use Rattle.std.proofs.lemmas.Option.{same_Some}
use Rattle.std.proofs.Math.Bool.{Bool-set}
use Rattle.std.proofs.Math.Logic.{∥∥₁_elim, ∥∥₁_prop}
use Rattle.regex.specs.Patterns.{find_str}
use Rattle.regex.specs.Strings.{regex_pattern, matcher_pattern}
use Rattle.fv_builtin.proofs.compiled.Kept.finds.Goals as goal

pub invariant_of-self : goal.invariant_of-self
invariant_of-self c = record {
  same = ∥∥₁_elim c.in_ok-matcher.ensures.own ∥∥₁_prop (λ h. ∣ (λ m is.
      subst (λ b. matcher_pattern b.value ≡ regex_pattern c.taken.new.self.regex.now) (same_Some _ _ is)
      (c.is_match-found.ensures.same ∙ ap matcher_pattern c.deref_mut.ensures.value ∙ h ∙ ap regex_pattern (sym c.taken.ensures.same))) ∣₁);
  read = c.taken.new.self.read;
}

pub returns : goal.returns
returns c = ∥∥₁_elim c.in_ok-matcher.ensures.own (Bool-set _ _) (λ h.
    c.is_match-found.ensures.found ∙ ap (λ re. is_some (find_str re c.args.text.now 0)) (ap matcher_pattern c.deref_mut.ensures.value ∙ h))
