use Rattle.std.proofs.Common.{◌≡◌, rules, ◌∙◌}
use Rattle.std.proofs.Math.Bool.{Bool-set}
use Rattle.std.proofs.Math.Logic.{∥∥₁_elim}
use Rattle.regex.specs.Strings.{regex_source}
use Rattle.fv_builtin.proofs.Alike.{match_alike}
use Rattle.fv_builtin.proofs.compiled.Kept.answer.Goals as goal

pub returns-then-text-gt-LONG : goal.returns-then-text-gt-LONG
returns-then-text-gt-LONG c =
    let same : regex_source c.args.self.now.regex.now ≡ regex_source c.args.regex.now = search rules in
    ∥∥₁_elim c.args.self.now.read (Bool-set _ _) (λ h. ∥∥₁_elim c.requires (Bool-set _ _) (λ g.
    c.in_ok-found.ensures ∙ match_alike c.args.self.now.regex.now c.args.regex.now same h g c.args.text.now (λ k. (c.type_inv.text k).fits)))

pub returns-else-text-gt-LONG : goal.returns-else-text-gt-LONG
returns-else-text-gt-LONG c =
    let same : regex_source c.args.self.now.regex.now ≡ regex_source c.args.regex.now = search rules in
    ∥∥₁_elim c.args.self.now.read (Bool-set _ _) (λ h. ∥∥₁_elim c.requires (Bool-set _ _) (λ g.
    c.in_ok-found.ensures ∙ match_alike c.args.self.now.regex.now c.args.regex.now same h g c.args.text.now (λ k. (c.type_inv.text k).fits)))
