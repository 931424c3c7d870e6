use Rattle.std.proofs.Common.{◌≡◌, ◌+◌, ◌≤◌, ◌-◌, ◌++◌, ◌∷◌, ◌∙◌, ℕ, List, [], length, sym, subst, arith}
use Rattle.std.proofs.lemmas.List.{length_push}
use Rattle.fv_explain.specs.Explained.{IsGroupLine, TellsGroup}
use Rattle.fv_explain.proofs.Adding.{adds_then, lines_push}
use Rattle.fv_explain.proofs.declared.add_groups.Goals as goal

pub loop-index-preserved : goal.loop-index-preserved
loop-index-preserved c =
    let was = c.loop-index.invariant in
    let one = c.in_ok-add.ensures in
    let gs = c.args.groups.now in
    let few : length was.0 + 1 ≡ c.loop-index.index = was.2 in
    let longer : length (was.0 ++ one.0 ∷ []) ≡ length was.0 + 1 = length_push was.0 one.0 in (
      was.0 ++ one.0 ∷ [],
      adds_then c.args.lines.now c.loop-index.lines c.add.new.self was.0 (one.0 ∷ []) was.1 one.1,
      omega arith,
      omega arith,
      lines_push (TellsGroup c.args.lines.now.json gs) 1 c.loop-index.index was.0 one.0 was.4 (omega arith)
          (λ plain. subst (IsGroupLine gs c.loop-index.index) (sym (one.2 (was.1.1 ∙ plain))) c.in_ok-line.ensures),
    )

pub returns : goal.returns
returns c =
    let was = c.loop-index.invariant in
    let few : length was.0 + 1 ≡ c.loop-index.index = was.2 in
    let most : length was.0 ≤ length c.args.groups.now - 1 = was.3 in
    (was.0, was.1, record { each = omega arith; are = was.4 })
