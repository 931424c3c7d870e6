use Rattle.std.proofs.Common.{◌≡◌, ◌++◌, ◌∷◌, ◌∙◌, [], ap, sym, subst, true}
use Rattle.fv_declare_schema.specs.Groups.{Inherits}
use Rattle.fv_explain.specs.Lines.{names_in}
use Rattle.fv_explain.proofs.Below.{below_add, below_skip}
use Rattle.fv_explain.proofs.Names.{names_push}
use Rattle.fv_explain.proofs.declared.inherited.Goals as goal
use Rattle.fv_explain.proofs.declared.inherited.Goals.{then-inherits+in_ok-push, else-inherits}

pub loop-index-preserved : goal.loop-index-preserved
loop-index-preserved c =
    let was = c.loop-index.invariant in
    let P = Inherits c.args.groups.now c.args.group.index in
    let n = c.loop-index.index in
    elim c.if-inherits.branch [
      | then-inherits+in_ok-push w ↦ (
        was.0 ++ n ∷ [],
        below_add n P was.0 (c.inherits.ensures.0 w.if-inherits.true) was.1,
        rw (w.names-is, w.in_ok-push.ensures.items) (names_push _ _ was.0 _ n was.2 w.name.ensures),
      )
      | else-inherits w ↦ (
        was.0,
        below_skip n P was.0 (λ p. let yes : c.inherits.result ≡ true = c.inherits.ensures.1 p in cc (yes, w.if-inherits.false)) was.1,
        rw w.names-is was.2,
      )
    ]
