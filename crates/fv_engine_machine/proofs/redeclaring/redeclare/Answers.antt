use Rattle.std.proofs.Common.{◌≡◌, false, subst, ap, ◌∙◌}
use Rattle.std.proofs.lemmas.Int.{to_z-of_z}
use mir.Syntax.{w64}
use Rattle.fv_declare_schema.specs.Declarations.{Declarations}
use Rattle.fv_engine_machine.proofs.Redeclared.{is_decl_memory, is_misdeclared}
use Rattle.fv_bundle.specs.Types.{Declared, has_deep}
use Rattle.fv_store.specs.Stock.{stock_state}
use Rattle.fv_engine_machine.proofs.redeclaring.redeclare.Goals as goal

pub returns-in-Err : goal.returns-in-Err
returns-in-Err g c =
    is_misdeclared (stock_state g.S.Store) g.R.RuleSet.meaning (g.R.RuleSet.known c.args.rules.now) c.args.text.now c.args.now c.args.book.now c.args.store.now c.in-Err.fault _
    c.misdeclared.ensures.memory c.misdeclared.ensures.other (rw c.as_bytes.ensures.value at c.in-Err.ensures.refused) (is_decl_memory c.in-Err.fault)

pub returns-in-Ok-put_in_force : goal.returns-in-Ok-put_in_force
returns-in-Ok-put_in_force g c =
    let ds = c.args.book.now in
    let shallow : has_deep ds.types ≡ false = subst (λ (ts : Declared). has_deep ts ≡ false) (c.types.ensures ∙ ap (λ (d : Declarations). d.types) c.schema.ensures) c.are_shallow.ensures in
    let done = rw (to_z-of_z w64 c.args.now c.ranges.now) at c.in-Ok-put_in_force.ensures in
    rw c.replace.ensures.after (done (g.R.RuleSet.known c.args.rules.now) ds shallow (rw c.as_bytes.ensures.value at c.in-Ok.ensures.taken))

pub returns-in-Err-put_in_force : goal.returns-in-Err-put_in_force
returns-in-Err-put_in_force g c =
    let ds = c.args.book.now in
    let shallow : has_deep ds.types ≡ false = subst (λ (ts : Declared). has_deep ts ≡ false) (c.types.ensures ∙ ap (λ (d : Declarations). d.types) c.schema.ensures) c.are_shallow.ensures in
    let done = rw (to_z-of_z w64 c.args.now c.ranges.now) at c.in-Err-put_in_force.ensures in
    done (g.R.RuleSet.known c.args.rules.now) ds shallow (rw c.as_bytes.ensures.value at c.in-Ok.ensures.taken)
