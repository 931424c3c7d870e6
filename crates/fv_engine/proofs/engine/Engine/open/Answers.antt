use Rattle.std.proofs.Common.{◌≡◌, Some, false, inl, inr, ap, sym, subst, ◌∙◌}
use Rattle.sqlite.specs.Held.{state}
use Rattle.sqlite.specs.State.{HasCleanDisk}
use Rattle.fv_declare_schema.specs.Declarations.{Declarations}
use Rattle.fv_bundle.specs.Types.{Declared, has_deep}
use Rattle.fv_store.specs.Records.{Contents}
use Rattle.fv_store.specs.Stands.{Opens}
use Rattle.fv_store.specs.Stock.{stock_state}
use Rattle.fv_store.specs.Steps.{IsUpgraded}
use Rattle.fv_store.specs.declared.fault.OpenStoreFault.TheVariants.{OtherVersion}
use Rattle.fv_engine.proofs.DeclaredOnce.{same_contents}
use Rattle.fv_engine.specs.Openings.{DeclaresSome, IsLeft}
use Rattle.fv_engine.proofs.Openings.{left_by, memory_apart, store_alone, store_cause, text_alone, text_told}
use Rattle.fv_engine.proofs.engine.Engine.open.Goals as goal

pub returns-in-Err-open-clause-other_version : goal.returns-in-Err-open-clause-other_version
returns-in-Err-open-clause-other_version g c = λ is clean.
    let other = store_cause c.in-Err-open.fault _ _ c.store_fault.ensures.memory c.store_fault.ensures.other is in
    let it = c.in-Err-open.ensures.refused other clean in
    (it.0, it.1, c.in-Err-open.ensures.other_version other clean)

pub returns-in-Err-open-clause-store : goal.returns-in-Err-open-clause-store
returns-in-Err-open-clause-store g c = λ is clean outside.
    c.in-Err-open.ensures.store (store_cause c.in-Err-open.fault _ _ c.store_fault.ensures.memory c.store_fault.ensures.other is) clean outside

pub returns-in-Err-open-clause-left : goal.returns-in-Err-open-clause-left
returns-in-Err-open-clause-left g c = inl c.in-Err-open.ensures.untouched

pub returns-in-Err-open-clause-stays : goal.returns-in-Err-open-clause-stays
returns-in-Err-open-clause-stays g c = λ k shallow opens. c.in-Err-open.ensures.stays k opens

pub returns-in-Err-open-clause-refused : goal.returns-in-Err-open-clause-refused
returns-in-Err-open-clause-refused g c = λ fault is. absurd (store_alone c.in-Err-open.fault fault _ c.store_fault.ensures.memory c.store_fault.ensures.other is)

pub returns-in-Err-open-clause-memory : goal.returns-in-Err-open-clause-memory
returns-in-Err-open-clause-memory g c = memory_apart c.in-Err-open.fault _ c.store_fault.ensures.memory c.store_fault.ensures.other

pub returns-in-Ok-in_force-clause-in_force : goal.returns-in-Ok-in_force-clause-in_force
returns-in-Ok-in_force-clause-in_force g c = record {
  opened = λ clean k opens. c.in-Ok-open.ensures.in_force clean k opens;
  told = λ clean version d tells. c.in-Ok-open.ensures.taken clean version d tells;
  shown = λ clean filled. c.in-Ok-open.ensures.kept clean filled;
}

pub returns-in-Ok-in_force-clause-opened : goal.returns-in-Ok-in_force-clause-opened
returns-in-Ok-in_force-clause-opened g c = λ known ds m declares opens.
    let now = rw c.declarations.ensures at c.in-Ok-in_force.ensures.taken in
    let same = same_contents _ known _ c.in-Ok-in_force.book ds m now declares in
    let book : Declarations = c.in-Ok-in_force.book in
    let shallow : has_deep book.types ≡ false = subst (λ (ts : Declared). has_deep ts ≡ false) (c.types.ensures ∙ ap (λ (d : Declarations). d.types) c.schema.ensures) c.are_shallow.ensures in
    c.in-Ok-open.ensures.opened _ shallow (subst (λ (k : Contents). Opens (state g.S.Store c.args.connection) c.args.declarations.now k) (sym same) opens)

pub returns-in-Err-in_force-clause-refused : goal.returns-in-Err-in_force-clause-refused
returns-in-Err-in_force-clause-refused g c = λ fault is.
    let old = state g.S.Store c.args.connection in
    let told = rw (c.declarations.ensures, c.in-Ok.ensures) at (text_told _ c.in-Err-in_force.fault fault c.in-Err-in_force.ensures.refused.1 is) in
    inr (
      (_, rw c.in-Ok.ensures at c.in-Ok-read_rulebook.ensures.taken),
      (
        _,
        record {
          opened = λ clean k opens. c.in-Ok-open.ensures.in_force (subst (λ s. HasCleanDisk (state g.S.Store s)) c.into_connection.ensures.same clean) k opens;
          told = λ clean version d tells. c.in-Ok-open.ensures.taken (subst (λ s. HasCleanDisk (state g.S.Store s)) c.into_connection.ensures.same clean) version d tells;
          shown = λ clean filled. c.in-Ok-open.ensures.kept (subst (λ s. HasCleanDisk (state g.S.Store s)) c.into_connection.ensures.same clean) filled;
        },
        told,
      ),
      subst (λ s. IsUpgraded old (state g.S.Store s)) (sym c.into_connection.ensures.same) c.in-Ok-open.ensures.upgraded,
    )

pub returns-in-Err-in_force-clause-stays : goal.returns-in-Err-in_force-clause-stays
returns-in-Err-in_force-clause-stays g c = λ k shallow opens. inr (inl (c.into_connection.ensures.holds k (c.in-Ok-open.ensures.opened k shallow opens)))

pub returns-in-Err-in_force-clause-other_version : goal.returns-in-Err-in_force-clause-other_version
returns-in-Err-in_force-clause-other_version g c = λ is. absurd (text_alone _ c.in-Err-in_force.fault OtherVersion c.in-Err-in_force.ensures.refused.1 is)

pub returns-in-Err-in_force-clause-left : goal.returns-in-Err-in_force-clause-left
returns-in-Err-in_force-clause-left g c =
    let old = state g.S.Store c.args.connection in
    let fault = c.in-Err-in_force.fault in
    let told = c.in-Err-in_force.ensures.refused in
    let known = g.R.RuleSet.known c.args.rules in
    let some : DeclaresSome known c.args.declarations.now = (_, rw c.in-Ok.ensures at c.in-Ok-read_rulebook.ensures.taken) in
    subst (λ s. IsLeft known c.args.declarations.now old (state g.S.Store s) fault) (sym c.into_connection.ensures.same)
    (left_by known c.args.declarations.now old (stock_state g.S.Store c.in-Ok-open.store) fault some (c.in-Ok-open.ensures.still (λ blank. told.0 (c.declarations.ensures ∙ c.in-Ok-open.ensures.fresh blank))) c.in-Ok-open.ensures.upgraded
    (λ f is. text_alone _ fault f told.1 is))
