use Rattle.std.proofs.Common.{codes}
use Rattle.std.proofs.KnownBytes.{Appends-trans}
use Rattle.std.proofs.lemmas.Result.{err_from_is_err_and, on_err_weaker, on_ok_weaker}
use Rattle.formd_words.proofs.Writes.{breaks_before, breaks_then}
use Rattle.formd_words.proofs.failure.Failure.write.Goals as goal

pub returns-in-NotUtf8-clause-told : goal.returns-in-NotUtf8-clause-told
returns-in-NotUtf8-clause-told g c = rw c.in-NotUtf8.is c.write_text.ensures.told

pub returns-in-Unreadable-clause-told : goal.returns-in-Unreadable-clause-told
returns-in-Unreadable-clause-told g c = rw c.in-Unreadable.is c.write_text-in-Unreadable.ensures.told

pub returns-in-CannotOpen-clause-told : goal.returns-in-CannotOpen-clause-told
returns-in-CannotOpen-clause-told g c = rw c.in-CannotOpen.is c.write_text-in-CannotOpen.ensures.told

pub returns-in-UnknownForm-clause-told : goal.returns-in-UnknownForm-clause-told
returns-in-UnknownForm-clause-told g c = rw c.in-UnknownForm.is c.write_text-in-UnknownForm.ensures.told

pub returns-in-Read-clause-told : goal.returns-in-Read-clause-told
returns-in-Read-clause-told g c = rw c.in-Read.is c.write_text-in-Read.ensures.told

pub returns-in-Write-clause-told : goal.returns-in-Write-clause-told
returns-in-Write-clause-told g c = rw c.in-Write.is c.write_text-in-Write.ensures.told

pub returns-in-Memory-clause-told : goal.returns-in-Memory-clause-told
returns-in-Memory-clause-told g c = rw c.in-Memory.is c.write_text-in-Memory.ensures.told

pub returns-in_err-write_text-in-Declarations-clause-failed : goal.returns-in_err-write_text-in-Declarations-clause-failed
returns-in_err-write_text-in-Declarations-clause-failed g c =
    let p = err_from_is_err_and c.from_residual.result c.from_residual.ensures.1 in
    rw (p.1, c.in-Declarations.is) (breaks_before g.E.Output.contents g.E.Output.takes g.E.Output.fails _ _ (codes "formd: declarations refused: ") _ c.in_err-write_text-in-Declarations.ensures.failed)

pub returns-in_err-write_text-in-Declarations-2-clause-failed : goal.returns-in_err-write_text-in-Declarations-2-clause-failed
returns-in_err-write_text-in-Declarations-2-clause-failed g c =
    let p = err_from_is_err_and c.from_residual-in_err-write_text-in-Declarations-2.result c.from_residual-in_err-write_text-in-Declarations-2.ensures.1 in
    rw (p.1, c.in-Declarations.is, ← c.code.ensures) (breaks_then g.E.Output.contents g.E.Output.takes g.E.Output.fails _ _ (codes "formd: declarations refused: ") _ _ c.in_ok-write_text-in-Declarations.ensures.told c.in_ok-write_text-in-Declarations.ensures.took
    (breaks_before g.E.Output.contents g.E.Output.takes g.E.Output.fails _ _ c.code.result.now _ c.in_err-write_text-in-Declarations-2.ensures.failed))

pub returns-in_ok-write_text-in-Declarations-2-clause-told : goal.returns-in_ok-write_text-in-Declarations-2-clause-told
returns-in_ok-write_text-in-Declarations-2-clause-told g c =
    rw (c.in-Declarations.is, ← c.code.ensures, ← c.name.ensures)
    (on_ok_weaker c.write_named.result (λ wrote. Appends-trans _ (g.E.Output.contents c.write_text-in-Declarations.new.error) _ (codes "formd: declarations refused: ") _ c.in_ok-write_text-in-Declarations.ensures.told
    (Appends-trans _ (g.E.Output.contents c.write_text-in-Declarations-2.new.error) _ c.code.result.now _ c.in_ok-write_text-in-Declarations-2.ensures.told wrote)) c.write_named.ensures.told)

pub returns-in_ok-write_text-in-Declarations-2-clause-failed : goal.returns-in_ok-write_text-in-Declarations-2-clause-failed
returns-in_ok-write_text-in-Declarations-2-clause-failed g c =
    rw (c.in-Declarations.is, ← c.code.ensures, ← c.name.ensures)
    (on_err_weaker c.write_named.result (λ broke. breaks_then g.E.Output.contents g.E.Output.takes g.E.Output.fails _ _ (codes "formd: declarations refused: ") _ _ c.in_ok-write_text-in-Declarations.ensures.told c.in_ok-write_text-in-Declarations.ensures.took
    (breaks_then g.E.Output.contents g.E.Output.takes g.E.Output.fails _ _ c.code.result.now _ _ c.in_ok-write_text-in-Declarations-2.ensures.told c.in_ok-write_text-in-Declarations-2.ensures.took broke)) c.write_named.ensures.failed)
