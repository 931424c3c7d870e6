use Rattle.fv_store.proofs.RowsRead.{text_if}
use Rattle.fv_store.proofs.written.written_if.Goals as goal

pub returns-in_ok-written_from-in-Some-clause-text : goal.returns-in_ok-written_from-in-Some-clause-text
returns-in_ok-written_from-in-Some-clause-text c types o each is =
    text_if c.in_ok-written_from-in-Some.field-0 c.in-Some.rows types o (λ k typed same. c.in_ok-written_from-in-Some.ensures.text types k typed same) each (rw c.in-Some.is at is)
