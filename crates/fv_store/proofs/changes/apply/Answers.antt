use Rattle.fv_store_tables.proofs.Composed.{more_on_err}
use Rattle.fv_store.proofs.changes.apply.Goals as goal

pub returns-in-Put-clause-done : goal.returns-in-Put-clause-done
returns-in-Put-clause-done g c clean inside = rw c.in-Put.is (rw (c.as_str.ensures.value, c.as_str-in-Put.ensures.value) at (c.put.ensures.done clean inside))

pub returns-in-Put-clause-cause : goal.returns-in-Put-clause-cause
returns-in-Put-clause-cause g c clean inside none = rw c.in-Put.is (rw (c.as_str.ensures.value, c.as_str-in-Put.ensures.value) at (c.put.ensures.cause clean inside none))

pub returns-in-Object-clause-done : goal.returns-in-Object-clause-done
returns-in-Object-clause-done g c clean inside = rw c.in-Object.is (rw (c.as_str-in-Object.ensures.value, c.as_str-in-Object-2.ensures.value) at (c.set.ensures.done clean inside))

pub returns-in-Object-clause-cause : goal.returns-in-Object-clause-cause
returns-in-Object-clause-cause g c clean inside none = rw c.in-Object.is (rw (c.as_str-in-Object.ensures.value, c.as_str-in-Object-2.ensures.value) at (c.set.ensures.cause clean inside none))

pub returns-in-Remove-clause-done : goal.returns-in-Remove-clause-done
returns-in-Remove-clause-done g c clean inside = rw c.in-Remove.is (rw c.as_str-in-Remove.ensures.value at (c.remove.ensures.done clean inside))

pub returns-in-Remove-clause-cause : goal.returns-in-Remove-clause-cause
returns-in-Remove-clause-cause g c clean inside none = more_on_err _ _ c.remove.result (λ e known d m spelled room short. known d m spelled) (c.remove.ensures.cause clean inside none)
