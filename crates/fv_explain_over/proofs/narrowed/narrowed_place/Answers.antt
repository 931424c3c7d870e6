use Rattle.fv_explain_over.proofs.narrowed.narrowed_place.Goals as goal

pub returns-in-Use : goal.returns-in-Use
returns-in-Use c = rw (c.in-Use.is, ← c.type_name-in-Use.ensures, ← c.field_name-in-Use.ensures) c.place_of-in-Use.ensures
