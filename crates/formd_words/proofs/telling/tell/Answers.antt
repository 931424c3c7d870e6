use Rattle.formd_words.proofs.telling.tell.Goals as goal

pub returns-in-None-clause-taken : goal.returns-in-None-clause-taken
returns-in-None-clause-taken g c =
    let told = c.in_ok-told.ensures.lines c.in-None.is in
    let written = rw c.deref.ensures.value at c.in_ok-write_lines.ensures.written in
    (told.0, told.1, (_, told.2, written))
