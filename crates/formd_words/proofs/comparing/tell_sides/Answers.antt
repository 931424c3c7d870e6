use Rattle.std.specs.Prelude.{map, string_bytes}
use Rattle.std.proofs.lemmas.Result.{on_ok_weaker}
use Rattle.formd_words.proofs.comparing.tell_sides.Goals as goal

pub returns-clause-told : goal.returns-clause-told
returns-clause-told g c =
    let exact = rw (c.types.ensures, c.types-2.ensures, c.in_ok-forms.ensures, c.in_ok-old_forms.ensures) at c.in_ok-told.ensures.exact in
    let lines = rw (c.types.ensures, c.types-2.ensures, c.in_ok-forms.ensures, c.in_ok-old_forms.ensures) at c.in_ok-told.ensures.lines in
    on_ok_weaker c.write_lines.result (λ sent. (map string_bytes c.in_ok-told.told.lines.items, (c.in_ok-told.told.fit, exact, lines), rw c.deref.ensures.value at sent)) c.write_lines.ensures.written
