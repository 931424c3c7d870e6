use Rattle.std.proofs.Common.{◌≡◌, ◌∷◌, ◌++◌, string_bytes, ◌∙◌, arith}
use Rattle.fv_datum.specs.Ascending.{IsAscending}
use Rattle.fv_datum.specs.EntryNames.{names_of}
use Rattle.fv_datum.proofs.Sorted.{put_last}
use Rattle.fv_declare_definition.proofs.adding.add_last.Goals as goal

pub returns : goal.returns
returns g c =
    let es = c.args.entries.now.entries in
    let is : string_bytes c.in_ok-clone.field-0 ≡ string_bytes c.args.name.now = grind (arith, c.in_ok-clone.ensures.cases) in
    let above : IsAscending (names_of es ++ string_bytes c.in_ok-clone.field-0 ∷ c.requires.0) = rw is c.requires.1 in
    (c.in_ok-clone.field-0, is, c.in_ok-insert.ensures.entries ∙ put_last es c.in_ok-clone.field-0 c.args.value c.requires.0 above)
