use Rattle.std.proofs.Common.{◌≡◌, true, false, sym, ◌∙◌, rules}
use Rattle.serde_json.specs.Read.{read}
use Rattle.serde_json.specs.View.{view as json_view}
use Rattle.fv_store.proofs.RowsRead.{none_there, read_there}
use Rattle.fv_store.proofs.stored.read_row.Goals as goal

pub returns-then-not-is_object : goal.returns-then-not-is_object
returns-then-not-is_object c =
    let no : c.is_object.result ≡ false = search (rules, c.if-not-is_object.true) in
    none_there c.args.row.now.name.now c.args.row.now.kind.now (read c.args.row.now.fields.now) (json_view c.in-Ok.fields) c.in-Ok.ensures.read (sym c.is_object.ensures ∙ no)

pub returns : goal.returns
returns c =
    let yes : c.is_object.result ≡ true = search (rules, c.if-not-is_object.false) in
    read_there c.args.row.now.name.now c.args.row.now.kind.now (read c.args.row.now.fields.now) (json_view c.in-Ok.fields) c.in-Ok.ensures.read (sym c.is_object.ensures ∙ yes)
