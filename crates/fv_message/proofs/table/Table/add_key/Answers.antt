use Rattle.std.proofs.Common.{sym}
use Rattle.std.proofs.lemmas.List.{append-nil}
use Rattle.fv_message.proofs.Plain.{keys_plain}
use Rattle.fv_message.proofs.table.Table.add_key.Goals as goal

pub returns-in_default : goal.returns-in_default
returns-in_default c =
    rw (c.in_default.is, keys_plain c.args.self.now c.in_default.field-0.now) (sym (append-nil c.args.edges.now.items))

pub returns-in_ok-push : goal.returns-in_ok-push
returns-in_ok-push c = rw (c.in-Parameter.is, ← c.in-Some.ensures.number) c.in_ok-push.ensures.items

pub returns-in_default-number_of : goal.returns-in_default-number_of
returns-in_default-number_of c = rw (c.in-Parameter.is, ← c.in_default-number_of.ensures.number) (sym (append-nil c.args.edges.now.items))
