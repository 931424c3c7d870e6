use Rattle.std.proofs.Common.{sym}
use Rattle.fv_message.proofs.Plain.{own_plain}
use Rattle.fv_message.proofs.table.Table.own_len_of.Goals as goal

pub returns-in-Plain-clause-own : goal.returns-in-Plain-clause-own
returns-in-Plain-clause-own c = rw c.in-Plain.is (sym (own_plain c.args.self.now c.in-Plain.plain.now))
