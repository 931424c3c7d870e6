use Rattle.std.proofs.Common.{rules}
use Rattle.fv_message.proofs.Plain.{full_plain}
use Rattle.fv_message.proofs.messages.Messages.write_part.Goals as goal

pub returns-in-Plain : goal.returns-in-Plain
returns-in-Plain c = rw (c.in-Plain.is, full_plain c.args.self.now c.args.attributes.now c.in-Plain.plain.now) (search rules)
