use Rattle.std.proofs.Common.{◌∙◌, ap}
use Rattle.fv_message.specs.Table.{Messages}
use Rattle.fv_message.specs.Numbers.{number_of}
use Rattle.fv_message.proofs.Numbers.{number_is}
use Rattle.fv_message.proofs.table.Table.number_of.Goals as goal

pub returns-clause-number : goal.returns-clause-number
returns-clause-number c =
    c.get_index_of.ensures.index ∙ number_is c.args.name.now c.self.inside.texts.entries
    ∙ ap (λ (ms : Messages). number_of ms c.args.name.now) c.self.view_is
