use Rattle.std.proofs.Common.{◌∙◌}
use Rattle.fv_message.proofs.Becoming.{become_shown, full_is}
use Rattle.fv_message.proofs.Skeleton.{template_spread, put_in_last}
use Rattle.fv_message.proofs.laws.attributes_are_not_read.Goals as goal

pub returns-clause-inserted : goal.returns-clause-inserted
returns-clause-inserted c = λ ms attributes name value none found. become_shown ms attributes name value none found

pub returns-clause-unread : goal.returns-clause-unread
returns-clause-unread c = λ ms template. (template_spread ms template, λ attributes full h. full_is ms attributes template full h ∙ put_in_last ms attributes template)
