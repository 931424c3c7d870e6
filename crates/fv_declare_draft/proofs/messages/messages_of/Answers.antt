use Rattle.std.specs.List.Sorted.{IsStrictlySortedBy}
use Rattle.fv_declare_draft.proofs.messages.messages_of.Goals as goal

pub returns-in_default-clause-ascend : goal.returns-in_default-clause-ascend
unfolding IsStrictlySortedBy
returns-in_default-clause-ascend c = rw c.new.ensures.items tt
