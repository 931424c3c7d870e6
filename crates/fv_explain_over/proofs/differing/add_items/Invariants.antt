use Rattle.fv_explain_over.specs.Adding.{Adds, found_view}
use Rattle.fv_explain_over.proofs.ItemLemmas.{ItemsUpTo}
use Rattle.fv_explain_over.proofs.differing.add_items.Given as goal

-- the items so far are added
abbrev pub invariant-loop-index : goal.invariant-loop-index
invariant-loop-index l = Adds (found_view l.initial.found) (found_view l.found) (ItemsUpTo l.at l.front l.index l.old_end l.new_end)
