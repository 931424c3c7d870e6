use Rattle.fv_explain_over.proofs.ItemLemmas.{whole_items}
use Rattle.fv_explain_over.proofs.differing.add_whole.Goals as goal

pub returns-in-Some-Some : goal.returns-in-Some-Some
returns-in-Some-Some c =
    whole_items c.add_items.result _ _ _ _ _ _ c.in-Some-Some.old.now.items c.in-Some-Some.new.now.items _ _
    c.as_str.ensures.value c.deref.ensures.value c.deref-in-Some-Some.ensures.value c.in-Some-Some.ensures c.in-Some-Some.ensures' c.add_items.ensures
