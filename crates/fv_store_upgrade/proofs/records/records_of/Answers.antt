use Rattle.std.proofs.Common.{◌≡◌, ◌∷◌, ◌++◌, [], sym, ap, ◌∙◌}
use Rattle.std.specs.Vec.Iter.{into_iter_items}
use Rattle.std.proofs.lemmas.List.{map-append}
use Rattle.fv_datum.specs.Members.{each_some}
use Rattle.fv_datum.proofs.Fronts.{with_front}
use Rattle.fv_store_tables.specs.Olds.{old_view, olds_view}
use Rattle.fv_store_upgrade.specs.Steps.{named_in, new_view, news_view}
use Rattle.fv_store_upgrade.specs.declared.fault.UpgradeFault.TheVariants.{Damaged}
use Rattle.fv_store_upgrade.proofs.Reading.{front_ok}
use Rattle.fv_store_upgrade.proofs.records.records_of.Goals as goal

pub loop-old-preserved : goal.loop-old-preserved
loop-old-preserved c =
    let l = c.loop-old in
    let front = news_view l.records.items in
    let rest = olds_view (into_iter_items c.next.new.self) in
    let row = c.in_ok-record_of.field-0 in
    let grown : news_view c.push.new.self.items ≡ front ++ new_view row ∷ [] = ap news_view c.in_ok-push.ensures.items ∙ map-append new_view l.records.items (row ∷ []) in
    ap (λ ks. with_front ks (each_some named_in rest)) grown
    ∙ sym (front_ok named_in front (old_view c.in-Some.old) rest (new_view row) Damaged c.in_ok-record_of.ensures)
    ∙ ap (λ es. with_front front (each_some named_in (olds_view es))) (sym c.in-Some.ensures.steps.0)
    ∙ l.invariant
