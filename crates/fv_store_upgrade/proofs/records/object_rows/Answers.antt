use Rattle.std.proofs.Common.{◌≡◌, ◌∷◌, ◌++◌, ℕ, List, [], string_bytes, sym, ap, ◌∙◌}
use Rattle.std.proofs.lemmas.List.{map-append}
use Rattle.serde_json.specs.Data.{Data}
use Rattle.fv_datum.specs.Members.{each_some, pairs}
use Rattle.fv_datum.proofs.Fronts.{with_front}
use Rattle.serde_json.specs.View.{view, members_view}
use Rattle.fv_store_upgrade.specs.Steps.{new_object_view, new_objects_view}
use Rattle.fv_store_upgrade.specs.Upgraded.{object_in}
use Rattle.fv_store_upgrade.specs.declared.fault.UpgradeFault.TheVariants.{Damaged}
use Rattle.fv_store_upgrade.proofs.Reading.{front_ok}
use Rattle.fv_store_upgrade.proofs.records.object_rows.Goals as goal

pub loop-name-preserved : goal.loop-name-preserved
loop-name-preserved c =
    let l = c.loop-name in
    let front = new_objects_view l.rows.items in
    let member : List ℕ × Data = (string_bytes c.in-Some.name.now, view c.in-Some.value.now) in
    let rest = pairs (members_view c.next.new.self) in
    let row = c.in_ok-object_row.field-0 in
    let grown : new_objects_view c.push.new.self.items ≡ front ++ new_object_view row ∷ [] = ap new_objects_view c.in_ok-push.ensures.items ∙ map-append new_object_view l.rows.items (row ∷ []) in
    ap (λ os. with_front os (each_some object_in rest)) grown
    ∙ sym (front_ok object_in front member rest (new_object_view row) Damaged (rw c.as_str.ensures.value at c.in_ok-object_row.ensures))
    ∙ ap (λ ms. with_front front (each_some object_in ms)) (sym (ap (λ it. pairs (members_view it)) c.in-Some.ensures.steps))
    ∙ l.invariant
