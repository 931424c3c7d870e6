use Rattle.fv_store.proofs.changes.object_row.Goals as goal

pub invariant_of-result : goal.invariant_of-result
invariant_of-result c = record { name_text = ∣ c.utf8.name ∣₁; kind_text = ∣ c.type_name.utf8 ∣₁ }
