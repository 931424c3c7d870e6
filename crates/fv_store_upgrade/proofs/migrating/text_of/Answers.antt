use Rattle.fv_store_upgrade.proofs.migrating.text_of.Goals as goal

pub invariant_of-result : goal.invariant_of-result
invariant_of-result c = record { name_text = ∣ c.as_str.utf8 ∣₁; kind_text = ∣ c.as_str-2.utf8 ∣₁ }
