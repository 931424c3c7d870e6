use Rattle.fv_house.proofs.Registries.{memory_alone}
use Rattle.fv_house.proofs.registry.house_registry.Goals as goal

pub returns-clause-memory : goal.returns-clause-memory
returns-clause-memory g c = memory_alone c.new.result _ _ c.in_ok-fields.ensures.numbers c.in_ok-objects.ensures.rules c.new.ensures.refuses
