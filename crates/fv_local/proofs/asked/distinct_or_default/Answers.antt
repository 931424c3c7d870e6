use Rattle.std.proofs.Common.{◌≡◌, ℕ, List, [], refl, ap, ◌∙◌}
use Rattle.fv_declare_schema.specs.Once.{once}
use Rattle.fv_declare_schema.specs.Tables.{indices}
use Rattle.fv_local.proofs.asked.distinct_or_default.Goals as goal

pub returns : goal.returns
returns c = c.in_ok-add_new.ensures [] (ap indices c.new-groups.ensures.items) ∙ ap once c.or_default.ensures
