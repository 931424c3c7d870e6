use Rattle.std.proofs.Common.{subst}
use Rattle.fv_declare_schema.specs.Declarations.{Declarations}
use Rattle.fv_bundle.specs.Views.{bundle_view}
use Rattle.fv_bundle.specs.WellTyped.{IsWellTyped}
use Rattle.test_walks.proofs.walked.found_of.Goals as goal

pub found-requires : goal.found-requires
found-requires c = subst (λ (ds : Declarations). IsWellTyped ds.types (bundle_view c.in_ok-bundle.bundle)) c.schema-schema.ensures c.in_ok-bundle.ensures
