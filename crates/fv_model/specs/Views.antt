-- The values that contracts see.
pub use Rattle.fv_bundle.specs.Views.{types_view, field_view, fields_left, object_view, named_view, objects_view, bundle_view}
pub use Rattle.fv_model.specs.PartViews.{given_view, object_types_view, part_view}
use Rattle.std.specs.Prelude.{map}
use Rattle.fv_model.specs.Draft as spec
use Rattle.fv_model.specs.declared.parts.Draft.{Draft}

-- a draft
abbrev pub draft_view : Draft → spec.BundleDraft
draft_view d = record { root = d.root.now; objects = map part_view d.objects.items }
