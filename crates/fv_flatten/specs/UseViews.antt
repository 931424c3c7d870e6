-- The uses that contracts see.
use Rattle.std.specs.Prelude.{option_map}
use Rattle.fv_flatten.specs.Flattening as spec
use Rattle.fv_constraint_tree.specs.TargetViews.{target_view}
use Rattle.fv_flatten.specs.declared.used.Use.{Use}

-- a use of a constraint
abbrev pub use_view : Use → spec.Use
use_view u = record { constraint = u.constraint.now; message = option_map (λ t. t.now) u.message; given = u.given.now; place = target_view u.place }
