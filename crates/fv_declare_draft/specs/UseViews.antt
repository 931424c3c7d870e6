-- The uses at their places that contracts see.
use Rattle.std.specs.Prelude.{map, option_map}
use Rattle.fv_declare_draft.specs.DraftViews.{placed_cascade_view}
use Rattle.fv_declare_draft.specs.AllCascades as cascades
use Rattle.fv_declare_draft.specs.AllUses as spec
use Rattle.fv_declare_schema.specs.PlaceViews.{place_view}
use Rattle.fv_declare_draft.specs.declared.all_cascades.Cascade.{Cascade}
use Rattle.fv_declare_draft.specs.declared.all_uses.Use.{Use}

-- a use at its place
abbrev pub use_view : Use → spec.DraftUse
use_view u = record {
  type = u.type_index;
  place = place_view u.place;
  draft = record {
    constraint = u.constraint.now;
    given = u.given.now;
    groups = map (λ n. n.now) u.groups.now;
    message = option_map (λ t. t.now) u.message;
  };
}

-- a cascade at its place
abbrev pub cascade_view : Cascade → cascades.Cascade
cascade_view c = record { type = c.type_index; field = c.field; placed = placed_cascade_view c.placed.now }
