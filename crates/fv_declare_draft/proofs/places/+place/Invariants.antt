use Rattle.std.proofs.Common.{◌+◌, ◌*◌}
use Rattle.serde_json.specs.Data.{depth}
use Rattle.serde_json.specs.View.{view as json_view}
use Rattle.fv_declare_draft.proofs.places.+place.Given as goal

abbrev pub decreases-place_of : goal.decreases-place_of
decreases-place_of l = 4 * depth (json_view l.value.now)

abbrev pub decreases-place_in : goal.decreases-place_in
decreases-place_in l = 4 * depth (json_view l.value.now)

abbrev pub decreases-list_of : goal.decreases-list_of
decreases-list_of l = 4 * depth (json_view l.value.now) + 1

abbrev pub decreases-optional_of : goal.decreases-optional_of
decreases-optional_of l = 4 * depth (json_view l.value.now) + 1

abbrev pub decreases-map_of : goal.decreases-map_of
decreases-map_of l = 4 * depth (json_view l.value.now) + 1

abbrev pub decreases-held_of : goal.decreases-held_of
decreases-held_of l = 4 * depth (json_view l.value.now) + 2
