use Rattle.std.proofs.Common.{length, sym, ap, ◌∙◌}
use Rattle.std.specs.Vec.{vec_len}
use Rattle.fv_bundle.specs.Views.{object_view}
use Rattle.fv_local.proofs.LocatedParts.{part_there}
use Rattle.fv_local.specs.Graphs.{way_view}
use Rattle.fv_local.specs.Paths.{field_name}
use Rattle.fv_listing.proofs.Parted.{way_alone, way_popped, is_some, is_none}
use Rattle.fv_listing.proofs.path.push_way.Goals as goal

pub returns-then-not-is_empty : goal.returns-then-not-is_empty
returns-then-not-is_empty c =
    let object = object_view c.args.object.now in
    let way = way_view c.args.way.now in
    let ps = c.args.way.now.locus.items in
    let led = (part_there object way.place (way.locus, c.requires.there.0) c.requires.sound c.requires.there.1).led in
    let pushed = rw (c.deref.ensures.value, c.deref-2.ensures.value) at c.in_ok-push_part.ensures.added in
    let long = ap (λ l. length l) (sym c.deref-2.ensures.value) ∙ c.deref-2.ensures.len in
    let k = way_popped object way.place ps (field_name object way.place.field) c.args.path.now c.push_part.new.path led c.in_ok-push_part.ensures.path pushed c.pop.new.self c.pop.result
    (is_some (length ps) (vec_len c.args.way.now.locus) long c.if-not-is_empty.ensures) c.pop.ensures in
    record { added = k.0; room = k.1 }

pub returns-else-not-is_empty : goal.returns-else-not-is_empty
returns-else-not-is_empty c =
    let object = object_view c.args.object.now in
    let way = way_view c.args.way.now in
    let ps = c.args.way.now.locus.items in
    let led = (part_there object way.place (way.locus, c.requires.there.0) c.requires.sound c.requires.there.1).led in
    let pushed = rw (c.deref.ensures.value, c.deref-2.ensures.value) at c.in_ok-push_part.ensures.added in
    let long = ap (λ l. length l) (sym c.deref-2.ensures.value) ∙ c.deref-2.ensures.len in
    let k = way_alone object way.place ps (field_name object way.place.field) c.args.path.now c.push_part.new.path led c.in_ok-push_part.ensures.path pushed
    (is_none (length ps) (vec_len c.args.way.now.locus) long c.if-not-is_empty.ensures) in
    record { added = k.0; room = k.1 }
