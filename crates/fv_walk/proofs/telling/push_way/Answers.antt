use Rattle.std.proofs.Common.{◌≡◌, ◌++◌, length, ap, sym, ◌∙◌, arith}
use Rattle.std.proofs.lemmas.Grind.{common_steps}
use Rattle.std.specs.Vec.{vec_len}
use Rattle.fv_extract.specs.Views.{part_view}
use Rattle.fv_bundle.specs.Views.{object_view}
use Rattle.fv_local.specs.Graphs.{way_view}
use Rattle.fv_local.specs.Requests.{nodes_at}
use Rattle.fv_walk.proofs.Tellings.{LeadsOn, empty_seen, seen_empty, field_leads, popped_leads}
use Rattle.fv_walk.proofs.telling.push_way.Goals as goal

pub push_part-requires-clause-there : goal.push_part-requires-clause-there
push_part-requires-clause-there c = rw (c.deref.ensures.value, c.deref-2.ensures.value) c.requires.there

popped : (c : goal.Joined-pop) → LeadsOn (object_view c.args.object.now) (way_view c.args.way.now).place (way_view c.args.way.now).locus c.args.path.now c.pop.new.self
popped c =
    let w = way_view c.args.way.now in
    let object = object_view c.args.object.now in
    let items = c.args.way.now.locus.items in
    let pushed : c.push_part.new.path ≡ c.args.path.now ++ nodes_at object w.place w.locus = rw (c.deref.ensures.value, c.deref-2.ensures.value) at c.in_ok-push_part.ensures.added in
    let long : length items ≡ vec_len c.args.way.now.locus = ap length (sym c.deref-2.ensures.value) ∙ c.deref-2.ensures.len in
    let some : length items ≡ 0 → ⊥ = λ e. grind (arith, common_steps, c.if-not-is_empty.ensures, long, e) in
    popped_leads object w.place w.locus c.args.path.now c.push_part.new.path c.requires.sound c.requires.there pushed c.in_ok-push_part.ensures.path (λ none. some (empty_seen part_view items none)) c.pop.result c.pop.new.self
    c.pop.ensures

alone : (c : goal.Else-not-is_empty) → LeadsOn (object_view c.args.object.now) (way_view c.args.way.now).place (way_view c.args.way.now).locus c.args.path.now c.push_part.new.path
alone c =
    let w = way_view c.args.way.now in
    let object = object_view c.args.object.now in
    let items = c.args.way.now.locus.items in
    let pushed : c.push_part.new.path ≡ c.args.path.now ++ nodes_at object w.place w.locus = rw (c.deref.ensures.value, c.deref-2.ensures.value) at c.in_ok-push_part.ensures.added in
    let long : length items ≡ vec_len c.args.way.now.locus = ap length (sym c.deref-2.ensures.value) ∙ c.deref-2.ensures.len in
    let none : length items ≡ 0 = grind (arith, common_steps, c.if-not-is_empty.ensures, long) in
    field_leads object w.place w.locus c.args.path.now c.push_part.new.path c.requires.sound c.requires.there pushed c.in_ok-push_part.ensures.path (seen_empty part_view items none)

pub returns-then-not-is_empty-clause-added : goal.returns-then-not-is_empty-clause-added
returns-then-not-is_empty-clause-added c = (popped c).0

pub returns-then-not-is_empty-clause-room : goal.returns-then-not-is_empty-clause-room
returns-then-not-is_empty-clause-room c = (popped c).1

pub returns-else-not-is_empty-clause-added : goal.returns-else-not-is_empty-clause-added
returns-else-not-is_empty-clause-added c = (alone c).0

pub returns-else-not-is_empty-clause-room : goal.returns-else-not-is_empty-clause-room
returns-else-not-is_empty-clause-room c = (alone c).1
