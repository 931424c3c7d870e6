use Rattle.std.proofs.Common.{◌≡◌, ◌<◌, ℕ, length, get_or, refl, sym, ap, ◌∙◌, arith}
use Rattle.fv_declare_schema.specs.Groups.{ranks}
use Rattle.fv_declare_schema.specs.Tables.{indices}
use Rattle.fv_declare_schema.specs.declared.declared.GroupId.{GroupId}
use Rattle.fv_walk.proofs.Moves.{same_count, index_at}
use Rattle.fv_walk.proofs.Loops.{ranks_more}
use Rattle.fv_walk.proofs.property.are_too_many.Goals as goal

pub returns-then-count-gt-MOST_VISITS : goal.returns-then-count-gt-MOST_VISITS
returns-then-count-gt-MOST_VISITS c =
    let gs = c.args.groups.now in
    let asked = c.args.asked.now in
    let i = c.loop-group.group-index in
    let zero : GroupId = record { index = 0 } in
    let less : i < length (indices asked) = (let d = same_count (λ (g : GroupId). g.index) asked in omega (arith, d, c.loop-group-test.true)) in
    let is : length c.ranks.result.now ≡ length (ranks gs (get_or (indices asked) i 0)) =
    sym (same_count (λ (g : GroupId). g.index) c.ranks.result.now) ∙ ap length c.ranks.ensures.ranks ∙ ap (λ (g : ℕ). length (ranks gs g)) (sym (index_at asked i zero c.loop-group-test.true)) in
    let more = ranks_more gs (indices asked) i (length c.ranks.result.now) less is in
    (λ h. omega (arith, more, c.loop-group.invariant.counts, c.if-count-gt-MOST_VISITS.true), λ h. refl)

pub loop-group-preserved : goal.loop-group-preserved
loop-group-preserved c =
    let gs = c.args.groups.now in
    let asked = c.args.asked.now in
    let i = c.loop-group.group-index in
    let zero : GroupId = record { index = 0 } in
    let less : i < length (indices asked) = (let d = same_count (λ (g : GroupId). g.index) asked in omega (arith, d, c.loop-group-test.true)) in
    let is : length c.ranks.result.now ≡ length (ranks gs (get_or (indices asked) i 0)) =
    sym (same_count (λ (g : GroupId). g.index) c.ranks.result.now) ∙ ap length c.ranks.ensures.ranks ∙ ap (λ (g : ℕ). length (ranks gs g)) (sym (index_at asked i zero c.loop-group-test.true)) in
    let more = ranks_more gs (indices asked) i (length c.ranks.result.now) less is in
    record { counts = omega (arith, more, c.loop-group.invariant.counts); few = c.if-count-gt-MOST_VISITS.false }
