use Rattle.std.proofs.Common.{◌++◌, ◌∷◌, [], map, sym, subst}
use Rattle.std.proofs.lemmas.Int.{to_z-of_z}
use mir.Syntax.{w64}
use Rattle.fv_engine_pending.specs.Passes.{AreSo}
use Rattle.fv_engine_pending.proofs.OneMore.{over_last, over_more, told_more}
use Rattle.fv_validate.specs.ViolationView.{judged_view}
use Rattle.fv_store.specs.Stored.{stored_view}
use Rattle.fv_engine_pending.proofs.rejudging.judge_next.Goals as goal

pub returns-in-Over : goal.returns-in-Over
returns-in-Over g c ks so =
    let one = (c.args.id.now, stored_view c.args.stored.now) ∷ [] in
    subst (λ v. AreSo g.R.RuleSet.meaning c.args.book.now c.args.now v (ks ++ one)) (sym c.in-Over.is) (over_more c.args.book.now ks one (subst (λ v. AreSo g.R.RuleSet.meaning c.args.book.now c.args.now v ks) c.in-Over.is so))

pub returns-in-Ok : goal.returns-in-Ok
returns-in-Ok g c ks so =
    let told = rw (to_z-of_z w64 c.args.now c.ranges.now) at c.in-Ok.ensures in
    told_more g.R.RuleSet.meaning c.args.book.now c.args.now (map judged_view c.in-Listed.judged.items) (map judged_view c.add_judged.new.judged.items) ks c.args.id.now (stored_view c.args.stored.now) told.0 (subst (λ v. AreSo g.R.RuleSet.meaning c.args.book.now c.args.now v ks) c.in-Listed.is so) told.1 told.2

pub returns-in-Err-TooManyVisits : goal.returns-in-Err-TooManyVisits
returns-in-Err-TooManyVisits g c ks so = over_last c.args.book.now ks c.args.id.now (stored_view c.args.stored.now) (c.in-Err-TooManyVisits.ensures.1 c.in-Err-TooManyVisits.field-0-is)
