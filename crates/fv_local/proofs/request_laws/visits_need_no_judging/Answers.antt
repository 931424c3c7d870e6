use Rattle.std.proofs.Common.{ℕ, []}
use Rattle.fv_local.specs.Own.{own_in}
use Rattle.fv_walk_traces.specs.Requests.{Plain}
use Rattle.fv_local.specs.Requests.{object_at, asked_groups}
use Rattle.fv_local.proofs.Visits.{visit_same}
use Rattle.fv_local.proofs.request_laws.visits_need_no_judging.Goals as goal

pub returns : goal.returns
returns c m ds now b asked turns =
    let own = λ (object group : ℕ). own_in m ds now (object_at b object) group in
    let none = λ (object group : ℕ). Plain [] in
    (λ h. visit_same ds b (asked_groups asked) own none turns h, λ h. visit_same ds b (asked_groups asked) none own turns h)
