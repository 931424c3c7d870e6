use Rattle.std.proofs.Common.{◌≡◌, map, false, string_bytes, ap, ◌∙◌}
use Rattle.std.proofs.lemmas.Result.{IfErr-weaker}
use Rattle.fv_declare_schema.specs.Groups.{Groups, numbers_of}
use Rattle.fv_declare_schema.specs.Judged.{unknown_group_in}
use Rattle.fv_declare_schema.specs.Tables.{indices}
use Rattle.fv_walk.proofs.by_name.visits.Goals as goal

pub returns-clause-few : goal.returns-clause-few
returns-clause-few c =
    let names = map string_bytes c.args.asked.now in
    let same : indices c.deref.result.now ≡ numbers_of c.args.schema.now.groups names = ap indices c.deref.ensures.value ∙ c.in_ok-asked.ensures.numbers ∙ ap (λ (gs : Groups). numbers_of gs names) c.groups.ensures in
    rw same at c.visits.ensures.few

pub returns-clause-many : goal.returns-clause-many
returns-clause-many c =
    let names = map string_bytes c.args.asked.now in
    let same : indices c.deref.result.now ≡ numbers_of c.args.schema.now.groups names = ap indices c.deref.ensures.value ∙ c.in_ok-asked.ensures.numbers ∙ ap (λ (gs : Groups). numbers_of gs names) c.groups.ensures in
    let known : unknown_group_in c.args.schema.now.groups names ≡ false = rw c.groups.ensures at c.in_ok-asked.ensures.known in
    IfErr-weaker c.visits.result _ _ (λ fault many is. (known, many is)) (rw same at c.visits.ensures.many)
