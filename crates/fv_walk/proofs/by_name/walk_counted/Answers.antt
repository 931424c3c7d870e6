use Rattle.std.proofs.Common.{◌≡◌, map, false, string_bytes, ap, ◌∙◌}
use Rattle.std.proofs.lemmas.Int.{to_z-of_z}
use Rattle.std.proofs.lemmas.Result.{IfErr-weaker}
use mir.Syntax.{w64}
use Rattle.fv_declare_schema.specs.Declarations.{Declarations}
use Rattle.fv_declare_schema.specs.Groups.{Groups, numbers_of}
use Rattle.fv_declare_schema.specs.Judged.{unknown_group_in}
use Rattle.fv_declare_schema.specs.Tables.{indices}
use Rattle.fv_walk.proofs.by_name.walk_counted.Goals as goal

pub returns-clause-violations : goal.returns-clause-violations
returns-clause-violations g c =
    let names = map string_bytes c.args.asked.now in
    let own : c.groups.result.now ≡ c.args.rulebook.now.groups = c.groups.ensures ∙ ap (λ (x : Declarations). x.groups) c.schema.ensures in
    let same : indices c.deref.result.now ≡ numbers_of c.args.rulebook.now.groups names = ap indices c.deref.ensures.value ∙ c.in_ok-asked.ensures.numbers ∙ ap (λ (gs : Groups). numbers_of gs names) own in
    rw (same, to_z-of_z w64 c.args.now c.ranges.now) at c.walk_counted.ensures.violations

pub returns-clause-entered : goal.returns-clause-entered
returns-clause-entered g c =
    let names = map string_bytes c.args.asked.now in
    let own : c.groups.result.now ≡ c.args.rulebook.now.groups = c.groups.ensures ∙ ap (λ (x : Declarations). x.groups) c.schema.ensures in
    let same : indices c.deref.result.now ≡ numbers_of c.args.rulebook.now.groups names = ap indices c.deref.ensures.value ∙ c.in_ok-asked.ensures.numbers ∙ ap (λ (gs : Groups). numbers_of gs names) own in
    rw (same, to_z-of_z w64 c.args.now c.ranges.now) at c.walk_counted.ensures.entered

pub returns-clause-few : goal.returns-clause-few
returns-clause-few g c =
    let names = map string_bytes c.args.asked.now in
    let own : c.groups.result.now ≡ c.args.rulebook.now.groups = c.groups.ensures ∙ ap (λ (x : Declarations). x.groups) c.schema.ensures in
    let same : indices c.deref.result.now ≡ numbers_of c.args.rulebook.now.groups names = ap indices c.deref.ensures.value ∙ c.in_ok-asked.ensures.numbers ∙ ap (λ (gs : Groups). numbers_of gs names) own in
    rw same at c.walk_counted.ensures.few

pub returns-clause-many : goal.returns-clause-many
returns-clause-many g c =
    let names = map string_bytes c.args.asked.now in
    let own : c.groups.result.now ≡ c.args.rulebook.now.groups = c.groups.ensures ∙ ap (λ (x : Declarations). x.groups) c.schema.ensures in
    let same : indices c.deref.result.now ≡ numbers_of c.args.rulebook.now.groups names = ap indices c.deref.ensures.value ∙ c.in_ok-asked.ensures.numbers ∙ ap (λ (gs : Groups). numbers_of gs names) own in
    let known : unknown_group_in c.args.rulebook.now.groups names ≡ false = rw own at c.in_ok-asked.ensures.known in
    IfErr-weaker c.walk_counted.result _ _ (λ fault many is. (known, many is)) (rw same at c.walk_counted.ensures.many)
