use Rattle.std.proofs.Common.{◌≡◌, map, false, string_bytes, ap, ◌∙◌}
use Rattle.std.proofs.lemmas.Int.{to_z-of_z}
use Rattle.std.proofs.lemmas.Result.{IfErr-weaker}
use mir.Syntax.{w64}
use Rattle.fv_declare_schema.specs.Declarations.{Declarations}
use Rattle.fv_declare_schema.specs.Groups.{Groups, numbers_of}
use Rattle.fv_declare_schema.specs.Judged.{unknown_group_in}
use Rattle.fv_declare_schema.specs.Tables.{indices}
use Rattle.fv_validate.proofs.by_name.validate_property.Goals as goal

pub returns-clause-listing : goal.returns-clause-listing
returns-clause-listing g c =
    let names = map string_bytes c.args.asked.now in
    let own : c.groups.result.now ≡ c.args.rulebook.now.groups = c.groups.ensures ∙ ap (λ (x : Declarations). x.groups) c.schema.ensures in
    let same : indices c.deref.result.now ≡ numbers_of c.args.rulebook.now.groups names = ap indices c.deref.ensures.value ∙ c.in_ok-asked.ensures.numbers ∙ ap (λ (gs : Groups). numbers_of gs names) own in
    rw (same, to_z-of_z w64 c.args.now c.ranges.now) at c.validate_property.ensures.listing

pub returns-clause-few : goal.returns-clause-few
returns-clause-few g c =
    let names = map string_bytes c.args.asked.now in
    let own : c.groups.result.now ≡ c.args.rulebook.now.groups = c.groups.ensures ∙ ap (λ (x : Declarations). x.groups) c.schema.ensures in
    let same : indices c.deref.result.now ≡ numbers_of c.args.rulebook.now.groups names = ap indices c.deref.ensures.value ∙ c.in_ok-asked.ensures.numbers ∙ ap (λ (gs : Groups). numbers_of gs names) own in
    rw same at c.validate_property.ensures.few

pub returns-clause-absent : goal.returns-clause-absent
returns-clause-absent g c =
    let names = map string_bytes c.args.asked.now in
    let own : c.groups.result.now ≡ c.args.rulebook.now.groups = c.groups.ensures ∙ ap (λ (x : Declarations). x.groups) c.schema.ensures in
    let known : unknown_group_in c.args.rulebook.now.groups names ≡ false = rw own at c.in_ok-asked.ensures.known in
    IfErr-weaker c.validate_property.result _ _ (λ fault it is. (known, it is)) c.validate_property.ensures.absent

pub returns-clause-many : goal.returns-clause-many
returns-clause-many g c =
    let names = map string_bytes c.args.asked.now in
    let own : c.groups.result.now ≡ c.args.rulebook.now.groups = c.groups.ensures ∙ ap (λ (x : Declarations). x.groups) c.schema.ensures in
    let same : indices c.deref.result.now ≡ numbers_of c.args.rulebook.now.groups names = ap indices c.deref.ensures.value ∙ c.in_ok-asked.ensures.numbers ∙ ap (λ (gs : Groups). numbers_of gs names) own in
    let known : unknown_group_in c.args.rulebook.now.groups names ≡ false = rw own at c.in_ok-asked.ensures.known in
    IfErr-weaker c.validate_property.result _ _ (λ fault it is. (known, (it is).0, (it is).1)) (rw same at c.validate_property.ensures.many)
