use Rattle.std.proofs.Common.{ℕ, List, Option, [], ◌++◌, string_bytes, sym, ap, ◌∙◌, arith}
use Rattle.std.specs.List.{cons_option}
use Rattle.fv_declare_schema.specs.Groups.{group_number}
use Rattle.fv_declare_schema.proofs.Numbers.{numbers_more}
use Rattle.fv_declare_schema.proofs.declared.DeclaredGroups.numbers_of.Goals as goal

pub loop-name-preserved : goal.loop-name-preserved
loop-name-preserved c =
    let gs = c.args.self.now in
    let more = numbers_more gs c.args.names.now c.loop-name.name-index c.name-item.result (omega arith) c.name-item.is in
    c.in_ok-add_found.ensures
    ∙ ap (λ (o : Option ℕ). c.loop-name.numbers.items ++ cons_option o []) (c.find.ensures.number ∙ ap (group_number gs) c.as_str.ensures.value)
    ∙ ap (λ (l : List ℕ). l ++ cons_option (group_number gs (string_bytes c.name-item.result)) []) c.loop-name.invariant ∙ sym more
