use Rattle.std.proofs.Common.{rules, sym, ◌∙◌}
use Rattle.std.proofs.lemmas.Fn.{always_returns_same}
use Rattle.fv_store_tables.proofs.Named.{beside, handed, object_met}
use Rattle.fv_store_tables.proofs.rows.has_name.Goals as goal

pub returns-then-is_ok : goal.returns-then-is_ok
returns-then-is_ok c =
    let name = c.args.name.now in
    let met = c.binary_search_by-found.ensures.position (beside name) (always_returns_same _ _ _ (λ a r g called. search (rules, handed name))) in
    object_met name c.args.objects.now c.binary_search_by-found.result c.binary_search_by-found.ensures.bound met (sym c.is_ok.ensures.value ∙ c.if-is_ok.true)
