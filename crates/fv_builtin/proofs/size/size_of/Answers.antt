use Rattle.std.proofs.Common.{◌≡◌, Some, length, ap, sym, ◌∙◌, rules}
use Rattle.fv_datum.specs.Data.{list, map}
use Rattle.fv_datum.specs.View.{view, items_view, entries_view}
use Rattle.fv_datum.specs.declared.datum.Datum.{the_lemmas}
use Rattle.fv_builtin.specs.Sizes.{size_of}
use Rattle.fv_builtin.proofs.Counts.{list_size, map_size}
use Rattle.fv_builtin.proofs.size.size_of.Goals as goal

pub returns-in-List : goal.returns-in-List
returns-in-List c =
    let v = c.in-List.items in
    let seen : view c.args.datum.now ≡ list (items_view v.items) = search (rules, the_lemmas, c.in-List.is) in
    let count : c.len.result ≡ length v.items = search (rules, c.len.ensures) in
    ap (λ n. Some n) count ∙ sym (list_size v.items) ∙ sym (ap size_of seen)

pub returns-in-Map : goal.returns-in-Map
returns-in-Map c =
    let v = c.in-Map.entries in
    let seen : view c.args.datum.now ≡ map (entries_view v.items) = search (rules, the_lemmas, c.in-Map.is) in
    let count : c.len-in-Map.result ≡ length v.items = search (rules, c.len-in-Map.ensures) in
    ap (λ n. Some n) count ∙ sym (map_size v.items) ∙ sym (ap size_of seen)
