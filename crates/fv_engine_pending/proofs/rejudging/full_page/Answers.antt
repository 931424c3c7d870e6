use Rattle.std.proofs.Common.{◌≡◌, ◌++◌, List, ℕ, map, Option, Some, None, IfSome, String, Global, string_bytes, option_to_list, sym, ap, ◌∙◌}
use Rattle.fv_engine_pending.specs.Passes.{last_of}
use Rattle.fv_engine_pending.proofs.Pages.{last_end}
use Rattle.fv_engine_pending.proofs.rejudging.full_page.Goals as goal

popped : (all rest : List (String Global)) (o : Option (String Global)) → all ≡ rest ++ option_to_list o → IfSome o (λ s. (above : List ℕ) → string_bytes s ≡ last_of above (map string_bytes all))
popped all rest None is = tt
popped all rest (Some s) is = λ above. last_end string_bytes above rest s ∙ ap (λ xs. last_of above (map string_bytes xs)) (sym is)

pub returns-clause-last : goal.returns-clause-last
returns-clause-last c = popped c.args.ids.items c.pop.new.self.items c.pop.result c.pop.ensures.items
