use Rattle.std.proofs.Common.{◌≡◌, ℕ, Result, Ok, Err, IfOk, sym, ◌∙◌}
use Rattle.std.specs.declared.alloc.AllocError.{AllocError}
use Rattle.fv_datum.specs.Attributes.{Attributes}
use Rattle.fv_graph.specs.Graph.{MeetsCycle}
use Rattle.fv_message.specs.Expanded.{expansion_text, IsExpansion}
use Rattle.fv_message.specs.Evaluated.{full_text}
use Rattle.fv_message.specs.Table.{Messages}
use Rattle.fv_message.specs.Numbers.{text_at, next_keys}
use Rattle.fv_message.specs.declared.expansion.Expansion.{Expansion}
use Rattle.fv_message.proofs.Keys.{key_unfolds}
use Rattle.fv_message.proofs.expanding.ExpandingCombine.combine.Goals as goal

made : (ms : Messages) (i : ℕ) (r : Result Expansion AllocError) → (MeetsCycle (next_keys ms) i → ⊥)
    → IfOk r (λ e. (attributes : Attributes) → expansion_text attributes e ≡ full_text ms attributes (text_at ms i)) → IfOk r (λ e. IsExpansion ms i e)
made ms i (Ok e) none h = λ attributes. h attributes ∙ sym (key_unfolds ms attributes i none)
made ms i (Err f) none h = tt

pub returns : goal.returns
returns c = made c.args.self.now.messages.now c.args.node c.expand.result c.requires.no_cycle (rw c.text.ensures at c.expand.ensures)
