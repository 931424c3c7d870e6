use Rattle.std.proofs.Common.{◌∷◌, [], List, ℕ, subst}
use Rattle.std.proofs.lemmas.List.{append-nil}
use Rattle.fv_message.specs.Full.{Become, key, nothing}
use Rattle.fv_message.specs.Template.{parameter}
use Rattle.fv_message.proofs.laws.key_becomes_its_text.Goals as goal

pub returns : goal.returns
returns c = λ ms attributes name template full found h.
    subst (λ (t : List ℕ). Become ms attributes (parameter name ∷ []) t) (append-nil full) (key found h.1 h.2 nothing)
