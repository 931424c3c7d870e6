-- What is found first, seen from one element on.
use Rattle.std.proofs.Common.{◌≡◌, ℕ, ◌+◌, ◌<◌, List, length, get_or, drop, map, Option, Some, None, sym, ap, ◌∙◌}
use Rattle.std.specs.Option.{option_or}
use Rattle.fv_declare_definition.specs.DefinitionViews.{composing_view}
use Rattle.fv_declare_definition.specs.Definitions as spec
use Rattle.fv_declare_definition.specs.declared.definition.Composing.{Composing}
use Rattle.fv_first.proofs.Turns.{first_turn}
use Rattle.fv_first.specs.First.{first_from}

pub composing_turn : {P : Type 0} (f : ℕ → spec.Composing → Option P) (xs : List Composing) (i : ℕ) (x : Composing) → i < length xs → x ≡ get_or xs i x
    → first_from f i (map composing_view (drop i xs)) ≡ option_or (f i (composing_view x)) (first_from f (i + 1) (map composing_view (drop (i + 1) xs)))
composing_turn = first_turn composing_view

-- the next element has it
pub found_here : {P : Type 0} (here rest from whole : Option P) (p : P) → here ≡ Some p → from ≡ option_or here rest → from ≡ whole → Some p ≡ whole
found_here here rest from whole p is turn same = ap (λ o. option_or o rest) (sym is) ∙ sym turn ∙ same

-- the next element hasn't
pub found_later : {P : Type 0} (here rest from whole : Option P) → here ≡ None → from ≡ option_or here rest → from ≡ whole → rest ≡ whole
found_later here rest from whole is turn same = ap (λ o. option_or o rest) (sym is) ∙ sym turn ∙ same
