-- A place is found exactly where a fault's condition holds.
use Rattle.std.proofs.Common.{◌≡◌, ℕ, List, not, is_some}
use Rattle.fv_constraint.specs.Meanings.{meant_by, composes_unknown}
use Rattle.fv_constraint.specs.Refusals.{is_empty, is_empty_in}
use Rattle.fv_constraint.specs.Whereabouts.{unknown_composing, empty_definition}
use Rattle.fv_constraint.specs.declared.at.ConstraintAt.TheVariants as at
use Rattle.fv_declare_definition.specs.Definitions.{Definition, Definitions}
use Rattle.fv_first.proofs.Laws.{where_told, inner_told}

pub unknown_told : (ds : Definitions) → is_some (unknown_composing ds) ≡ composes_unknown ds
unknown_told ds = inner_told at.Composing (λ d c. not (is_some (meant_by ds c.constraint))) (λ (d : List ℕ × Definition). d.1.composing) ds

pub empty_told : (ds : Definitions) → is_some (empty_definition ds) ≡ is_empty_in ds
empty_told ds = where_told (λ (d : List ℕ × Definition). is_empty d.1) ds
