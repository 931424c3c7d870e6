-- What a command is answered.
use Rattle.std.specs.Prelude.{ℕ, List}
use Rattle.fv_declare_judging.specs.declared.fault.DeclFault.{DeclFault}
use Rattle.fv_bundle.specs.Bundles.{Bundled}
use Rattle.fv_validate.specs.Violations.{Judged, Reported}
use Rattle.fv_engine_reply.specs.declared.answer.Done.{Done}
use Rattle.fv_engine_reply.specs.declared.answer.Misfit.{Misfit}
use Rattle.fv_engine_reply.specs.declared.answer.Refusal.{Refusal}

pub data Answer : Type 0 where
  -- a command that changes records was taken
  done : Done → Answer
  -- the record of an id: its form and its bundle
  shown : List ℕ → List ℕ → Bundled → Answer
  -- a command that changes records, or declarations over them, was refused, with all violations of the records that have some
  violated : List Judged → Answer
  -- all violations of a record that was checked
  checked : List Reported → Answer
  -- those of a field of a stored object
  field_checked : List Reported → Answer
  -- those of a value that isn't stored
  value_checked : List Reported → Answer
  -- ids of a form
  ids : List (List ℕ) → Answer
  -- another refusal
  refused : Refusal → Answer
  -- the same for a part of a batch, by its number
  part_refused : ℕ → Refusal → Answer
  -- declarations were changed
  redeclared : Answer
  -- declarations aren't taken, by their first fault
  misdeclared : DeclFault → Answer
  -- a stored record doesn't fit them: its id, and why
  unfit : List ℕ → Misfit → Answer
