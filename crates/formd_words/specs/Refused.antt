-- What is written of declarations that are refused.
use Rattle.std.specs.Prelude.{◌⊎◌, ℕ, Bool, List, Ok}
use Rattle.fv_declare_judging.specs.Declares.{Declares}
use Rattle.fv_declare_judging.specs.declared.fault.DeclFault.{DeclFault}
use Rattle.fv_declare_schema.specs.Declarations.{Declarations}
use Rattle.fv_explain.specs.Explained.{TellsFault, TellsLines}
use Rattle.fv_registry.specs.Rules.{Known}

-- the line of the fault, or, if the same text is taken when it is read again, what it declares: of a pattern `regex` may answer either
abbrev pub TellsRefused : Known → List ℕ → Bool → DeclFault → List (List ℕ) → Type 0
TellsRefused known text as_json fault lines =
    TellsFault as_json fault lines ⊎ ((ds : Declarations) × Declares known text (Ok ds) × TellsLines as_json ds lines)
