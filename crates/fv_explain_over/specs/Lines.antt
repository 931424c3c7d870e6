-- The lines of a comparison.
use Rattle.std.specs.Prelude.{◌≡◌, ◌↔◌, ◌++◌, ◌∷◌, [], ℕ, Bool, true, false, IsTrue, List, codes, length}
use Rattle.std.specs.List.{AllZip}
use Rattle.serde_json.specs.Data.{Data}
use Rattle.fv_bundle.specs.Names.{ObjectTypes}
use Rattle.fv_bundle.specs.Types.{Declared}
use Rattle.fv_explain_over.specs.declared.lines.OverLine.{OverLine}
use Rattle.fv_explain_over.specs.declared.lines.OverLine.TheVariants as line
use Rattle.fv_explain_over.specs.Changes.{AreTold}
use Rattle.fv_explain_over.specs.Misfits.{IsMisfit}
use Rattle.fv_widening.specs.Narrowed.{narrowed}
use Rattle.fv_widening.specs.declared.narrowing.Narrowed.{Narrowed}

-- a line in plain text
abbrev pub line_text : OverLine → List ℕ
line_text (line.Added place) = codes "added: " ++ place.now
line_text (line.Changed place) = codes "changed: " ++ place.now
line_text (line.Removed place) = codes "removed: " ++ place.now
line_text (line.Narrowed place fault name text) =
    codes "may not fit: " ++ (place.now ++ (codes ": "
    ++ (fault.now ++ (codes " " ++ (name.now ++ (codes ": " ++ text.now))))))
line_text (line.Records fit text) = text.now

-- whether all records fit
abbrev pub records_text : Bool → List ℕ
records_text true = codes "every record of the old declarations is well-typed under these: a redeclare is never C14; no comparison tells violations (C10)"
records_text false = codes "a record of the old declarations may not be well-typed under these: a redeclare may be C14 at the places above"

-- the changes of a JSON document over another, the line of each narrowing of types and forms, and at the end whether all
-- records fit
abbrev pub IsTold : Bool → Data → Data → Declared → ObjectTypes → Declared → Bool → List Narrowed → List (List ℕ) → Type 0
IsTold json d e old forms new fit found lines = (changed told : List (List ℕ)) × (last : List ℕ)
    × (lines ≡ changed ++ (told ++ (last ∷ []))) × AreTold json d e changed × (length told ≡ length found)
    × (json ≡ false → AllZip (IsMisfit old forms new) found told × (last ≡ records_text fit))

-- the lines of declarations over others, by the JSON, the types and the forms of both: all records fit exactly where nothing is narrowed
abbrev pub TellsOver : Bool → Data → Declared → ObjectTypes → Data → Declared → ObjectTypes → List (List ℕ) → Type 0
TellsOver json d old forms e new new_forms lines =
    (fit : Bool) × (IsTrue fit ↔ (narrowed old forms new new_forms ≡ [])) × IsTold json d e old forms new fit (narrowed old forms new new_forms) lines
