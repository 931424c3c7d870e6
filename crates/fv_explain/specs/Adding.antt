-- Lines that are added behind others.
use Rattle.std.specs.Prelude.{◌≡◌, ◌++◌, ℕ, List, map, string_bytes}
use Rattle.fv_explain.specs.declared.lines.Lines.{Lines}

-- the lines so far
abbrev pub texts : Lines → List (List ℕ)
texts lines = map string_bytes lines.texts.items

-- these are added behind those that were there, and they are still written as plain text or as JSON
abbrev pub Adds : Lines → List (List ℕ) → Lines → Type 0
Adds old more new = (texts new ≡ texts old ++ more) × (new.json ≡ old.json)
