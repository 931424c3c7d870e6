-- How a pattern is read.
use Rattle.std.specs.Prelude.{◌≡◌, ◌≢◌, ℕ, List, ◌++◌, codes}
use Rattle.regex.specs.Patterns.{Re, Reads, default_config}
use Rattle.regex.specs.Strings.{regex_source, regex_config, IsReadFromSource, IsDefaultFailure}
use Rattle.regex.specs.declared.error.Error.{Error}
use Rattle.regex.specs.declared.error.Error.TheVariants.{OutOfMemory}
use Rattle.regex.specs.declared.string.regex.Regex.{Regex}
use Rattle.regex_hir.specs.Meaning.{meaning}
use Rattle.regex_hir.specs.declared.hir.Hir.{Hir}
use Rattle.regex_syntax.specs.Grammar.{Names}

-- the text of a pattern that matches all of a text or nothing
abbrev pub anchored : List ℕ → List ℕ
anchored regexp = codes "\\A(?:" ++ (regexp ++ codes ")\\z")

-- the pattern is what the regex crate reads, by its default options, from a text
abbrev pub IsPatternOf : List ℕ → Re → Type 0
IsPatternOf source re = (hir : Hir) × (names : Names) × Reads default_config source hir names × (re ≡ meaning hir)

-- the regex crate may refuse the text, for another cause than memory
abbrev pub IsNoPattern : List ℕ → Type 0
IsNoPattern source = (e : Error) × (e ≢ OutOfMemory) × IsDefaultFailure source e

-- what is compiled is what the regex crate reads, by its default options, from a text
abbrev pub IsReadFrom : List ℕ → Regex → Type 0
IsReadFrom source r = (regex_source r ≡ source) × (regex_config r ≡ default_config) × IsReadFromSource r
