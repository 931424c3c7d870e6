-- Two patterns of one text match the same texts.
use Rattle.std.proofs.Common.{◌≡◌, ℕ, ◌<◌, List, Option, None, Some, is_some, get_or, refl, true}
use Rattle.std.specs.Prelude.{IsSomeAnd, chars}
use Rattle.regex.specs.Patterns.{Re, find_str, default_config, Reads, SameCaptures}
use Rattle.regex.specs.Names.{names_of}
use Rattle.regex.specs.Strings.{regex_pattern, regex_source}
use Rattle.regex.specs.declared.string.regex.Regex.{Regex}
use Rattle.regex.proofs.ForCallers.{is_match_alike}
use Rattle.regex_syntax.specs.Grammar.{read}
use Rattle.regex_syntax.proofs.CapturesLemmas as seen
use Rattle.fv_builtin.specs.Default.{IsDefault}

both_hold : {A B : Type 0} (o : Option A) (P Q : A → Type 0) → ((x : A) → P x → Q x → B) → IsSomeAnd o P → IsSomeAnd o Q → B
both_hold None P Q f p q = absurd p
both_hold (Some x) P Q f p q = f x p q

reads_as : (r : Regex) (source : List ℕ) → regex_source r ≡ source → IsDefault r → Reads default_config source r.pattern.program.hir (names_of r.pattern.names.items)
reads_as r source is (config, read) = rw (is, config) at read

pub same_captures : (a b : Regex) → regex_source a ≡ regex_source b → IsDefault a → IsDefault b → SameCaptures (regex_pattern a) (regex_pattern b)
unfolding Reads
same_captures a b is of_a of_b =
    both_hold (read default_config (chars (regex_source b))) _ _ (λ x h q. seen.◌also◌ h.1 (seen.alike_sym q.1)) (reads_as a (regex_source b) is of_a) (reads_as b (regex_source b) refl of_b)

-- with one text, and by the default options, two patterns tell the same of a text
pub match_alike : (a b : Regex) → regex_source a ≡ regex_source b → IsDefault a → IsDefault b → (hay : List ℕ) → ((k : ℕ) → get_or hay k 0 < 256)
    → is_some (find_str (regex_pattern a) hay 0) ≡ is_some (find_str (regex_pattern b) hay 0)
match_alike a b is of_a of_b hay bytes = is_match_alike (same_captures a b is of_a of_b) hay bytes true 0
