-- The patterns that are built, by their texts.
use Rattle.std.specs.Prelude.{ℕ, List, IfSome}
use Rattle.std.specs.BTreeMap.{BTreeMap, get_by_text}
use Rattle.std.proofs.Props.{props}
use Rattle.std.specs.declared.alloc.Global.{Global}
use Rattle.std.specs.declared.rc.Rc.{Rc}
use Rattle.std.specs.declared.string.String.{String}
use Rattle.regex.specs.Patterns.{Reads}
use Rattle.regex.specs.declared.string.regex.Regex.{Regex}
use Rattle.fv_builtin.specs.Matches.{anchored, IsReadFrom}
use Rattle.fv_builtin.specs.declared.compiled.Compiled.{Compiled}

-- the pattern at each text is the one that is read from the text between anchors
abbrev pub AreRead : BTreeMap (String Global) (Rc Compiled Global) → Type 0
AreRead built = (regexp : List ℕ) → IfSome (get_by_text built regexp) (λ regex. IsReadFrom (anchored regexp) regex.value.regex.now)

IsReadFrom-prop : (source : List ℕ) (r : Regex) → IsProp (IsReadFrom source r)
unfolding Reads
IsReadFrom-prop source r = hlevel props

pub AreRead-prop : (built : BTreeMap (String Global) (Rc Compiled Global)) → IsProp (AreRead built)
AreRead-prop built = hlevel (props, IsReadFrom-prop)
