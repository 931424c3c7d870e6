-- What a writer has got.
use Rattle.std.specs.Prelude.{◌≡◌, ◌++◌, Result, OnOk}
use Rattle.json.specs.Tree.{json_tokens}
use Rattle.json.specs.Written.{Written}
use Rattle.serde_json.specs.Data as json
use Rattle.serde_json.specs.Written.{outline}

-- where nothing failed, the tokens of the JSON came after those before
abbrev pub Puts : {E : Type 0} → Result (Unit {0}) E → Written → Written → json.Data → Type 0
Puts r old new j = OnOk r ((new.tokens ≡ old.tokens ++ json_tokens (outline j)) × (new.before ≡ old.before))
