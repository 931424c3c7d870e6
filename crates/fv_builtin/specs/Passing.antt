-- What a datum has, and tests of it.
use Rattle.std.specs.Prelude.{ℕ, List, Bool, true, Option, Some, None}
use Rattle.fv_datum.specs.Data.{Data, boolean, text}

-- the truth value of a boolean; other data have none
abbrev pub boolean_of : Data → Option Bool
boolean_of (boolean b) = Some b
boolean_of _ = None

-- the bytes of a text; other data have none
abbrev pub text_of : Data → Option (List ℕ)
text_of (text s) = Some s
text_of _ = None

-- what is there passes a test; where nothing is there, nothing is asked
abbrev pub passes : {X : Type 0} → (X → Bool) → Option X → Bool
passes test None = true
passes test (Some x) = test x
