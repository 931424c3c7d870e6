-- What a call may answer.
use Rattle.std.specs.Prelude.{◌≡◌, ◌≢◌, List, [], ◌∷◌, Bool, Option, Some, None, Result, Ok, Err, if◌then◌else◌}

-- A call answered what a definition gives, seen by view. Want of memory, an answer of its own, may come at any place.
abbrev pub Gives : {X Y E : Type 0} → E → (X → Y) → Result X E → Result Y E → Type 0
Gives memory view (Ok x) given = given ≡ Ok (view x)
Gives memory view (Err e) given = e ≢ memory → given ≡ Err e

-- the first fault of a list whose condition holds
abbrev pub first : {E : Type 0} → List (Bool × E) → Option E
first [] = None
first (c ∷ cs) = if c.0 then Some c.1 else first cs

-- the value, or the fault where there is one
abbrev pub unless_fault : {E Y : Type 0} → Option E → Y → Result Y E
unless_fault None y = Ok y
unless_fault (Some e) y = Err e
