-- The names of objects with those of their types.
use Rattle.std.specs.Prelude.{ℕ, List, map}
use Rattle.std.specs.Borrow.{Bor}
use Rattle.std.specs.HashMap.{HashMap}
use Rattle.std.specs.declared.hash.FoldHasher.{FoldHasher}
use Rattle.std.specs.declared.hash.BuildHasherDefault.{BuildHasherDefault}

-- the names of objects, each with the name of its type
abbrev pub ObjectTypes : Type 0
ObjectTypes = List (List ℕ × List ℕ)

-- the same, as the code has them
abbrev pub object_types_view : HashMap (Bor (List ℕ)) (Bor (List ℕ)) (BuildHasherDefault FoldHasher) → ObjectTypes
object_types_view m = map (λ e. (e.0.now, e.1.now)) m.entries
