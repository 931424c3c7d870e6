-- The flaws of given data, as the code tells them.
use Rattle.std.specs.Prelude.{◌≡◌, Bool}
use Rattle.fv_bundle.specs.Flaws.{Flaw, undeclared, dangles, strays, is_large}
use Rattle.fv_bundle.specs.Names.{ObjectTypes}
use Rattle.fv_bundle.specs.declared.flaws.Flaws.{Flaws}

-- a flaw is told exactly where it is there
pub record Tells (told : Flaws) (types : ObjectTypes) (is_there : Flaw → Bool) : Type 0 where
  pub undeclared : told.undeclared ≡ is_there undeclared
  pub dangling : told.dangling ≡ is_there (dangles types)
  pub stray : told.stray ≡ is_there (strays types)
  pub large : told.large ≡ is_there is_large
