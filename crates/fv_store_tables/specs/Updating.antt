-- The UPDATE of the rows of all objects of a record by one statement, whose CASEs find what a row shall have by its rowid.
use Rattle.std.specs.Prelude.{◌≡◌, ◌<◌, ◌≤◌, ◌<ℤ◌, ℕ, ℤ, zero, suc, List, [], ◌∷◌, length, map}
use Rattle.sqlite.specs.declared.types.Value.TheVariants.{Int, Text as Words}
use Rattle.sqlite.specs.Order.{Row}
use Rattle.sqlite.specs.Effect.{Database}
use Rattle.fv_store_tables.specs.Causes.{HasRooms}
use Rattle.fv_store_tables.specs.Stands.{Maps, NumberedThing, SpellsTables}
use Rattle.fv_store_tables.specs.Changes.{AllTexts, AreApart, all_added}
use Rattle.fv_store_tables.specs.Steps.{AreRowsOf, ArePartsOf}

-- what rows keep, without the rowids
abbrev pub things_of : List NumberedThing → AllTexts
things_of rs = map (λ (r : NumberedThing). r.1) rs

-- each row has a rowid above that of the row before it, the first one above this, and the name of the object in its place
abbrev pub Follow : ℤ → List NumberedThing → AllTexts → Type 0
Follow n [] [] = Unit {0}
Follow n [] (o ∷ os) = ⊥
Follow n (r ∷ rs) [] = ⊥
Follow n (r ∷ rs) (o ∷ os) = (n <ℤ r.0) × (r.1.0 ≡ o.0) × Follow r.0 rs os

-- rows that one statement writes anew with what these objects have: one at least and sixteen at most
pub record IsRange (rs : List NumberedThing) (os : AllTexts) : Type 0 where
  pub some : 0 < length rs
  pub few : length rs ≤ 16
  pub follow : (n : ℤ) × Follow n rs os

-- these objects, each under the rowid of the row in its place
abbrev pub under_rowids : List NumberedThing → AllTexts → List NumberedThing
under_rowids [] os = []
under_rowids (r ∷ rs) [] = []
under_rowids (r ∷ rs) (o ∷ os) = (r.0, o) ∷ under_rowids rs os

-- so many places: these, and behind them the last of them again and again
abbrev pub filled : ℕ → List NumberedThing → List NumberedThing
filled zero ps = []
filled (suc n) [] = []
filled (suc n) (p ∷ []) = p ∷ filled n (p ∷ [])
filled (suc n) (p ∷ q ∷ ps) = p ∷ filled n (q ∷ ps)

-- the sixteen places of the statement that writes these objects over these rows
abbrev pub places_of : List NumberedThing → AllTexts → List NumberedThing
places_of rs os = filled 16 (under_rowids rs os)

-- the parameters of places
abbrev pub place_values : List NumberedThing → Row
place_values [] = []
place_values (p ∷ ps) = Int p.0 ∷ Words p.1.1.kind ∷ Words p.1.1.fields ∷ place_values ps

-- those of a statement, behind the record's id
abbrev pub range_values : List ℕ → List NumberedThing → Row
range_values id ps = Words id ∷ place_values ps

-- Where these are all rows of the record's objects, they have what these objects have since. No rowid is taken.
abbrev pub UpdatesRange : List ℕ → List NumberedThing → AllTexts → Database → Database → Type 0
UpdatesRange id rs os old new =
    (d : List Row) (t : Maps) → SpellsTables old d t → AreRowsOf id rs old → ArePartsOf id (things_of rs) t → AreApart os
    → SpellsTables new d (all_added id os t) × ((n : ℕ) → HasRooms n old → HasRooms n new)
