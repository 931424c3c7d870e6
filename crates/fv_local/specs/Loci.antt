-- The loci that paths can be written of, and the data that have such loci alone.
use Rattle.std.specs.Prelude.{◌<◌, ◌+◌, ◌^◌, ℕ, List, [], ◌∷◌, Bool, true, false, nat_lt, ◌&&◌}
use Rattle.fv_datum.specs.Data.{Data, list, map, optional, Items, no_items, item, Entries, no_entries, entry}
use Rattle.fv_extract.specs.Parts.{Locus, at_index, at_key}
use Rattle.fv_extract.specs.Places as to

-- the locus is one that the steps lead to: an index, of at most 4294967295, for each element and a key for each value of a map; no step
-- follows a step to a key
abbrev pub leads : List to.PlaceStep → Locus → Bool
leads [] [] = true
leads (to.element ∷ steps) (at_index i ∷ l) = nat_lt i (2 ^ 32) && leads steps l
leads (to.key ∷ []) (at_key k ∷ []) = true
leads (to.value ∷ steps) (at_key k ∷ l) = leads steps l
leads (to.content ∷ steps) l = leads steps l
leads _ _ = false

abbrev mutual
  -- each item of each list in a datum has an index of at most 4294967295
  pub IsIndexed : Data → Type 0
  IsIndexed (list ds) = AreIndexed 0 ds
  IsIndexed (map es) = EntriesIndexed es
  IsIndexed (optional d) = IsIndexed d
  IsIndexed _ = Unit {0}

  -- the items of a list, from an index on
  pub AreIndexed : ℕ → Items → Type 0
  AreIndexed i no_items = Unit {0}
  AreIndexed i (item d ds) = (i < 2 ^ 32) × IsIndexed d × AreIndexed (i + 1) ds

  -- the keys and values of a map
  pub EntriesIndexed : Entries → Type 0
  EntriesIndexed no_entries = Unit {0}
  EntriesIndexed (entry k d es) = IsIndexed k × IsIndexed d × EntriesIndexed es
