-- What an iterator over the parts of a datum has left.
use Rattle.std.specs.Prelude.{List, [], ◌∷◌, drop, Some, None}
use Rattle.fv_datum.specs.Data.{Data}
use Rattle.fv_datum.specs.View.{view, items_view, entries_view}
use Rattle.fv_extract.specs.Parts.{Locus, items_from, keys_in, values_in}
use Rattle.fv_extract.specs.declared.finding.Inside.{Inside}
use Rattle.fv_extract.specs.declared.finding.Inside.TheVariants.{Elements, Keys, Values, Content}

-- the parts that are left
abbrev pub inside_left : Inside → List (Locus × Data)
inside_left (Elements items next) = items_from next (items_view (drop next items.now))
inside_left (Keys entries) = keys_in (entries_view entries.now)
inside_left (Values entries) = values_in (entries_view entries.now)
inside_left (Content None) = []
inside_left (Content (Some d)) = ([], view d.now) ∷ []
