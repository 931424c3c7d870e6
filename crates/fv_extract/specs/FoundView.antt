-- The parts that contracts see.
use Rattle.std.specs.Prelude.{map, Vec}
use Rattle.std.specs.declared.alloc.Global.{Global}
use Rattle.std.specs.Borrow.{Bor}
use Rattle.fv_datum.specs.Data.{Data}
use Rattle.fv_datum.specs.View.{view}
use Rattle.fv_datum.specs.declared.datum.Datum.{Datum}
use Rattle.fv_extract.specs.Parts.{Locus}
use Rattle.fv_extract.specs.Views.{part_view}
use Rattle.fv_extract.specs.declared.place.Part.{Part}

-- a part with its locus
abbrev pub found_view : Vec Part Global × Bor Datum → Locus × Data
found_view p = (map part_view p.0.items, view p.1.now)
