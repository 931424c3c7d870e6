-- Whether data can be written, as a test; for private clauses.
use Rattle.std.specs.Prelude.{◌&&◌, Bool, true}
use Rattle.fv_datum.specs.Data.{Data, list, map, optional, Items, no_items, item, Entries, no_entries, entry}
use Rattle.fv_datum.specs.Written.{keys_fit}

-- the keys of each map are texts in order
abbrev mutual
  pub is_writable : Data → Bool
  is_writable (list ds) = items_writable ds
  is_writable (map es) = keys_fit es && entries_writable es
  is_writable (optional d) = is_writable d
  is_writable d = true

  -- the same of each item
  pub items_writable : Items → Bool
  items_writable no_items = true
  items_writable (item d ds) = is_writable d && items_writable ds

  -- the same of each value
  pub entries_writable : Entries → Bool
  entries_writable no_entries = true
  entries_writable (entry k d es) = is_writable d && entries_writable es
