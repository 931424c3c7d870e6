-- The limits of bundles.
use Rattle.std.specs.Prelude.{ℕ}

-- how many objects a bundle has at most
abbrev pub most_objects : ℕ
most_objects = 256
