use Rattle.std.proofs.Common.{◌≡◌, drop, map, string_bytes}
use Rattle.fv_explain_over.specs.Places.{place_from, place_of}
use Rattle.fv_explain_over.proofs.lines.place_of.Given as goal

-- the names that are left lead on to the place of all
abbrev pub invariant-loop-name : goal.invariant-loop-name
invariant-loop-name l =
    place_from (string_bytes l.place) (map (λ name. name.now) (drop l.name-index l.names)) ≡ place_of (map (λ name. name.now) l.names)
