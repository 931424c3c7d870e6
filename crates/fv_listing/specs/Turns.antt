-- The turns that contracts see.
use Rattle.std.specs.Prelude.{ℕ, [], ◌∷◌, map, Vec}
use Rattle.std.specs.declared.alloc.Global.{Global}
use Rattle.fv_graph.specs.Graph.{IsIn}
use Rattle.fv_local.specs.Graphs.{way_view}
use Rattle.fv_walk_traces.specs.Requests.{GraphRequest}
use Rattle.fv_walk_traces.specs.Turns.{FreeTurn, Ask, Step, Group, Fail, Turn, Free, Rank, Turns}
use Rattle.fv_listing.specs.declared.turn.Turn as code
use Rattle.fv_listing.specs.declared.turn.Turn.TheVariants as turn

-- a turn
abbrev pub turn_view : code.Turn → Turn FreeTurn
turn_view (turn.Ask group) = Free (Ask group.index)
turn_view (turn.Step way) = Free (Step (way_view way.now))
turn_view (turn.Rank rank) = Rank rank

-- turns one after the other
abbrev pub turns_view : Vec code.Turn Global → Turns
turns_view v = map turn_view v.items

-- each reference that is followed is one of the object that the turns before it lead to
abbrev pub IsLedFrom : GraphRequest → ℕ → Turns → Type 0
IsLedFrom request object [] = Unit {0}
IsLedFrom request object (Free (Ask g) ∷ turns) = IsLedFrom request object turns
IsLedFrom request object (Free (Step way) ∷ turns) = IsIn (request.ways object) way × IsLedFrom request way.target turns
IsLedFrom request object (Free (Group h) ∷ turns) = IsLedFrom request object turns
IsLedFrom request object (Free (Fail f) ∷ turns) = IsLedFrom request object turns
IsLedFrom request object (Rank i ∷ turns) = IsLedFrom request object turns
