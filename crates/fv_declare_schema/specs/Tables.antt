-- What is kept of groups that are taken.
use Rattle.std.specs.Prelude.{◌≡◌, ◌<◌, ◌↔◌, ℕ, List, map, length, Bool, true, false, slice_index_or, Option, Vec}
use Rattle.std.specs.declared.alloc.Global.{Global}
use Rattle.fv_graph.specs.Graph.{next_of}
use Rattle.fv_declare_schema.specs.Groups.{Groups, inherit_next, member_next, ranks, MeetsDefault}
use Rattle.fv_declare_schema.specs.Judged.{AreSound, are_too_large}
use Rattle.fv_declare_schema.specs.Marked.{flag_of, AreLeading}
use Rattle.fv_declare_schema.specs.Whereabouts.{passed_limit}
use Rattle.fv_declare_schema.specs.declared.declared.GroupId.{GroupId}
use Rattle.fv_declare_schema.specs.declared.fault.GroupLimit.{GroupLimit}

-- the lists of a graph's successors, by its nodes
abbrev pub AreEdges : (ℕ → List ℕ) → ℕ → List (Vec ℕ Global) → Type 0
AreEdges next count edges = (length edges ≡ count) × ((i : ℕ) → next_of edges i ≡ next i)

-- the numbers of groups
abbrev pub indices : List GroupId → List ℕ
indices groups = map (λ g. g.index) groups

-- for each group whether it meets `Default`
abbrev pub AreMeeting : Groups → List Bool → Type 0
AreMeeting gs flags =
    (length flags ≡ length gs) × ((g : ℕ) → g < length gs → (flag_of flags g ≡ true) ↔ MeetsDefault gs g)

-- for each group a row that tells which groups are it or inherit it
abbrev pub AreInheriting : (ℕ → List ℕ) → ℕ → List (Vec Bool Global) → Type 0
AreInheriting next count rows =
    (length rows ≡ count) × ((h : ℕ) (d : Vec Bool Global) → h < count → AreLeading next count (slice_index_or rows h d).items h)

-- for each group the plain groups that it stands for
abbrev pub AreRanks : (ℕ → List ℕ) → ℕ → List (Vec GroupId Global) → Type 0
AreRanks ranks count rows =
    (length rows ≡ count) × ((g : ℕ) (d : Vec GroupId Global) → g < count → indices (slice_index_or rows g d).items ≡ ranks g)

-- groups as two graphs without cycles, and what is told of each of them before the limits are asked
pub record IsGraph (gs : Groups) (inherited members : List (Vec ℕ Global)) (meeting : List Bool) (limit : Option GroupLimit) : Type 0 where
  pub sound : AreSound gs
  pub inherited_are : AreEdges (inherit_next gs) (length gs) inherited
  pub members_are : AreEdges (member_next gs) (length gs) members
  pub meeting_are : AreMeeting gs meeting
  pub limit_is : limit ≡ passed_limit gs

-- groups within the limits, with the tables of inheritance and of ranks
pub record IsTable (gs : Groups) (inheriting : List (Vec Bool Global)) (ranking : List (Vec GroupId Global)) : Type 0 where
  pub sound : AreSound gs
  pub small : are_too_large gs ≡ false
  pub inheriting_are : AreInheriting (inherit_next gs) (length gs) inheriting
  pub ranking_are : AreRanks (ranks gs) (length gs) ranking
