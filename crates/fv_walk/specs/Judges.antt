-- What stands before a walk, in the words of its course and of its judge; for private clauses.
use Rattle.std.specs.Prelude.{◌≡◌, ◌≤◌, ℕ, ◌+◌, List, ◌∷◌, All, Some, false, length, drop, slice_get}
use Rattle.fv_graph.specs.Graph.{mem}
use Rattle.fv_declare_schema.specs.Tables.{indices}
use Rattle.fv_declare_schema.specs.declared.declared.GroupId.{GroupId}
use Rattle.fv_registry.specs.Meanings.{Meanings}
use Rattle.fv_walk_traces.specs.Frames.{held, carried_at, own_log, asks_owe}
use Rattle.fv_walk_traces.specs.Log.{Event, Entered, entries}
use Rattle.fv_walk_traces.specs.Requests.{GraphRequest}
use Rattle.fv_walk_traces.specs.Turns.{Way}
use Rattle.fv_walk_traces.specs.Violations.{Reached}
use Rattle.fv_walk.specs.Courses.{visiting, judging, objects_in, groups_in}
use Rattle.fv_walk.specs.Courses as course
use Rattle.fv_walk.specs.Stacks.{IsGood, SkipsWays, on_way, path_on, what_owes, what_weighs, what_visits, fresh_frame}
use Rattle.fv_walk.specs.Walks as walk
use Rattle.fv_walk.specs.declared.course.Course.{Course}
use Rattle.fv_walk.specs.declared.course.Frame.{Frame}
use Rattle.fv_walk.specs.declared.course.GroupVisit.{GroupVisit}
use Rattle.fv_walk.specs.declared.walking.Judge.{Judge}
use Rattle.fv_walk.specs.declared.walking.Walked.{Walked}

-- ---- on a course

-- the references that an object holds
abbrev pub ways_of : Course → ℕ → List Way
ways_of c object = (visiting c).ways object

-- how many groups are carried one after the other for one that is handed on
abbrev pub rank_count : Course → GroupId → ℕ
rank_count c group = length (held (visiting c) group.index)

-- a frame's numbers are in range
abbrev pub IsGoodOn : Course → Frame → Type 0
IsGoodOn c f = IsGood (visiting c) (objects_in c) (groups_in c) f

-- those of each of these frames are
abbrev pub AreGoodOn : Course → List Frame → Type 0
AreGoodOn c fs = All (IsGood (visiting c) (objects_in c) (groups_in c)) fs

-- of the references of a frame above a stack that weren't looked at, those before a place are passed over
abbrev pub SkipsTo : Course → List Frame → Frame → ℕ → Type 0
SkipsTo c below f at = SkipsWays (f.object ∷ on_way below) (drop f.next ((visiting c).ways f.object)) (drop at ((visiting c).ways f.object))

-- the one at a place leads to no object on the way
abbrev pub IsOpenAt : Course → List Frame → Frame → ℕ → Type 0
IsOpenAt c below f at = (way : Way) → slice_get ((visiting c).ways f.object) at ≡ Some way → mem (f.object ∷ on_way below) way.target ≡ false

-- how many visits a stack has before it
abbrev pub visits_left : Course → List Frame → ℕ
visits_left c frames = what_visits (visiting c) (objects_in c) frames

-- a bound on the rounds that it takes to count them
abbrev pub rounds_left : Course → List Frame → ℕ
rounds_left c frames = what_weighs (visiting c) (objects_in c) frames

-- how many visits a group has that is asked for
abbrev pub group_visits : Course → GroupId → ℕ
group_visits c group = walk.group_visits (visiting c) (objects_in c) group.index

-- how many those have together that are asked for
abbrev pub all_visits : Course → ℕ
all_visits c = walk.groups_visit (visiting c) (objects_in c) (indices c.asked.now)

-- ---- by a judge, where rules mean what they do

module _ {R : Type 0} where
  -- its course is sound, and its schema is that of its rulebook
  abbrev pub CanJudge : Judge R → Type 0
  CanJudge j = course.IsJudge j.course j.rulebook.now j.moment

  -- the request that it goes through
  abbrev pub asked_of : Meanings → Judge R → GraphRequest
  asked_of m j = judging m j.moment j.course

  -- what is entered and found of a visit's object itself above a stack, in the group that is carried there
  abbrev pub entering : Meanings → Judge R → List Frame → GroupVisit → List (Event Reached)
  entering m j below v =
      Entered ∷ own_log (judging m j.moment j.course) (objects_in j.course) (path_on (visiting j.course) below) v.object
      (carried_at (visiting j.course) v.group.index v.rank)

  -- the frame that is put on the stack there
  abbrev pub entered_frame : Meanings → Judge R → GroupVisit → Frame
  entered_frame m j v = fresh_frame (judging m j.moment j.course) (objects_in j.course) v.object v.group v.rank

  -- what a stack still owes
  abbrev pub owes : Meanings → Judge R → List Frame → List (Event Reached)
  owes m j frames = what_owes (judging m j.moment j.course) (objects_in j.course) frames

  -- a bound on the rounds that it takes
  abbrev pub weighs : Meanings → Judge R → List Frame → ℕ
  weighs m j frames = what_weighs (judging m j.moment j.course) (objects_in j.course) frames

  -- what a group owes that is asked for
  abbrev pub group_owes : Meanings → Judge R → GroupId → List (Event Reached)
  group_owes m j group = walk.group_owes (judging m j.moment j.course) (objects_in j.course) group.index

  -- what those owe together that are asked for
  abbrev pub all_owe : Meanings → Judge R → List (Event Reached)
  all_owe m j = asks_owe (judging m j.moment j.course) (objects_in j.course) (indices j.course.asked.now)

-- as many visits may still be entered as these events enter
abbrev pub HasRoomFor : Walked → List (Event Reached) → Type 0
HasRoomFor w events = w.entered + entries events ≤ 4096
