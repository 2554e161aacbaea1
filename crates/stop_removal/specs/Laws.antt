use Rattle.std.specs.Prelude.{◌≡◌, ℕ, ◌+◌, ◌-◌, ◌≤◌, true, cond, nat_lt, List, length, slice_get}
use Rattle.ride_base.specs.declared.numbers.RequestNo.{RequestNo}
use Rattle.road_graph.specs.Graphs.{IsGraph}
use Rattle.road_graph.specs.Paths.{Path}
use Rattle.road_graph.specs.Roads.{Roads, IsNode}
use Rattle.stop_schedule.specs.Fronts.{IsAhead, front_of}
use Rattle.stop_schedule.specs.Keeping.{IsProper, HasLeastWalks, keeps}
use Rattle.stop_schedule.specs.Plans.{Plan, course_of}
use Rattle.stop_schedule.specs.Rates.{Rates}
use Rattle.stop_schedule.specs.Times.{arrives, departs}
use Rattle.stop_schedule.specs.Distances.{AreLeastWalks}
use Rattle.stop_removal.specs.Removals.{AreStopsOf, joint_ends, removed_in}

-- what is so of each schedule of a good fleet at a clock: it stands in the graph, is proper, keeps and has least walks, and its next
-- stop isn't reached before the clock
pub record IsGoodPlan (g : Roads) (rates : Rates) (clock : ℕ) (p : Plan) : Type 0 where
  pub placed : IsNode g p.place
  pub proper : IsProper p
  pub kept : keeps rates p ≡ true
  pub least_walks : HasLeastWalks g p
  pub ahead : IsAhead p clock

-- where the k-th stop that stays, counted from 1, stood before the stops at positions a and b were taken out
abbrev pub stood_at : (a b k : ℕ) → ℕ
stood_at a b k = cond (nat_lt k a) k (cond (nat_lt (k + 1) b) (k + 1) (k + 2))

-- stop k of the new schedule is stop l of the old one, and is reached and left no later
pub record IsNoLater (stop : ℕ) (new old : Plan) (k l : ℕ) : Type 0 where
  pub stays : slice_get new.stops (k - 1) ≡ slice_get old.stops (l - 1)
  pub reached : arrives stop (course_of new) k ≤ arrives stop (course_of old) l
  pub left : departs stop (course_of new) k ≤ departs stop (course_of old) l

-- A removal at a clock breaks no promise and makes no other stop later: a good schedule, less both stops of a number and with least
-- walks for the joined legs, is good, and each stop that stays is reached and left no later.
abbrev pub RemovalsKeepPromises : Type 0
RemovalsKeepPromises = (g : Roads) (rates : Rates) (clock : ℕ) (p : Plan) (number : RequestNo) (a b : ℕ) (walks : List Path)
    → IsGraph g → IsGoodPlan g rates clock p → AreStopsOf number p.stops a b → AreLeastWalks g (joint_ends p.stops (front_of p clock) a b) walks
    → let new = removed_in p (front_of p clock) a b walks in
    IsGoodPlan g rates clock new × ((k : ℕ) → 1 ≤ k → k ≤ length new.stops → IsNoLater rates.stop new p k (stood_at a b k))
