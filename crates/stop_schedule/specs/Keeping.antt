use Rattle.std.specs.Prelude.{◌≡◌, ℕ, zero, suc, ◌<◌, ◌≤◌, ◌==◌, ◌&&◌, ◌||◌, nat_le, Bool, true, false, cond, List, length, count_by, Option, Some, None, slice_get}
use Rattle.ride_base.specs.declared.numbers.RequestNo.{RequestNo}
use Rattle.road_graph.specs.Graphs.{IsGraph}
use Rattle.road_graph.specs.Paths.{Path}
use Rattle.road_graph.specs.Roads.{Roads}
use Rattle.road_graph.specs.Walks.{Joins, IsLeastWalk}
use Rattle.stop_schedule.specs.declared.request.Request.{Request}
use Rattle.stop_schedule.specs.declared.stop.Front.{Front}
use Rattle.stop_schedule.specs.declared.stop.Insertion.{Insertion}
use Rattle.stop_schedule.specs.declared.stop.SeatKind.TheVariants.{Seat, Space}
use Rattle.stop_schedule.specs.declared.stop.Stop.{Stop}
use Rattle.stop_schedule.specs.declared.stop.StopKind.{StopKind}
use Rattle.stop_schedule.specs.declared.stop.StopKind.TheVariants.{Pickup, Dropoff}
pub use Rattle.stop_schedule.specs.Limits.{most_stops}
use Rattle.stop_schedule.specs.Rates.{Rates}
use Rattle.stop_schedule.specs.Plans.{Plan, Course, course_of}
use Rattle.stop_schedule.specs.Times.{departs, aboard, promised_time}
use Rattle.stop_schedule.specs.Lists.{new_course, node_or, stop_node}

-- the test passes at each number below n
abbrev pub each_below : ℕ → (ℕ → Bool) → Bool
each_below zero test = true
each_below (suc n) test = each_below n test && test n

-- on no leg are more aboard than there are seats, and wheelchair spaces for those who take one
abbrev pub is_seated : (seats spaces : ℕ) → List Stop → Bool
is_seated seats spaces stops = each_below (length stops) (λ i. nat_le (aboard Seat stops i) seats && nat_le (aboard Space stops i) spaces)

-- stop i keeps its limit
abbrev pub is_in_time : ℕ → Course → ℕ → Option Stop → Bool
is_in_time stop c i None = true
is_in_time stop c i (Some s) = nat_le (promised_time stop c i s.kind) s.limit

-- each stop keeps its limit
abbrev pub are_in_time : ℕ → Course → Bool
are_in_time stop c = each_below (length c.stops) (λ k. is_in_time stop c (suc k) (slice_get c.stops k))

-- the last stop, where there is one, is left by then
abbrev pub is_over_by : ℕ → Course → ℕ → Bool
is_over_by stop c until = (length c.stops == 0) || nat_le (departs stop c (length c.stops)) until

-- a schedule keeps along a course, of its own stops or of those of a new list: few enough stops, room for the riders, each promise
-- kept, and the end in service
abbrev pub keeps_along : ℕ → Plan → Course → Bool
keeps_along stop p c = nat_le (length c.stops) most_stops && is_seated p.seats p.spaces c.stops && are_in_time stop c && is_over_by stop c p.until

abbrev pub keeps : Rates → Plan → Bool
keeps rates p = keeps_along rates.stop p (course_of p)

abbrev pub is_pickup : StopKind → Bool
is_pickup Pickup = true
is_pickup Dropoff = false

-- the pickups of a number, and its dropoffs
abbrev pub picks_up : RequestNo → Stop → Bool
picks_up number s = is_pickup s.kind && (s.no.0 == number.0)

abbrev pub drops_off : RequestNo → Stop → Bool
drops_off number s = cond (is_pickup s.kind) false (s.no.0 == number.0)

-- each number has at most one pickup and at most one dropoff, a pickup has a later dropoff of the same number, riders and spaces,
-- and each leg is there and joins its two places
pub record IsProper (p : Plan) : Type 0 where
  pub picked_up_once : (number : RequestNo) → count_by (picks_up number) p.stops ≤ 1
  pub dropped_off_once : (number : RequestNo) → count_by (drops_off number) p.stops ≤ 1
  pub dropped_off_later : (k : ℕ) (s : Stop) → slice_get p.stops k ≡ Some s → s.kind ≡ Pickup
      → (l : ℕ) × (d : Stop) × (k < l) × (slice_get p.stops l ≡ Some d) × (d.kind ≡ Dropoff) × (d.no ≡ s.no) × (d.riders ≡ s.riders) × (d.spaces ≡ s.spaces)
  pub as_many_legs : length p.legs ≡ length p.stops
  pub joined : (k : ℕ) (leg : Path) → slice_get p.legs k ≡ Some leg
      → Joins (stop_node p k) (node_or p.place (slice_get p.stops k)) leg.nodes

-- each leg is a least walk of the graph between its two places
abbrev pub HasLeastWalks : Roads → Plan → Type 0
HasLeastWalks g p = (k : ℕ) (leg : Path) → slice_get p.legs k ≡ Some leg
    → IsLeastWalk g (stop_node p k) (node_or p.place (slice_get p.stops k)) leg

-- there is a graph of which each leg is a least walk
abbrev pub IsOverAGraph : Plan → Type 0
IsOverAGraph p = (g : Roads) × IsGraph g × HasLeastWalks g p

-- The insertion is feasible where the new list keeps: there is room for two more stops, on each leg the riders aboard have seats
-- and spaces, each older stop keeps its limit with all times reckoned anew, and the last stop is left in service. The limits of the
-- new stops are soft.
abbrev pub is_feasible : Rates → Plan → Front → Request → Insertion → List ℕ → Bool
is_feasible rates p front r at lengths =
    nat_le at.i at.j && nat_le at.j (length p.stops) && keeps_along rates.stop p (new_course p front r at lengths)
