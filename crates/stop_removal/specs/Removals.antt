use Rattle.std.specs.Prelude.{◌≡◌, ℕ, ◌+◌, ◌-◌, ◌<◌, ◌≤◌, ◌==◌, true, cond, List, [], ◌∷◌, ◌++◌, take, drop, Option, Some, None, slice_get}
use Rattle.ride_base.specs.declared.numbers.RequestNo.{RequestNo}
use Rattle.road_graph.specs.declared.road.NodeNo.{NodeNo}
use Rattle.road_graph.specs.Paths.{Path}
use Rattle.stop_schedule.specs.declared.stop.Front.{Front}
use Rattle.stop_schedule.specs.declared.stop.Insertion.{Insertion}
use Rattle.stop_schedule.specs.declared.stop.Stop.{Stop}
use Rattle.stop_schedule.specs.Keeping.{picks_up, drops_off}
use Rattle.stop_schedule.specs.Lists.{node_at, started}
use Rattle.stop_schedule.specs.Plans.{Plan}

-- A rider is taken out of a list by the positions of his pickup and, behind it, of his dropoff. Positions are counted from 1, as stops
-- are, so that stop a stands between leg a - 1 and leg a.

-- the number's pickup stands at position a, and its dropoff behind it at position b
pub record AreStopsOf (number : RequestNo) (stops : List Stop) (a b : ℕ) : Type 0 where
  pub pickup : Stop
  pub dropoff : Stop
  pub from_first : 1 ≤ a
  pub order : a < b
  pub pickup_stands : slice_get stops (a - 1) ≡ Some pickup
  pub dropoff_stands : slice_get stops (b - 1) ≡ Some dropoff
  pub picked_up : picks_up number pickup ≡ true
  pub dropped_off : drops_off number dropoff ≡ true

-- the stops without those at both positions
abbrev pub without_both : List Stop → (a b : ℕ) → List Stop
without_both stops a b = take (a - 1) stops ++ take (b - a - 1) (drop a stops) ++ drop b stops

-- The legs around both stops give way to the joined ones. Where the dropoff follows the pickup, that is one leg in the place of leg
-- a - 1, leg a and leg b, and else one in the place of legs a - 1 and a, and one in the place of legs b - 1 and b.
abbrev pub with_joined : {X : Type 0} → List X → (a b : ℕ) → List X → List X
with_joined legs a b joined = cond (b == a + 1)
    (take (a - 1) legs ++ joined ++ drop (b + 1) legs)
    (take (a - 1) legs ++ take 1 joined ++ take (b - a - 2) (drop (a + 1) legs) ++ drop 1 joined ++ drop (b + 1) legs)

-- where both stops would be put in again
abbrev pub back_at : (a b : ℕ) → Insertion
back_at a b = record { i = a - 1; j = b - 2 }

-- The schedule without both stops, and the given walks as the joined legs. Where the pickup was the first stop, the vehicle starts
-- from its front. All other legs and all limits stay.
abbrev pub removed_in : Plan → Front → (a b : ℕ) → List Path → Plan
removed_in p front a b walks = record (started (back_at a b) front p) {
  stops = without_both p.stops a b;
  legs = with_joined p.legs a b walks;
}

-- from a node to a stop, where there is one
abbrev pub leg_to : NodeNo → Option Stop → List (NodeNo × NodeNo)
leg_to from None = []
leg_to from (Some s) = (from, s.node) ∷ []

-- from one stop, or from the front for 0, over stop b to the one behind it, where there is one
abbrev pub joint_over : Front → List Stop → (from b : ℕ) → List (NodeNo × NodeNo)
joint_over front stops from b = leg_to (node_at front stops from) (slice_get stops b)

-- From where to where the joined legs lead, in their order: over both stops where the dropoff follows the pickup, and else over each.
abbrev pub joint_ends : List Stop → Front → (a b : ℕ) → List (NodeNo × NodeNo)
joint_ends stops front a b = cond (b == a + 1) (joint_over front stops (a - 1) b) (joint_over front stops (a - 1) a ++ joint_over front stops (b - 1) b)

-- both joined legs' ends in their places, where they are there
abbrev pub joints_of : List Stop → Front → (a b : ℕ) → List (Option (NodeNo × NodeNo))
joints_of stops front a b = let ends = joint_ends stops front a b in slice_get ends 0 ∷ slice_get ends 1 ∷ []
