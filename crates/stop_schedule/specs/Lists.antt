use Rattle.std.specs.Prelude.{◌≡◌, ℕ, ◌+◌, ◌-◌, ◌≤◌, ◌==◌, cond, nat_lt, List, [], ◌∷◌, ◌++◌, take, drop, map, Option, Some, None, slice_get, length}
use Rattle.road_graph.specs.declared.road.NodeNo.{NodeNo}
use Rattle.road_graph.specs.Paths.{Path, length_of}
use Rattle.stop_schedule.specs.declared.request.Request.{Request}
use Rattle.stop_schedule.specs.declared.stop.Front.{Front}
use Rattle.stop_schedule.specs.declared.stop.Insertion.{Insertion}
use Rattle.stop_schedule.specs.declared.stop.Promise.{Promise}
use Rattle.stop_schedule.specs.declared.stop.Stop.{Stop}
use Rattle.stop_schedule.specs.declared.stop.StopKind.TheVariants.{Pickup, Dropoff}
use Rattle.stop_schedule.specs.Plans.{Plan, Course, course_of, from_front}

abbrev pub pickup_of : Request → Promise → Stop
pickup_of r promise = record { node = r.pickup; kind = Pickup; no = r.no; riders = r.riders; ready = r.moment; limit = promise.pickup; spaces = r.spaces }

abbrev pub dropoff_of : Request → Promise → Stop
dropoff_of r promise = record { node = r.dropoff; kind = Dropoff; no = r.no; riders = r.riders; ready = 0; limit = promise.arrival; spaces = r.spaces }

-- the pair of places after stop i and after stop j
abbrev pub pair : (i j : ℕ) → Insertion
pair i j = record { i = i; j = j }

-- the pair of places is one of a list of so many stops: the pickup comes after stop i, the dropoff no sooner than after it
abbrev pub IsInsertionInto : Insertion → (stops : ℕ) → Type 0
IsInsertionInto at stops = (at.i ≤ at.j) × (at.j ≤ stops)

-- the stops with a pickup after stop i and a dropoff after stop j, the pickup first where these are one
abbrev pub with_both : List Stop → Insertion → Stop → Stop → List Stop
with_both stops at p d = take at.i stops ++ p ∷ take (at.j - at.i) (drop at.i stops) ++ d ∷ drop at.j stops

-- some of the first items were put behind others
abbrev pub HasPutSome : {X : Type 0} → (before items after : List X) → Type 0
HasPutSome before items after = (k : ℕ) × (after ≡ before ++ take k items)

-- The legs with the changed ones in their places. Leg i gives way to the legs into and out of the pickup, and leg j, where there
-- is one, to the legs into and out of the dropoff; where i is j the leg out of the pickup leads to the dropoff.
abbrev pub with_legs : {X : Type 0} → List X → Insertion → List X → List X
with_legs legs at changed = cond (at.i == at.j)
    (take at.i legs ++ changed ++ drop (at.i + 1) legs)
    (take at.i legs ++ take 2 changed ++ take (at.j - at.i - 1) (drop (at.i + 1) legs) ++ drop 2 changed ++ drop (at.j + 1) legs)

-- where a vehicle turns to a new stop after its place: from its front
abbrev pub start_of : {X : Type 0} → Insertion → X → X → X
start_of at front place = cond (at.i == 0) front place

-- the old schedule from where the new list starts: where the pickup comes first, from the front, and else from the place
abbrev pub started : Insertion → Front → Plan → Plan
started at front p = record p {
  place = start_of at (from_front front p).place p.place;
  departure = start_of at (from_front front p).departure p.departure;
  halt = start_of at (from_front front p).halt p.halt;
}

-- the new schedule: both stops with the promise's limits, and the given walks as the changed legs
abbrev pub inserted_in : Plan → Front → Request → Insertion → Promise → List Path → Plan
inserted_in p front r at promise walks = record (started at front p) {
  stops = with_both p.stops at (pickup_of r promise) (dropoff_of r promise);
  legs = with_legs p.legs at walks;
}

-- the course of the old stops from where the new list starts
abbrev pub old_course : Plan → Front → Insertion → Course
old_course p front at = course_of (started at front p)

-- what the riders of a request are held to before they are promised anything: the end of service
abbrev pub unpromised : ℕ → Promise
unpromised until = record { pickup = until; arrival = until }

-- The course of the new schedule where the changed legs have these lengths. Its times don't hang on the limits, and the new stops
-- have none but the end of service.
abbrev pub new_course : Plan → Front → Request → Insertion → List ℕ → Course
new_course p front r at lengths = record (old_course p front at) {
  stops = with_both p.stops at (pickup_of r (unpromised p.until)) (dropoff_of r (unpromised p.until));
  lengths = with_legs (map length_of p.legs) at lengths;
}

abbrev pub node_or : NodeNo → Option Stop → NodeNo
node_or place None = place
node_or place (Some s) = s.node

-- the node of stop k of a list, counted from 1, and for 0 the one from which it is driven
abbrev pub node_in : NodeNo → List Stop → ℕ → NodeNo
node_in start stops k = cond (k == 0) start (node_or start (slice_get stops (k - 1)))

-- the node of stop k, counted from 1, and of the front for 0
abbrev pub node_at : Front → List Stop → ℕ → NodeNo
node_at front stops k = node_in front.node stops k

-- the node of stop k of a schedule, counted from 1, and of its place for 0
abbrev pub stop_node : Plan → ℕ → NodeNo
stop_node p k = node_in p.place p.stops k

-- From where to where the changed legs lead, in their order: into the pickup; out of it; into the dropoff, where that isn't the
-- leg out of the pickup; and out of the dropoff, where a stop follows.
abbrev pub changed_ends : List Stop → Front → Request → Insertion → List (NodeNo × NodeNo)
changed_ends stops front r at =
    (node_at front stops at.i, r.pickup) ∷ cond (at.i == at.j)
    ((r.pickup, r.dropoff) ∷ [])
    ((r.pickup, node_at front stops (at.i + 1)) ∷ (node_at front stops at.j, r.dropoff) ∷ [])
    ++ cond (nat_lt at.j (length stops)) ((r.dropoff, node_at front stops (at.j + 1)) ∷ []) []

-- as many walks as there are changed legs
abbrev pub AreAsMany : {X : Type 0} → List Stop → Front → Request → Insertion → (walks : List X) → Type 0
AreAsMany stops front r at walks = length walks ≡ length (changed_ends stops front r at)
