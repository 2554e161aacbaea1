use Rattle.std.specs.Prelude.{◌≡◌, ℕ, zero, suc, ◌+◌, ◌-◌, ◌<◌, ◌≤◌, ◌^◌, ◌==◌, ◌↔◌, max, cond, nat_lt, true, List, [], ◌∷◌, ◌++◌, drop, map, length, get_or, Option, Some, None, unwrap_or, IfSome}
use Rattle.std.specs.List.{insert}
use Rattle.road_graph.specs.declared.road.NodeNo.{NodeNo}
use Rattle.road_graph.specs.Paths.{length_of}
use Rattle.road_graph.specs.Roads.{Roads}
use Rattle.stop_schedule.specs.declared.request.Request.{Request}
use Rattle.stop_schedule.specs.declared.stop.Front.{Front}
use Rattle.stop_schedule.specs.declared.stop.Insertion.{Insertion}
use Rattle.stop_schedule.specs.declared.stop.SeatKind.TheVariants.{Seat, Space}
use Rattle.stop_schedule.specs.declared.stop.Stop.{Stop}
use Rattle.stop_schedule.specs.Keeping.{is_feasible}
use Rattle.stop_schedule.specs.declared.stop.Start.{Start}
use Rattle.stop_schedule.specs.Lists.{new_course, old_course, start_of, dropoff_of, unpromised, pair}
use Rattle.stop_schedule.specs.Plans.{Plan, Course, halt_at}
use Rattle.stop_schedule.specs.Rates.{Rates}
use Rattle.stop_schedule.specs.Times.{halt_time, departs, arrives}
use Rattle.stop_schedule.proofs.TimeLaws.{Holds}
use Rattle.insertion_cost.specs.declared.on_the_way.OnTheWay.{OnTheWay}
use Rattle.insertion_cost.specs.declared.behind.Behind.{Behind}
use Rattle.insertion_cost.specs.declared.node_ways.NodeWays.{NodeWays}
use Rattle.insertion_cost.specs.declared.spans.Spans.{Spans}
use Rattle.insertion_cost.specs.Behind.{busy_along, busy_behind, AreBehind}
use Rattle.insertion_cost.specs.Changes.{boarding, alighting, party, course_from}
use Rattle.insertion_cost.specs.NodeWays.{AreWaysAlong}
use Rattle.insertion_cost.specs.Offers.{HasPrice}
use Rattle.insertion_cost.specs.Prices.{Price, detour}

-- past a stop at a node, which is reached over a leg of this length and isn't left before it is ready
abbrev pub past_stop : ℕ → OnTheWay → ℕ → NodeNo → ℕ → OnTheWay
past_stop stop w length node ready = record {
  halt = Some node;
  departure = max (w.departure + length + halt_time stop w.halt node) ready;
  busy_time = w.busy_time + (length + halt_time stop w.halt node);
}

-- the length out of a new stop in place of the first of these
abbrev pub out_of : ℕ → List ℕ → List ℕ
out_of v [] = []
out_of v (z ∷ lengths) = v ∷ lengths

-- the lengths into and out of a new stop in place of length n
abbrev pub by_way : ℕ → ℕ → ℕ → List ℕ → List ℕ
by_way zero u v lengths = u ∷ out_of v lengths
by_way (suc n) u v [] = u ∷ []
by_way (suc n) u v (z ∷ lengths) = z ∷ by_way n u v lengths

-- the lengths of the changed legs of a pair of places in a list of m stops: into the pickup, out of it to an older stop, into the dropoff
-- and out of it
abbrev pub changed : (i j m x y u v : ℕ) → List ℕ
changed i j m x y u v = x ∷ cond (i == j) (u ∷ []) (y ∷ u ∷ []) ++ cond (nat_lt j m) (v ∷ []) []

-- with a request's riders aboard before these stops all have seats and spaces
abbrev pub HasRoom : Plan → Request → List Stop → Type 0
HasRoom p r stops = (alighting Seat stops + party Seat r ≤ p.seats + boarding Seat stops) × (alighting Space stops + party Space r ≤ p.spaces + boarding Space stops)

-- and before each of the next n
abbrev pub HasRoomTo : Plan → Request → ℕ → List Stop → Type 0
HasRoomTo p r zero stops = HasRoom p r stops
HasRoomTo p r (suc n) stops = HasRoom p r stops × HasRoomTo p r n (drop 1 stops)

-- the course on from there
abbrev pub onward : OnTheWay → List Stop → List ℕ → Course
onward w stops lengths = record { halt = w.halt; departure = w.departure; stops = stops; lengths = lengths }

-- A vehicle took the riders up behind stop i, which it left then, and is now at stop j. Each pair of places with the dropoff there or behind
-- is what its way on comes to, where its list was so long busy from stop i on before.
pub record Leads (rates : Rates) (p : Plan) (front : Front) (r : Request) (i x y leave before j : ℕ) (w : OnTheWay) : Type 0 where
  pub lengths : List ℕ
  pub first_of_them : j ≡ i → lengths ≡ out_of y (drop i (map length_of p.legs))
  pub later_ones : i < j → lengths ≡ drop j (map length_of p.legs)
  pub order : i ≤ j
  pub feasible : (n k u v : ℕ) → k ≡ j + n → k ≤ length p.stops → let at : Insertion = record { i = i; j = k } in
      is_feasible rates p front r at (changed i k (length p.stops) x y u v) ≡ true
      ↔ (HasRoomTo p r n (drop j p.stops) × Holds rates.stop p.until w.halt w.departure (insert (drop j p.stops) n (dropoff_of r (unpromised p.until))) (by_way n u v lengths))
  pub detour_is : (n k u v : ℕ) → k ≡ j + n → k ≤ length p.stops → let at : Insertion = record { i = i; j = k } in
      detour rates p front at (new_course p front r at (changed i k (length p.stops) x y u v))
      ≡ w.busy_time + busy_along rates.stop w.halt (insert (drop j p.stops) n (dropoff_of r (unpromised p.until))) (by_way n u v lengths) - before
  pub leaves : (n k u v : ℕ) → k ≡ j + n → k ≤ length p.stops → let at : Insertion = record { i = i; j = k } in
      departs rates.stop (new_course p front r at (changed i k (length p.stops) x y u v)) (i + 1) ≡ leave
  pub reaches : (n k u v : ℕ) → k ≡ j + n → k ≤ length p.stops → let at : Insertion = record { i = i; j = k } in
      arrives rates.stop (new_course p front r at (changed i k (length p.stops) x y u v)) (k + 2)
      ≡ arrives rates.stop (onward w (insert (drop j p.stops) n (dropoff_of r (unpromised p.until))) (by_way n u v lengths)) (suc n)

-- what was read off the distances of a node, where there is one
abbrev pub no_ways : NodeWays
no_ways = record { to_pickup = None; from_pickup = None; to_dropoff = None; from_dropoff = None }

-- the way from stop i to the pickup, and that from the pickup to the stop after stop i
abbrev pub into_of : List NodeWays → ℕ → ℕ
into_of ways i = unwrap_or (get_or ways i no_ways).to_pickup 0

abbrev pub onto_of : List NodeWays → ℕ → ℕ
onto_of ways i = unwrap_or (get_or ways (i + 1) no_ways).from_pickup 0

-- where a vehicle that takes the riders up behind stop i turns to them
abbrev pub starting : Rates → Plan → Front → ℕ → OnTheWay
starting rates p front i = record {
  halt = halt_at (old_course p front (pair i i)) i;
  departure = departs rates.stop (old_course p front (pair i i)) i;
  busy_time = start_of (pair i i) front.offset 0;
}

-- there is room beside those who are aboard before what lies behind a stop
abbrev pub HasRoomBy : Plan → Request → Behind → Type 0
HasRoomBy p r b = (b.on_seats.off + r.riders ≤ p.seats + b.on_seats.on) × (b.in_spaces.off + r.spaces ≤ p.spaces + b.in_spaces.on)

-- a vehicle's way that leads on, by the distances of its stops
abbrev pub IsLed : Rates → Plan → Front → Request → List NodeWays → (i leave j : ℕ) → OnTheWay → Type 0
IsLed rates p front r ways i leave j w = Leads rates p front r i (into_of ways i) (onto_of ways i) leave (busy_behind rates.stop (old_course p front (pair i i)) i) j w

-- what all pairs of a vehicle are priced by, from a front: the distances over a graph, and what lies behind its stops
pub record IsPricedBy (g : Roads) (rates : Rates) (p : Plan) (front : Front) (r : Request) (direct : ℕ) (ways : List NodeWays) (rows : List Behind) : Type 0 where
  pub along : AreWaysAlong g r front p.stops direct ways
  pub behind : AreBehind rates.stop p.until (old_course p front (pair 0 0)) rows

-- no pair of a pickup after stop i and a dropoff after stop j or behind has a price
abbrev pub HasNoneFrom : Roads → Rates → Front → Plan → Request → (i j : ℕ) → Type 0
HasNoneFrom g rates front p r i j = (at : Insertion) (price : Price) → at.i ≡ i → j ≤ at.j → HasPrice g rates front p r at price → ⊥

-- the way on to the next stop, or that there is no pair with the dropoff there or behind
abbrev pub LeadsOn : Rates → Plan → Front → Request → (direct : ℕ) → List NodeWays → (i leave j : ℕ) → Option OnTheWay → Type 0
LeadsOn rates p front r direct ways i leave j None = (g : Roads) → AreWaysAlong g r front p.stops direct ways → HasNoneFrom g rates front p r i j
LeadsOn rates p front r direct ways i leave j (Some w) = IsLed rates p front r ways i leave j w

-- the way behind the dropoff keeps all and takes so long, or it doesn't keep all
abbrev pub EndsSo : Rates → Plan → (j v : ℕ) → OnTheWay → Option ℕ → Type 0
EndsSo rates p j v w None = Holds rates.stop p.until w.halt w.departure (drop j p.stops) (out_of v (drop j (map length_of p.legs))) → ⊥
EndsSo rates p j v w (Some total) =
    Holds rates.stop p.until w.halt w.departure (drop j p.stops) (out_of v (drop j (map length_of p.legs)))
    × (total ≡ w.busy_time + busy_along rates.stop w.halt (drop j p.stops) (out_of v (drop j (map length_of p.legs))))

-- no time on it is too late to reckon with
pub record IsSoon (w : OnTheWay) : Type 0 where
  pub departure : w.departure ≤ 2 ^ 41
  pub busy_time : w.busy_time ≤ w.departure + 2 ^ 53

-- what distances there are are short
pub record AreShort (w : NodeWays) : Type 0 where
  pub to_pickup : IfSome w.to_pickup (λ x. x < 2 ^ 53)
  pub from_pickup : IfSome w.from_pickup (λ x. x < 2 ^ 53)
  pub to_dropoff : IfSome w.to_dropoff (λ x. x < 2 ^ 53)
  pub from_dropoff : IfSome w.from_dropoff (λ x. x < 2 ^ 53)

-- as many as the stops and the front, all short
pub record AreShortWays (p : Plan) (ways : List NodeWays) : Type 0 where
  pub many : length ways ≡ length p.stops + 1
  pub each : (k : ℕ) → k < length ways → AreShort (get_or ways k no_ways)

-- what lies behind the stops of a vehicle that starts from some place
abbrev pub AreSomeBehind : Rates → Plan → List Behind → Type 0
AreSomeBehind rates p rows = (start : Start) × AreBehind rates.stop p.until (course_from start p) rows

-- the lengths of a pair are read off the distances
pub record AreReadOff (ways : List NodeWays) (direct : ℕ) (at : Insertion) (s : Spans) : Type 0 where
  pub into : (get_or ways at.i no_ways).to_pickup ≡ Some s.before_pickup
  pub onto : at.i < at.j → (get_or ways (at.i + 1) no_ways).from_pickup ≡ Some s.after_pickup
  pub directly : at.i ≡ at.j → s.after_pickup ≡ direct
  pub back : at.i < at.j → (get_or ways at.j no_ways).to_dropoff ≡ s.before_dropoff
  pub out : at.j + 1 < length ways → (get_or ways (at.j + 1) no_ways).from_dropoff ≡ s.after_dropoff

-- the length of the way from stop j to the next one with the riders aboard, who were taken up behind stop i
abbrev pub IsLengthOn : Plan → List NodeWays → (i j : ℕ) → Option ℕ → Type 0
IsLengthOn p ways i j None = (i ≡ j) × ((get_or ways (j + 1) no_ways).from_pickup ≡ None)
IsLengthOn p ways i j (Some z) = (i ≡ j → (get_or ways (j + 1) no_ways).from_pickup ≡ Some z) × (i < j → get_or (map length_of p.legs) j 0 ≡ z)
