use Rattle.std.specs.Prelude.{◌≡◌, ℕ, true, false, [], ◌∷◌, map, refl}
use Rattle.std.proofs.Common.{lit≤}
use Rattle.road_graph.specs.Roads.{node}
use Rattle.stop_schedule.specs.declared.stop.Stop.{Stop}
use Rattle.stop_schedule.specs.Fronts.{front_of}
use Rattle.stop_schedule.specs.Lists.{inserted_in}
use Rattle.stop_schedule.specs.Plans.{Plan}
use Rattle.stop_schedule.specs.Samples.{first, second, halted, path, ride, at}
use Rattle.stop_removal.specs.Laws.{stood_at}
use Rattle.stop_removal.specs.Removals.{joint_ends, removed_in, with_joined, without_both, AreStopsOf}

-- the line of four nodes, with a pickup at node 2 that is reached at 10 and left at 12, and a dropoff at node 4 that is reached at 32

-- on the way to the pickup at 5 the rider cancels: no leg is left to be joined, and the vehicle is free where it can turn, at node 2
nothing_to_join : joint_ends first.stops (front_of first 5) 1 2 ≡ []
nothing_to_join = refl

none_left : removed_in first (front_of first 5) 1 2 [] ≡ record first { place = node 2; departure = 10; halt = false; stops = []; legs = [] }
none_left = refl

-- before it leaves it stays as it was, with its mark where it halts at its place
not_begun : removed_in halted (front_of halted 0) 1 2 [] ≡ record halted { stops = []; legs = [] }
not_begun = refl

-- and moving on it halts no longer
moved_on : (removed_in halted (front_of halted 5) 1 2 []).halt ≡ false
moved_on = refl

-- two riders: on at node 2 and at node 3, and both off at node 4, the first one first
abbrev pub both_on : Plan
both_on = inserted_in first (front_of first 0) (ride 2 3 4 0 1) (at 1 1) (record { pickup = 24; arrival = 36 }) (path 2 0 (3 ∷ []) (10 ∷ []) ∷ path 3 0 (4 ∷ []) (10 ∷ []) ∷ path 4 0 (4 ∷ []) (0 ∷ []) ∷ [])

in_order : map {B = ℕ × ℕ} (λ (s : Stop). (s.no.0, s.node.0)) both_on.stops ≡ (1, 2) ∷ (2, 3) ∷ (2, 4) ∷ (1, 4) ∷ []
in_order = refl

-- the first one cancels: from the front to node 3, and behind the last stop nothing is joined
over_the_first : joint_ends both_on.stops (front_of both_on 0) 1 4 ≡ (node 1, node 3) ∷ []
over_the_first = refl

second_left : removed_in both_on (front_of both_on 0) 1 4 (path 1 0 (2 ∷ 3 ∷ []) (10 ∷ 20 ∷ []) ∷ [])
    ≡ record both_on { stops = without_both both_on.stops 1 4; legs = path 1 0 (2 ∷ 3 ∷ []) (10 ∷ 20 ∷ []) ∷ path 3 0 (4 ∷ []) (10 ∷ []) ∷ [] }
second_left = refl

second_stays : map {B = ℕ × ℕ} (λ (s : Stop). (s.no.0, s.limit)) (without_both both_on.stops 1 4) ≡ (2, 24) ∷ (2, 36) ∷ []
second_stays = refl

-- at 5 the vehicle can turn at node 2, and starts from there
from_the_front : (removed_in both_on (front_of both_on 5) 1 4 (path 2 0 (3 ∷ []) (10 ∷ []) ∷ [])).departure ≡ 10
from_the_front = refl

-- the second one cancels, whose stops follow one another: one leg over both, and the vehicle starts as it did
over_both : joint_ends both_on.stops (front_of both_on 5) 2 3 ≡ (node 2, node 4) ∷ []
over_both = refl

first_left : removed_in both_on (front_of both_on 5) 2 3 (path 2 0 (3 ∷ 4 ∷ []) (10 ∷ 20 ∷ []) ∷ []) ≡ first
first_left = refl

-- two legs apart are joined each by itself, and the legs between them stay
over_each : joint_ends second.stops (front_of second 0) 1 3 ≡ (node 1, node 3) ∷ (node 3, node 4) ∷ []
over_each = refl

joined_apart : with_joined {X = ℕ} (0 ∷ 1 ∷ 2 ∷ 3 ∷ 4 ∷ 5 ∷ 6 ∷ []) 2 5 (10 ∷ 20 ∷ []) ≡ 0 ∷ 10 ∷ 3 ∷ 20 ∷ 6 ∷ []
joined_apart = refl

joined_together : with_joined {X = ℕ} (0 ∷ 1 ∷ 2 ∷ 3 ∷ 4 ∷ 5 ∷ 6 ∷ []) 2 3 (10 ∷ []) ≡ 0 ∷ 10 ∷ 4 ∷ 5 ∷ 6 ∷ []
joined_together = refl

joined_to_the_end : with_joined {X = ℕ} (0 ∷ 1 ∷ 2 ∷ 3 ∷ []) 2 4 (10 ∷ []) ≡ 0 ∷ 10 ∷ []
joined_to_the_end = refl

-- where the stops that stay stood
stood : map (stood_at 2 4) (1 ∷ 2 ∷ 3 ∷ []) ≡ 1 ∷ 3 ∷ 5 ∷ []
stood = refl

stops_of_two : AreStopsOf (record { 0 = 2 }) second.stops 2 4
stops_of_two = record { pickup = _; dropoff = _; from_first = lit≤ tt; order = lit≤ tt; pickup_stands = refl; dropoff_stands = refl; picked_up = refl; dropped_off = refl }
