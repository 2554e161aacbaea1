use Rattle.std.specs.Prelude.{◌≡◌, ◌≤◌, drop, length, ℕ, ◌==◌, Bool, true, false, List, [], ◌∷◌, ◌++◌, map, Option, Some, None, is_some, slice_get, refl}
use Rattle.std.specs.Option.{unwrap_or}
use Rattle.std.specs.declared.cmp.Ordering.TheVariants.{Less}
use Prim.Native.Nat.{zero-le}
use mathlib.Core.Path.{ap, sym, subst, ◌∙◌}
use mathlib.Core.Logic.{inl, inr}
use mathlib.Core.Bool.{true≢false, false≢true}
use lib.Dec.{lit<, lit≤, le→leb, lt→ltb}
use Rattle.ride_base.specs.declared.numbers.RequestNo.{RequestNo}
use Rattle.ride_base.specs.declared.numbers.VehicleNo.{VehicleNo}
use Rattle.road_graph.specs.Roads.{Roads, node}
use Rattle.road_graph.specs.Walks.{IsDist}
use Rattle.stop_schedule.specs.declared.request.Request.{Request}
use Rattle.stop_schedule.specs.declared.stop.Promise.{Promise}
use Rattle.stop_schedule.specs.declared.stop.Stop.{Stop}
use Rattle.stop_schedule.specs.declared.stop.StopKind.TheVariants.{Pickup, Dropoff}
use Rattle.stop_schedule.specs.Bounds.{AreVehicles}
use Rattle.stop_schedule.specs.Fleets.{Car, Cars}
use Rattle.stop_schedule.specs.Keeping.{is_pickup, HasLeastWalks}
use Rattle.stop_schedule.specs.Plans.{Plan, course_of}
use Rattle.stop_schedule.specs.Rates.{usual}
use Rattle.stop_schedule.specs.Times.{arrives, departs}
use Rattle.stop_schedule.specs.Fronts.{front_of}
use Rattle.stop_removal.specs.Removals.{joint_ends, without_both}
use Rattle.stop_removal.specs.Samples.{both_on}
use Rattle.stop_schedule.specs.Samples.{car_1, opened, first, ride, at, path}
use Rattle.stop_advance.specs.declared.served.Served.{Served}
use Rattle.stop_advance.specs.Advance.{served_by}
use Rattle.insertion_cost.specs.declared.decision.Assigned.{Assigned}
use Rattle.insertion_cost.specs.declared.decision.Decision.{Decision}
use Rattle.insertion_cost.specs.declared.decision.Decision.TheVariants.{Assigned as IsAssigned, Nobody}
use Rattle.insertion_cost.specs.declared.offer.Offer.{Offer}
use Rattle.stop_schedule.specs.Distances.{AreLeastWalks}
use Rattle.insertion_cost.specs.Offers.{IsOffer, IsBest, NoOffer, offer_cmp}
use Rattle.board_core.specs.declared.entry.Reason.{Reason}
use Rattle.board_core.specs.declared.entry.Reason.TheVariants.{Closed, Place, Riders, Moment, Repeated}
use Rattle.board_core.specs.declared.entry.Submitted.TheVariants.{Accepted, Refused}
use Rattle.board_core.specs.declared.entry.Advanced.TheVariants.{Moved, Back as Behind}
use Rattle.board_core.specs.declared.entry.CancelReason.{CancelReason}
use Rattle.board_core.specs.declared.entry.CancelReason.TheVariants as why
use Rattle.board_core.specs.declared.entry.Cancelled.TheVariants.{Removed, Refused as Declined}
use Rattle.board_core.specs.declared.entry.Entry.{Entry}
use Rattle.board_core.specs.declared.entry.Entry.TheVariants.{Submit, Claim, Back, Commit, Advance, Cancel, Shut}
use Rattle.board_core.specs.Boards.{Board, Waiting, opening_board, waiting_of, answer_of}
use Rattle.board_core.specs.Steps.{Step, refusal, cancel_refusal, served_in, at_clock, taken_on}
use Rattle.board_core.specs.Histories.{Legal, Ride, Move, events_in, AreAnsweredAtOnce}
use Rattle.board_core.specs.Promises.{served_through, have_cancelled, IsPlannedStop, IsServedStop, HasRider, WasAssigned, ArePromisesKept, KeepsPromises}

abbrev pub at_first : Board
at_first = opening_board 4 usual (car_1 ∷ [])

abbrev pub with_one : Board
with_one = record at_first { waiting = record { request = ride 1 2 4 0 1; holder = None } ∷ [] }

-- accepted, also with sixteen riders and at the last moment; no node 9, and no node 0; no rider, and one too many; too far off
at_the_bounds : map (refusal at_first) (ride 1 2 4 0 1 ∷ ride 2 2 3 0 16 ∷ ride 2 2 3 1099511627776 1 ∷ ride 9 2 9 0 1 ∷ ride 9 0 3 0 1 ∷ ride 2 2 3 0 0 ∷ ride 2 2 3 0 17 ∷ ride 3 2 3 1099511627777 1 ∷ [])
    ≡ None ∷ None ∷ None ∷ Some Place ∷ Some Place ∷ Some Riders ∷ Some Riders ∷ Some Moment ∷ []
at_the_bounds = refl

-- riders on seats and riders in wheelchair spaces, up to sixteen of each and at least one in all
abbrev pub party : ℕ → ℕ → Request
party riders spaces = record (ride 2 2 3 0 riders) { spaces = spaces }

parties : map (refusal at_first) (party 0 1 ∷ party 16 16 ∷ party 0 0 ∷ party 1 17 ∷ party 17 1 ∷ []) ≡ None ∷ None ∷ Some Riders ∷ Some Riders ∷ Some Riders ∷ []
parties = refl

-- at 5, where number 1 waits: of more reasons the first in their order is told
first_reason : map (refusal (at_clock with_one 5)) (ride 1 9 3 0 0 ∷ ride 1 2 3 4 0 ∷ ride 1 2 3 4 1 ∷ ride 1 2 3 5 1 ∷ ride 3 2 3 4 1 ∷ ride 3 2 3 5 1 ∷ []) ≡ Some Place ∷ Some Riders ∷ Some Moment ∷ Some Repeated ∷ Some Moment ∷ None ∷ []
first_reason = refl

-- a number that has its answer, and another one
answered_before : map (refusal (record at_first { answers = (record { 0 = 1 }, Nobody) ∷ [] })) (ride 1 2 4 0 1 ∷ ride 2 2 4 0 1 ∷ []) ≡ Some Repeated ∷ None ∷ []
answered_before = refl

closed_first : refusal (record with_one { closed = true }) (ride 1 9 9 0 99) ≡ Some Closed
closed_first = refl

-- three vehicles under way, idle, and not yet begun: the first serves both its stops and gets the new version as its stamp
abbrev pub car : ℕ → ℕ → Car
car number stamp = record { no = record { 0 = number }; plan = first; stamp = stamp }

abbrev under_way : Board
under_way = record at_first { fleet = record at_first.fleet { clock = 3; version = 7; cars = car 1 2 ∷ record (car 2 0) { plan = opened } ∷ record (car 3 6) { plan = record first { departure = 100 } } ∷ [] } }

stamps : map (λ (c : Car). c.stamp) (at_clock under_way 40).fleet.cars ≡ 8 ∷ 0 ∷ 6 ∷ []
stamps = refl

-- a vehicle's stops over two moves of the clock are those of one
two_moves : served_through (record { 0 = 1 }) (Advance 12 (Moved (served_in under_way.fleet 12)) ∷ Shut ∷ Advance 40 (Moved (served_in (at_clock under_way 12).fleet 40)) ∷ []) ≡ served_by usual first 40
two_moves = refl

-- two vehicles on the same way: their stops go by vehicle, and those of one are its own
abbrev two_alike : Cars
two_alike = record under_way.fleet { cars = car 1 0 ∷ car 2 0 ∷ [] }

by_vehicle : map {B = ℕ × ℕ} (λ (s : VehicleNo × Served). (s.0.0, s.1.arr)) (served_in two_alike 40) ≡ (1, 10) ∷ (1, 32) ∷ (2, 10) ∷ (2, 32) ∷ []
by_vehicle = refl

second_alone : served_through (record { 0 = 2 }) (Advance 40 (Moved (served_in two_alike 40)) ∷ []) ≡ served_by usual first 40
second_alone = refl

-- ---- A day on the line of four nodes, with vehicle 1 at node 1 and vehicle 2 at node 4. The first request goes from 3 to 1 and its
-- moment is 40; the second one is for three riders, where each vehicle has two seats.

abbrev pub one : Request
one = ride 1 3 1 40 1

abbrev pub two : Request
two = ride 2 2 4 0 3

abbrev dawn : Board
dawn = opening_board 4 usual (car_1 ∷ record car_1 { no = record { 0 = 2 }; start = node 4 } ∷ [])

abbrev pub idle : Car
idle = record { no = record { 0 = 1 }; plan = opened; stamp = 0 }

abbrev pub other : Car
other = record { no = record { 0 = 2 }; plan = record opened { place = node 4 }; stamp = 0 }

-- Answered at 50 the first request is picked up at 60 and left at 62, past its moment and the wait limit of 20, and over at 82, before
-- its moment and the trip limit of 2 times 20 and 10: 34 for the way and the stops, and 2 for the wait.
abbrev pub taken : Assigned
taken = record { offer = record { cost = 36; no = other.no; place = 1; at = at 0 0; leave = 62; arrive = 82 }; walks = path 4 0 (3 ∷ []) (10 ∷ []) ∷ path 3 0 (2 ∷ 1 ∷ []) (10 ∷ 20 ∷ []) ∷ [] }

abbrev on : Stop
on = record { node = node 3; kind = Pickup; no = one.no; riders = 1; ready = 40; limit = 62; spaces = 0 }

abbrev off : Stop
off = record { node = node 1; kind = Dropoff; no = one.no; riders = 1; ready = 0; limit = 90; spaces = 0 }

abbrev riding : Car
riding = record other { plan = record other.plan { departure = 50; stops = on ∷ off ∷ []; legs = taken.walks }; stamp = 12 }

abbrev dropping : Car
dropping = record other { plan = record other.plan { place = node 3; departure = 62; halt = true; stops = off ∷ []; legs = drop 1 taken.walks }; stamp = 13 }

-- the answers of the day, in the order of their numbers
abbrev answers : List (RequestNo × Decision)
answers = (one.no, IsAssigned taken) ∷ (two.no, Nobody) ∷ []

abbrev pub waits : Request → Option ℕ → Waiting
waits r holder = record { request = r; holder = holder }

-- the day's boards: what changes from one to the next
abbrev pub now : (version clock : ℕ) → Bool → List Car → List Waiting → List (RequestNo × Decision) → Board
now version clock closed cars waiting answers = record { nodes = 4; fleet = record { rates = usual; clock = clock; version = version; cars = cars }; closed = closed; waiting = waiting; answers = answers; cancelled = [] }

-- entries, each with the board that it leaves
abbrev AreSteps : Roads → Board → List (Entry × Board) → Type 0
AreSteps g old [] = Unit {0}
AreSteps g old (s ∷ steps) = Step g old s.0 s.1 × AreSteps g s.1 steps

abbrev entries_of : List (Entry × Board) → List Entry
entries_of steps = map (λ (s : Entry × Board). s.0) steps

abbrev last_of : Board → List (Entry × Board) → Board
last_of old [] = old
last_of old (s ∷ steps) = last_of s.1 steps

legal : (g : Roads) (old : Board) (steps : List (Entry × Board)) → AreSteps g old steps → Legal g old (entries_of steps) (last_of old steps)
legal g old [] s = refl
legal g old (step ∷ steps) s = (step.1, s.0, legal g step.1 steps s.1)

abbrev morning : List (Entry × Board)
morning =
    (Submit one Accepted, now 1 0 false (idle ∷ other ∷ []) (waits one None ∷ []) [])
    ∷ (Submit two Accepted, now 2 0 false (idle ∷ other ∷ []) (waits one None ∷ waits two None ∷ []) [])
    ∷ (Claim one.no 7, now 3 0 false (idle ∷ other ∷ []) (waits one (Some 7) ∷ waits two None ∷ []) [])
    ∷ (Back one.no, now 4 0 false (idle ∷ other ∷ []) (waits one None ∷ waits two None ∷ []) [])
    ∷ (Claim one.no 8, now 5 0 false (idle ∷ other ∷ []) (waits one (Some 8) ∷ waits two None ∷ []) [])
    ∷ (Claim two.no 7, now 6 0 false (idle ∷ other ∷ []) (waits one (Some 8) ∷ waits two (Some 7) ∷ []) [])
    ∷ (Advance 50 (Moved []), now 7 50 false (idle ∷ other ∷ []) (waits one (Some 8) ∷ waits two (Some 7) ∷ []) [])
    ∷ (Advance 49 (Behind 50), now 8 50 false (idle ∷ other ∷ []) (waits one (Some 8) ∷ waits two (Some 7) ∷ []) [])
    ∷ (Advance 50 (Moved []), now 9 50 false (idle ∷ other ∷ []) (waits one (Some 8) ∷ waits two (Some 7) ∷ []) [])
    ∷ (Shut, now 10 50 true (idle ∷ other ∷ []) (waits one (Some 8) ∷ waits two (Some 7) ∷ []) [])
    ∷ (Commit two.no Nobody, now 11 50 true (idle ∷ other ∷ []) (waits one (Some 8) ∷ []) ((two.no, Nobody) ∷ []))
    ∷ []

abbrev pub at_noon : Board
at_noon = last_of dawn morning

abbrev pub got_on : Served
got_on = record { kind = Pickup; no = one.no; node = node 3; arr = 60; dep = 62 }

abbrev evening : List (Entry × Board)
evening =
    (Commit one.no (IsAssigned taken), now 12 50 true (idle ∷ riding ∷ []) [] answers)
    ∷ (Advance 60 (Moved ((other.no, got_on) ∷ [])), now 13 60 true (idle ∷ dropping ∷ []) [] answers)
    ∷ (Submit two (Refused Closed), now 14 60 true (idle ∷ dropping ∷ []) [] answers)
    ∷ []

-- The day is legal over a graph where nothing is feasible for the second request, and where the first one's offer is the best, its
-- walks are least ones, and its direct distance is 20.
morning_is_legal : (g : Roads) → NoOffer g (now 10 50 true (idle ∷ other ∷ []) [] []).fleet two → Legal g dawn (entries_of morning) at_noon
morning_is_legal g none = legal g dawn morning ((refl, refl), ((refl, refl), ((waits one None, refl, refl, refl), ((waits one (Some 7), refl, refl, refl), ((waits one None, refl, refl, refl), ((waits two None, refl, refl, refl), ((zero-le, refl, refl), ((lit< tt, refl, refl), ((lit≤ tt, refl, refl), ((refl, refl), (record { waits = waits two (Some 7); waiting = refl; none = none; leads_to = refl }, tt)))))))))))

evening_is_legal : (g : Roads) → IsBest g at_noon.fleet one taken.offer → IsDist g (node 3) (node 1) 20 → AreLeastWalks g ((node 4, node 3) ∷ (node 3, node 1) ∷ []) taken.walks → Legal g at_noon (entries_of evening) (last_of at_noon evening)
evening_is_legal g best far walks = legal g at_noon evening (record { waits = waits one (Some 8); direct = 20; car = other; waiting = refl; best = best; direct_way = far; stands = refl; walks = walks; leads_to = refl }, ((lit≤ tt, refl, refl), ((refl, refl), tt)))

-- at 5 the vehicle is under way, and turns at node 2, where it is at 10
abbrev pub turning : Assigned
turning = record { offer = record { cost = 61; no = idle.no; place = 0; at = at 0 2; leave = 12; arrive = 64 }; walks = path 2 0 [] [] ∷ path 2 0 [] [] ∷ path 4 0 (3 ∷ 2 ∷ 1 ∷ []) (10 ∷ 20 ∷ 30 ∷ []) ∷ [] }

abbrev turned : Plan
turned = record first {
  place = node 2;
  departure = 10;
  stops = record { node = node 2; kind = Pickup; no = two.no; riders = 1; ready = 5; limit = 25; spaces = 0 } ∷ first.stops ++ record { node = node 1; kind = Dropoff; no = two.no; riders = 1; ready = 0; limit = 64; spaces = 0 } ∷ [];
  legs = path 2 0 [] [] ∷ path 2 0 [] [] ∷ path 2 0 (3 ∷ 4 ∷ []) (10 ∷ 20 ∷ []) ∷ path 4 0 (3 ∷ 2 ∷ 1 ∷ []) (10 ∷ 20 ∷ 30 ∷ []) ∷ [];
}

under_way_taken : (g : Roads) → IsBest g (now 4 5 false (car 1 2 ∷ []) [] []).fleet (ride 2 2 1 5 1) turning.offer → IsDist g (node 2) (node 1) 10 → AreLeastWalks g ((node 2, node 2) ∷ (node 2, node 2) ∷ (node 4, node 1) ∷ []) turning.walks
    → Step g (now 4 5 false (car 1 2 ∷ []) (waits (ride 2 2 1 5 1) None ∷ []) []) (Commit two.no (IsAssigned turning)) (now 5 5 false (record (car 1 5) { plan = turned } ∷ []) [] ((two.no, IsAssigned turning) ∷ []))
under_way_taken g best far walks = record { waits = waits (ride 2 2 1 5 1) None; direct = 10; car = car 1 2; waiting = refl; best = best; direct_way = far; stands = refl; walks = walks; leads_to = refl }

-- A vehicle that halts at node 3 and leaves it at 62 takes in a rider first. Where it hasn't moved on in time, a stop at node 3 takes
-- no time more; once it is under way, it stops at node 2 for the whole stop time.
abbrev into_halted : ℕ → ℕ → Plan
into_halted clock pickup = (taken_on (now 13 clock true (idle ∷ dropping ∷ []) [] []) dropping (ride 4 pickup 1 0 1) 20
    (record { offer = record { cost = 20; no = other.no; place = 1; at = at 0 0; leave = 74; arrive = 94 }; walks = path pickup 0 [] [] ∷ path pickup 0 (2 ∷ 1 ∷ []) (10 ∷ 20 ∷ []) ∷ path 1 0 [] [] ∷ [] })).plan

still_there : map {B = ℕ × ℕ} (λ (k : ℕ). (arrives 2 (course_of (into_halted 62 3)) k, departs 2 (course_of (into_halted 62 3)) k)) (1 ∷ 2 ∷ 3 ∷ []) ≡ (62, 62) ∷ (82, 84) ∷ (84, 84) ∷ []
still_there = refl

on_its_way : map {B = ℕ × ℕ} (λ (k : ℕ). (arrives 2 (course_of (into_halted 63 2)) k, departs 2 (course_of (into_halted 63 2)) k)) (1 ∷ 2 ∷ 3 ∷ []) ≡ (72, 74) ∷ (94, 96) ∷ (96, 96) ∷ []
on_its_way = refl

-- ---- cancellations

abbrev pub given : Assigned
given = record { offer = record { cost = 34; no = idle.no; place = 0; at = at 0 0; leave = 12; arrive = 32 }; walks = first.legs }

abbrev pub numbered : ℕ → RequestNo
numbered n = record { 0 = n }

-- Requests 1 and 2 were given vehicle 1, request 3 has no vehicle, request 4 waits, and the riders of request 6 cancelled.
abbrev pub both_given : Board
both_given = record (now 4 0 false (record (car 1 2) { plan = both_on } ∷ []) (waits (ride 4 2 3 0 1) None ∷ [])
    ((numbered 1, IsAssigned given) ∷ (numbered 2, IsAssigned given) ∷ (numbered 3, Nobody) ∷ (numbered 6, IsAssigned given) ∷ [])) { cancelled = numbered 6 ∷ [] }

cancel_reasons : map (λ (n : ℕ). cancel_refusal both_given (numbered n)) (1 ∷ 2 ∷ 3 ∷ 4 ∷ 5 ∷ 6 ∷ []) ≡ None ∷ None ∷ Some why.Nobody ∷ Some why.Waiting ∷ Some why.Unknown ∷ Some why.Cancelled ∷ []
cancel_reasons = refl

-- at 12 the first rider is aboard, and the second one isn't
aboard_already : map (λ (n : ℕ). cancel_refusal (at_clock both_given 12) (numbered n)) (1 ∷ 2 ∷ []) ≡ Some why.Served ∷ None ∷ []
aboard_already = refl

-- the first rider cancels, and the vehicle goes to node 3 at once; the list is empty where it was the only rider, and the vehicle is
-- free where it can turn
abbrev first_cancels : Entry
first_cancels = Cancel (numbered 1) (Removed (record { no = idle.no; pickup = 1; dropoff = 4; walks = path 1 0 (2 ∷ 3 ∷ []) (10 ∷ 20 ∷ []) ∷ [] }))

abbrev second_alone_left : Board
second_alone_left = record both_given {
  fleet = record both_given.fleet {
    version = 5;
    cars = record (car 1 5) { plan = record both_on { stops = without_both both_on.stops 1 4; legs = path 1 0 (2 ∷ 3 ∷ []) (10 ∷ 20 ∷ []) ∷ path 3 0 (4 ∷ []) (10 ∷ []) ∷ [] } } ∷ [];
  };
  cancelled = numbered 1 ∷ numbered 6 ∷ [];
}

cancelled_first : (g : Roads) → AreLeastWalks g ((node 1, node 3) ∷ []) (path 1 0 (2 ∷ 3 ∷ []) (10 ∷ 20 ∷ []) ∷ []) → Step g both_given first_cancels second_alone_left
cancelled_first g walks = record {
  assigned = given;
  car = record (car 1 2) { plan = both_on };
  not_refused = refl;
  answer = refl;
  stands = refl;
  numbered = refl;
  stops = record { pickup = _; dropoff = _; from_first = lit≤ tt; order = lit≤ tt; pickup_stands = refl; dropoff_stands = refl; picked_up = refl; dropped_off = refl };
  walks = walks;
  leads_to = refl;
}

abbrev pub alone : Board
alone = now 2 5 false (car 1 2 ∷ []) [] ((numbered 1, IsAssigned given) ∷ [])

free_again : (g : Roads) → Step g alone (Cancel (numbered 1) (Removed (record { no = idle.no; pickup = 1; dropoff = 2; walks = [] })))
    (record (now 3 5 false (record (car 1 3) { plan = record first { place = node 2; departure = 10; stops = []; legs = [] } } ∷ []) [] ((numbered 1, IsAssigned given) ∷ [])) { cancelled = numbered 1 ∷ [] })
free_again g = record {
  assigned = given;
  car = car 1 2;
  not_refused = refl;
  answer = refl;
  stands = refl;
  numbered = refl;
  stops = record { pickup = _; dropoff = _; from_first = lit≤ tt; order = lit≤ tt; pickup_stands = refl; dropoff_stands = refl; picked_up = refl; dropped_off = refl };
  walks = refl;
  leads_to = refl;
}

-- its answer stays, so that its number isn't taken again
still_repeated : refusal second_alone_left (ride 1 2 4 0 1) ≡ Some Repeated
still_repeated = refl

refused_cancel : (g : Roads) → Step g both_given (Cancel (numbered 5) (Declined why.Unknown)) (record both_given { fleet = record both_given.fleet { version = 5 } })
refused_cancel g = (refl, refl)

cancelled_in_these : map (λ (n : ℕ). have_cancelled (numbered n) (Cancel (numbered 5) (Declined why.Unknown) ∷ first_cancels ∷ [])) (1 ∷ 2 ∷ 5 ∷ []) ≡ true ∷ false ∷ false ∷ []
cancelled_in_these = refl

-- ---- what isn't lawful

abbrev Unlawful : Roads → Board → Entry → Type 0
Unlawful g b e = (new : Board) → Step g b e new → ⊥

abbrev is_repeated : Option Reason → Bool
is_repeated (Some Repeated) = true
is_repeated o = false

-- a number twice, and another reason; a claim of a held one, and of the newer of two; a give back of one that nobody holds, and of one
-- that doesn't wait; the clock goes back, its own moment is refused, and a stop isn't told; a second shut
unlawful : (g : Roads)
    → Unlawful g with_one (Submit (ride 1 2 3 0 1) Accepted) × Unlawful g with_one (Submit (ride 1 2 3 0 1) (Refused Riders))
    × Unlawful g (now 5 0 false [] (waits one (Some 8) ∷ waits two None ∷ []) []) (Claim one.no 7) × Unlawful g (now 4 0 false [] (waits one None ∷ waits two None ∷ []) []) (Claim two.no 7)
    × Unlawful g with_one (Back one.no) × Unlawful g with_one (Back two.no)
    × Unlawful g at_noon (Advance 49 (Moved [])) × Unlawful g at_noon (Advance 50 (Behind 50)) × Unlawful g under_way (Advance 12 (Moved [])) × Unlawful g at_noon Shut
unlawful g = (
  λ new h. true≢false (ap is_some h.0),
  λ new h. true≢false (ap is_repeated h.0),
  λ new h. false≢true (ap (λ (o : Option Waiting). (unwrap_or o (waits one None)).request.no.0 == 1) h.1 ∙ ap (λ (n : RequestNo). n.0 == 1) h.2),
  λ new h. false≢true (ap (λ (o : Option Waiting). (unwrap_or o (waits two None)).request.no.0 == 2) h.1 ∙ ap (λ (n : RequestNo). n.0 == 2) h.2),
  λ new h. false≢true (ap (λ (o : Option Waiting). is_some (unwrap_or o (waits one None)).holder) h.1 ∙ h.2),
  λ new h. false≢true (ap is_some h.1),
  λ new h. le→leb 50 49 h.0,
  λ new h. lt→ltb 50 50 h.0,
  λ new h. false≢true (ap (λ (s : List (VehicleNo × Served)). length s == 1) h.1),
  λ new h. true≢false h.0,
)

-- an answer to a number that doesn't wait; nobody where one is feasible; an offer that another goes before; other walks than asked for
unlawful_answers : (g : Roads) (o : Offer) → IsOffer g at_noon.fleet one o → offer_cmp o taken.offer ≡ Less
    → Unlawful g at_noon (Commit two.no (IsAssigned taken)) × Unlawful g at_noon (Commit two.no Nobody) × Unlawful g at_noon (Commit one.no Nobody)
    × Unlawful g at_noon (Commit one.no (IsAssigned taken)) × Unlawful g at_noon (Commit one.no (IsAssigned (record taken { walks = [] })))
unlawful_answers g o f before = (λ new h. false≢true (ap is_some h.waiting), λ new h. false≢true (ap is_some h.waiting), λ new h. h.none o (asked h.waits h.waiting), λ new h. h.best.least o (asked h.waits h.waiting) before, λ new h. h.walks)
  where
    asked : (w : Waiting) → waiting_of at_noon one.no ≡ Some w → IsOffer g at_noon.fleet w.request o
    asked w e = subst (λ (p : Option Waiting). IsOffer g at_noon.fleet (unwrap_or p (waits one None)).request o) e f

-- a cancellation that is refused without a reason, or for another one, one that leaves the old leg in the place of a joined one, one
-- of another vehicle, and a second one
unlawful_cancels : (g : Roads)
    → Unlawful g both_given (Cancel (numbered 1) (Declined why.Served)) × Unlawful g both_given (Cancel (numbered 3) (Declined why.Unknown))
    × Unlawful g both_given (Cancel (numbered 1) (Removed (record { no = idle.no; pickup = 1; dropoff = 4; walks = [] })))
    × Unlawful g alone (Cancel (numbered 1) (Removed (record { no = other.no; pickup = 1; dropoff = 2; walks = [] })))
    × Unlawful g both_given (Cancel (numbered 6) (Removed (record { no = idle.no; pickup = 1; dropoff = 4; walks = [] })))
unlawful_cancels g = (
  λ new h. false≢true (ap is_some h.0),
  λ new h. false≢true (ap is_unknown h.0),
  λ new h. joins new h (ap car_in (sym h.stands)),
  λ new h. false≢true (ap (λ (c : Car). c.no.0 == 2) (given_car h.assigned h.answer h.car h.stands) ∙ ap (λ (n : VehicleNo). n.0 == 2) h.numbered),
  λ new h. true≢false (ap is_some h.not_refused),
)
  where
    is_unknown : Option CancelReason → Bool
    is_unknown (Some why.Unknown) = true
    is_unknown o = false

    car_in : Option Car → Car
    car_in o = unwrap_or o idle

    given_car : (a : Assigned) → answer_of alone (numbered 1) ≡ Some (IsAssigned a) → (c : Car) → slice_get alone.fleet.cars a.offer.place ≡ Some c → car 1 2 ≡ c
    given_car a e c stands = ap car_in (ap (λ (o : Option Decision). slice_get alone.fleet.cars (place_in o)) e ∙ stands)
      where
        place_in : Option Decision → ℕ
        place_in (Some (IsAssigned a)) = a.offer.place
        place_in o = 0

    joins : (new : Board) (h : Step g both_given (Cancel (numbered 1) (Removed (record { no = idle.no; pickup = 1; dropoff = 4; walks = [] }))) new) → h.car ≡ car_in (slice_get both_given.fleet.cars h.assigned.offer.place) → ⊥
    joins new h e = subst (λ (c : Car). AreLeastWalks g (joint_ends c.plan.stops (front_of c.plan 0) 1 4) []) (e ∙ sym (ap (λ (o : Option Decision). car_in (slice_get both_given.fleet.cars (place_in o))) h.answer)) h.walks
      where
        place_in : Option Decision → ℕ
        place_in (Some (IsAssigned a)) = a.offer.place
        place_in o = 0

other_end : (g : Roads) → Legal g at_noon [] at_first → ⊥
other_end g h = false≢true (ap (λ (b : Board). b.fleet.version == 11) h)

-- ---- events, and answers at once

events_of_the_day : events_in (entries_of (morning ++ evening)) ≡ Ride one ∷ Ride two ∷ Move 50 ∷ Move 49 ∷ Move 50 ∷ Move 60 ∷ Ride two ∷ []
events_of_the_day = refl

at_once : AreAnsweredAtOnce (Submit one Accepted ∷ Commit one.no Nobody ∷ Submit one (Refused Repeated) ∷ Advance 5 (Moved []) ∷ first_cancels ∷ [])
at_once = (refl, tt)

-- a claim between, a shut, no answer, and the answer to another
not_at_once : (AreAnsweredAtOnce (entries_of morning) → ⊥) × (AreAnsweredAtOnce (Shut ∷ []) → ⊥) × (AreAnsweredAtOnce (Submit one Accepted ∷ []) → ⊥) × (AreAnsweredAtOnce (Submit one Accepted ∷ Commit two.no Nobody ∷ []) → ⊥)
not_at_once = (λ h. h, λ h. h, λ h. h, λ h. false≢true (ap (λ (n : RequestNo). n.0 == 1) h.0))

-- ---- promises: the first request of the day, picked up just in time

abbrev promised : Promise
promised = record { pickup = 62; arrival = 90 }

on_planned : IsPlannedStop usual riding.plan 0 Pickup one promised
on_planned = record { stop = on; stands = refl; is_kind = refl; is_number = refl; is_there = refl; riders = refl; spaces = refl; ready = refl; limit = refl; in_time = lit≤ tt }

on_served : IsServedStop (got_on ∷ []) 0 Pickup one promised
on_served = record { stop = got_on; stands = refl; is_kind = refl; is_number = refl; is_there = refl; not_before = lit≤ tt; in_time = lit≤ tt }

-- reached and left at the last moments: planned, with the pickup served, and with both served
abbrev got_off : Served
got_off = record { kind = Dropoff; no = one.no; node = node 1; arr = 90; dep = 92 }

kept : HasRider usual riding.plan [] one promised × HasRider usual (record dropping.plan { departure = 70 }) (got_on ∷ []) one promised × HasRider usual other.plan (got_on ∷ got_off ∷ []) one promised
kept = (
  inl (0, 1, lit< tt, on_planned, record { stop = off; stands = refl; is_kind = refl; is_number = refl; is_there = refl; riders = refl; spaces = refl; ready = refl; limit = refl; in_time = lit≤ tt }),
  inr (inl (0, 0, on_served, record { stop = off; stands = refl; is_kind = refl; is_number = refl; is_there = refl; riders = refl; spaces = refl; ready = refl; limit = refl; in_time = lit≤ tt })),
  inr (inr (0, 1, lit< tt, record { stop = got_on; stands = refl; is_kind = refl; is_number = refl; is_there = refl; not_before = lit≤ tt; in_time = lit≤ tt }, record { stop = got_off; stands = refl; is_kind = refl; is_number = refl; is_there = refl; not_before = zero-le; in_time = lit≤ tt })),
)

-- whatever request and promise are asked about, a planned or served stop is theirs and keeps the limit
planned_so : (r : Request) (p : Promise) → IsPlannedStop usual riding.plan 0 Pickup r p → (one.no ≡ r.no) × (node 3 ≡ r.pickup) × (1 ≡ r.riders) × (0 ≡ r.spaces) × (40 ≡ r.moment) × (62 ≡ p.pickup)
planned_so r p h = let same : on ≡ h.stop = ap (λ (o : Option Stop). unwrap_or o on) h.stands in
    (ap (λ (s : Stop). s.no) same ∙ h.is_number, ap (λ (s : Stop). s.node) same ∙ h.is_there, ap (λ (s : Stop). s.riders) same ∙ h.riders, ap (λ (s : Stop). s.spaces) same ∙ h.spaces, ap (λ (s : Stop). s.ready) same ∙ h.ready, ap (λ (s : Stop). s.limit) same ∙ h.limit)

served_so : (r : Request) (p : Promise) → IsServedStop (got_on ∷ []) 0 Pickup r p → (one.no ≡ r.no) × (node 3 ≡ r.pickup) × (r.moment ≤ 62) × (62 ≤ p.pickup)
served_so r p h = let same : got_on ≡ h.stop = ap (λ (o : Option Served). unwrap_or o got_on) h.stands in
    (ap (λ (s : Served). s.no) same ∙ h.is_number, ap (λ (s : Served). s.node) same ∙ h.is_there, subst (λ (s : Served). r.moment ≤ s.dep) (sym same) h.not_before, subst (λ (s : Served). s.dep ≤ p.pickup) (sym same) h.in_time)

-- a pickup is no dropoff, and one that is left at 63 is too late
not_these : ((r : Request) (p : Promise) → IsPlannedStop usual riding.plan 0 Dropoff r p → ⊥) × ((r : Request) (p : Promise) → IsServedStop (got_on ∷ []) 0 Dropoff r p → ⊥) × (IsPlannedStop usual (record riding.plan { departure = 51 }) 0 Pickup one promised → ⊥)
not_these = (λ r p h. true≢false (ap (λ (o : Option Stop). is_pickup (unwrap_or o on).kind) h.stands ∙ ap is_pickup h.is_kind), λ r p h. true≢false (ap (λ (o : Option Served). is_pickup (unwrap_or o got_on).kind) h.stands ∙ ap is_pickup h.is_kind), λ h. le→leb 63 62 h.in_time)

was_assigned : (g : Roads) (after : List Entry) → NoOffer g (now 10 50 true (idle ∷ other ∷ []) [] []).fleet two → IsDist g (node 3) (node 1) 20 → WasAssigned g dawn (entries_of morning ++ Commit one.no (IsAssigned taken) ∷ after) taken one promised after
was_assigned g after none far = record { before = entries_of morning; board = at_noon; waits = waits one (Some 8); direct = 20; stands = refl; legal = morning_is_legal g none; waiting = refl; asked = refl; direct_way = far; promised = refl }

-- another vehicle in the place of the rider's
another_vehicle : (g : Roads) (history after : List Entry) → have_cancelled one.no after ≡ false → WasAssigned g dawn history taken one promised after → ArePromisesKept g dawn history (now 12 50 true (idle ∷ record riding { no = record { 0 = 5 } } ∷ []) [] []) → ⊥
another_vehicle g history after stays was h = let x = h.riders taken one promised after was stays in false≢true (ap (λ (o : Option Car). (unwrap_or o other).no.0 == 2) x.1 ∙ ap (λ (n : VehicleNo). n.0 == 2) x.2)

-- a schedule that is over too late isn't kept, also before the first entry
abbrev late : Car
late = record (car 1 2) { plan = record first { until = 33 } }

not_kept : (g : Roads) → KeepsPromises g (now 7 3 false (late ∷ []) [] []) (Shut ∷ Shut ∷ []) → ⊥
not_kept g h = false≢true ((h [] (Shut ∷ Shut ∷ []) (now 7 3 false (late ∷ []) [] []) refl refl).schedules 0 late refl).1

-- each schedule that is kept has least walks as its legs
least_all_along : (g : Roads) (first last : Board) (history : List Entry) (place : ℕ) (car : Car) → ArePromisesKept g first history last → slice_get last.fleet.cars place ≡ Some car → HasLeastWalks g car.plan
least_all_along g _ last history place car h stands = (h.schedules place car stands).2

-- a number twice, falling numbers, a start that is no node
no_fleets : (AreVehicles 4 (car_1 ∷ car_1 ∷ []) → ⊥) × (AreVehicles 4 (record car_1 { no = other.no } ∷ car_1 ∷ []) → ⊥) × (AreVehicles 4 (record car_1 { start = node 5 } ∷ []) → ⊥)
no_fleets = (λ h. lt→ltb 1 1 (h.rising 0 car_1 car_1 refl refl), λ h. lt→ltb 2 1 (h.rising 0 (record car_1 { no = other.no }) car_1 refl refl), λ h. le→leb 5 4 (h.each 0 (record car_1 { start = node 5 }) refl).start_to_last)
