use Rattle.std.specs.Prelude.{◌≡◌, ℕ, zero, suc, ◌≤◌, ◌==◌, Bool, true, false, List, [], ◌∷◌}
use Rattle.std.specs.Prelude.{drop, map, Option, Some, None, is_some, slice_get, refl}
use Rattle.std.specs.Option.{unwrap_or}
use mathlib.Core.Path.{ap, sym, subst, ◌∙◌}
use mathlib.Core.Bool.{true≢false, false≢true}
use lib.Dec.{lit<, lit≤, le→leb}
use Rattle.ride_base.specs.declared.numbers.RequestNo.{RequestNo}
use Rattle.ride_base.specs.declared.numbers.VehicleNo.{VehicleNo}
use Rattle.road_graph.specs.declared.road.NodeNo.{NodeNo}
use Rattle.road_graph.specs.Paths.{Path, length_of}
use Rattle.road_graph.specs.Roads.{node}
use Rattle.stop_schedule.specs.declared.request.Request.{Request}
use Rattle.stop_schedule.specs.declared.stop.Insertion.{Insertion}
use Rattle.stop_schedule.specs.Fleets.{Car}
use Rattle.stop_schedule.specs.Fronts.{front_of}
use Rattle.stop_schedule.specs.Keeping.{keeps}
use Rattle.stop_schedule.specs.Plans.{Plan}
use Rattle.stop_schedule.specs.Rates.{usual}
use Rattle.stop_schedule.specs.Samples.{ride, at, path}
use Rattle.stop_removal.specs.declared.removal.Removal.{Removal}
use Rattle.stop_removal.specs.Removals.{AreStopsOf, joint_ends, removed_in}
use Rattle.stop_removal.specs.Samples.{both_on}
use Rattle.insertion_cost.specs.declared.decision.Assigned.{Assigned}
use Rattle.insertion_cost.specs.declared.decision.Decision.{Decision}
use Rattle.insertion_cost.specs.declared.decision.Decision.TheVariants.{Nobody}
use Rattle.insertion_cost.specs.declared.decision.Decision.TheVariants.{Assigned as IsAssigned}
use Rattle.insertion_cost.specs.Prices.{Price, priced}
use Rattle.board_core.specs.Boards.{Board, Waiting}
use Rattle.board_core.specs.BoardCalls.{AreWithin, AreWaysBetween, IsWayBetween}
use Rattle.board_core.specs.BoardCalls.{MayApply, MayRemove}
use Rattle.board_core.specs.Steps.{at_clock, cancel_refusal}
use Rattle.board_core.specs.Samples.{one, two, idle, other, car, taken, waits, now, at_noon}
use Rattle.board_core.specs.Samples.{turning, given, numbered, both_given, alone}

-- What may be handed to the calls of a board and what may not, on boards of the day on the line of four nodes.

-- each of these nodes is one of the four
abbrev AreOfFour : List NodeNo → Type 0
AreOfFour [] = Unit {0}
AreOfFour (n ∷ walk) = (1 ≤ n.0) × (n.0 ≤ 4) × AreOfFour walk

within : (walk : List NodeNo) → AreOfFour walk → AreWithin 4 walk
within [] h k n e = absurd (false≢true (ap is_some e))
within (m ∷ walk) h zero n e =
    subst (λ (o : Option NodeNo). (1 ≤ (unwrap_or o m).0) × ((unwrap_or o m).0 ≤ 4)) e (h.0, h.1)
within (m ∷ walk) h (suc k) n e = within walk h.2 k n e

-- ---- answers

from_4_to_3 : IsWayBetween 4 (node 4) (node 3) (path 4 0 (3 ∷ []) (10 ∷ []))
from_4_to_3 = record {
  joins = (refl, refl);
  within = within (node 4 ∷ node 3 ∷ []) (lit≤ tt, lit≤ tt, (lit≤ tt, lit≤ tt, tt));
  short = lit< tt;
}

from_3_to_1 : IsWayBetween 4 (node 3) (node 1) (path 3 0 (2 ∷ 1 ∷ []) (10 ∷ 20 ∷ []))
from_3_to_1 = record {
  joins = (refl, refl);
  within = within (node 3 ∷ node 2 ∷ node 1 ∷ [])
      (lit≤ tt, lit≤ tt, (lit≤ tt, lit≤ tt, (lit≤ tt, lit≤ tt, tt)));
  short = lit< tt;
}

-- the second vehicle, which has no stop yet, may take the first request
may_take : MayApply at_noon one.no (IsAssigned taken) 20
may_take = (
  waits one (Some 8),
  refl,
  record {
    car = other;
    cost = 36;
    stands = refl;
    numbered = refl;
    ways = (from_4_to_3, (from_3_to_1, refl));
    priced_so = refl;
  },
)

at_2 : IsWayBetween 4 (node 2) (node 2) (path 2 0 [] [])
at_2 = record {
  joins = (refl, refl);
  within = within (node 2 ∷ []) (lit≤ tt, lit≤ tt, tt);
  short = lit< tt;
}

from_4_to_1 : IsWayBetween 4 (node 4) (node 1) (path 4 0 (3 ∷ 2 ∷ 1 ∷ []) (10 ∷ 20 ∷ 30 ∷ []))
from_4_to_1 = record {
  joins = (refl, refl);
  within = within (node 4 ∷ node 3 ∷ node 2 ∷ node 1 ∷ [])
      (lit≤ tt, lit≤ tt, (lit≤ tt, lit≤ tt, (lit≤ tt, lit≤ tt, (lit≤ tt, lit≤ tt, tt))));
  short = lit< tt;
}

-- a request at 5, when the vehicle is under way
abbrev back_to_1 : Waiting
back_to_1 = waits (ride 2 2 1 5 1) None

abbrev at_5 : Board
at_5 = now 4 5 false (car 1 2 ∷ []) (back_to_1 ∷ []) []

-- the vehicle may turn at its front
may_turn : MayApply at_5 two.no (IsAssigned turning) 10
may_turn = (
  back_to_1,
  refl,
  record {
    car = car 1 2;
    cost = 61;
    stands = refl;
    numbered = refl;
    ways = (at_2, (at_2, (from_4_to_1, refl)));
    priced_so = refl;
  },
)

-- nobody may be the answer to any request that waits, whatever is feasible
may_be_nobody : MayApply at_5 two.no Nobody 0
may_be_nobody = (back_to_1, refl, tt)

-- the price of an insertion for a request into the list of a vehicle, at noon
abbrev price_in : Car → Request → Insertion → List Path → Option Price
price_in c r at walks = priced usual c.plan (front_of c.plan 50) r at 20 (map length_of walks)

abbrev vehicle_in : Option Car → Car
vehicle_in c = unwrap_or c idle

abbrev request_in : Option Waiting → Request
request_in w = (unwrap_or w (waits two None)).request

abbrev leaves_at : ℕ → Option Price → Bool
leaves_at moment None = false
leaves_at moment (Some p) = p.leave == moment

-- the price that an assignment of the second vehicle has at noon
abbrev price_of : Assigned → Option Price
price_of a = price_in other one a.offer.at a.walks

priced_so : (a : Assigned) (test : Option Price → Bool) → a.offer.place ≡ 1
    → (h : MayApply at_noon one.no (IsAssigned a) 20)
    → test (price_of a) ≡ test (price_in h.2.car h.0.request a.offer.at a.walks)
priced_so a test there h =
    ap (λ (w : Option Waiting). test (price_in other (request_in w) a.offer.at a.walks)) h.1
    ∙ ap (λ (k : ℕ). test (price_in (vehicle_in (slice_get at_noon.fleet.cars k)) h.0.request
    a.offer.at a.walks)) (sym there)
    ∙ ap (λ (c : Option Car). test (price_in (vehicle_in c) h.0.request a.offer.at a.walks))
    h.2.stands

-- a walk that is longer than the offer's times tell
abbrev longer : Assigned
longer = record taken { walks = path 4 0 (3 ∷ []) (11 ∷ []) ∷ drop 1 taken.walks }

no_other_length : MayApply at_noon one.no (IsAssigned longer) 20 → ⊥
no_other_length h =
    false≢true (priced_so longer (leaves_at 62) refl h ∙ ap (leaves_at 62) h.2.priced_so)

-- a pair out of order
abbrev turned_round : Assigned
turned_round = record taken { offer = record taken.offer { at = at 1 0 } }

no_pair_out_of_order : MayApply at_noon one.no (IsAssigned turned_round) 20 → ⊥
no_pair_out_of_order h =
    false≢true (priced_so turned_round is_some refl h ∙ ap is_some h.2.priced_so)

-- the number of the vehicle of another place
abbrev misnumbered : Assigned
misnumbered = record taken { offer = record taken.offer { no = idle.no } }

no_other_number : MayApply at_noon one.no (IsAssigned misnumbered) 20 → ⊥
no_other_number h = false≢true (ap (λ (c : Option Car). (vehicle_in c).no.0 == 1) h.2.stands
    ∙ ap (λ (n : VehicleNo). n.0 == 1) h.2.numbered)

-- a first walk that doesn't begin where the vehicle is
abbrev from_elsewhere : Assigned
from_elsewhere = record taken { walks = path 2 0 (3 ∷ []) (10 ∷ []) ∷ drop 1 taken.walks }

abbrev turns_at_2 : Car → Bool
turns_at_2 c = (front_of c.plan 50).node.0 == 2

no_walk_from_elsewhere : MayApply at_noon one.no (IsAssigned from_elsewhere) 20 → ⊥
no_walk_from_elsewhere h =
    false≢true (ap (λ (c : Option Car). turns_at_2 (vehicle_in c)) h.2.stands
    ∙ ap (λ (n : NodeNo). n.0 == 2) (sym h.2.ways.0.joins.0))

-- a walk over a node that isn't there
abbrev outside : Assigned
outside = record taken { walks = path 4 0 (5 ∷ 3 ∷ []) (4 ∷ 10 ∷ []) ∷ drop 1 taken.walks }

no_walk_outside : MayApply at_noon one.no (IsAssigned outside) 20 → ⊥
no_walk_outside h = le→leb 5 4 (h.2.ways.0.within 1 (node 5) refl).1

-- an answer to a number that doesn't wait
no_answer_twice : MayApply at_noon two.no Nobody 0 → ⊥
no_answer_twice h = false≢true (ap is_some h.1)

-- ---- removals

abbrev removal : (pickup dropoff : ℕ) → List Path → Removal
removal pickup dropoff walks = record {
  no = idle.no;
  pickup = pickup;
  dropoff = dropoff;
  walks = walks;
}

abbrev full : Car
full = record (car 1 2) { plan = both_on }

from_1_to_3 : IsWayBetween 4 (node 1) (node 3) (path 1 0 (2 ∷ 3 ∷ []) (10 ∷ 20 ∷ []))
from_1_to_3 = record {
  joins = (refl, refl);
  within = within (node 1 ∷ node 2 ∷ node 3 ∷ [])
      (lit≤ tt, lit≤ tt, (lit≤ tt, lit≤ tt, (lit≤ tt, lit≤ tt, tt)));
  short = lit< tt;
}

first_of_four : AreStopsOf (numbered 1) both_on.stops 1 4
first_of_four = record {
  pickup = _;
  dropoff = _;
  from_first = lit≤ tt;
  order = lit≤ tt;
  pickup_stands = refl;
  dropoff_stands = refl;
  picked_up = refl;
  dropped_off = refl;
}

-- the first of two riders, over whose pickup a leg is joined
may_go : MayRemove both_given (numbered 1) (removal 1 4 (path 1 0 (2 ∷ 3 ∷ []) (10 ∷ 20 ∷ []) ∷ []))
may_go = record {
  assigned = given;
  car = full;
  not_refused = refl;
  answer = refl;
  stands = refl;
  numbered = refl;
  stops = first_of_four;
  ways = (from_1_to_3, refl);
  kept = refl;
}

only_two : AreStopsOf (numbered 1) (car 1 2).plan.stops 1 2
only_two = record {
  pickup = _;
  dropoff = _;
  from_first = lit≤ tt;
  order = lit≤ tt;
  pickup_stands = refl;
  dropoff_stands = refl;
  picked_up = refl;
  dropped_off = refl;
}

-- the only rider
may_empty : MayRemove alone (numbered 1) (removal 1 2 [])
may_empty = record {
  assigned = given;
  car = car 1 2;
  not_refused = refl;
  answer = refl;
  stands = refl;
  numbered = refl;
  stops = only_two;
  ways = refl;
  kept = refl;
}

abbrev place_in : Option Decision → ℕ
place_in (Some (IsAssigned a)) = a.offer.place
place_in o = 0

-- it is the vehicle of the answer whose list is changed
the_full_one : (x : Removal) (h : MayRemove both_given (numbered 1) x) → h.car ≡ full
the_full_one x h =
    sym (ap (λ (o : Option Decision). vehicle_in (slice_get both_given.fleet.cars (place_in o)))
    h.answer ∙ ap vehicle_in h.stands)

ways_of : (x : Removal) → MayRemove both_given (numbered 1) x
    → AreWaysBetween 4 (joint_ends both_on.stops (front_of both_on 0) x.pickup x.dropoff) x.walks
ways_of x h = subst (λ (c : Car). AreWaysBetween 4
    (joint_ends c.plan.stops (front_of c.plan 0) x.pickup x.dropoff) x.walks)
    (the_full_one x h) h.ways

abbrev new_plan : Car → Removal → Plan
new_plan c x = removed_in c.plan (front_of c.plan 0) x.pickup x.dropoff x.walks

kept_by : (x : Removal) → MayRemove both_given (numbered 1) x → keeps usual (new_plan full x) ≡ true
kept_by x h = subst (λ (c : Car). keeps usual (new_plan c x) ≡ true) (the_full_one x h) h.kept

-- a joined walk that ends at another node
abbrev ending_at_2 : Removal
ending_at_2 = removal 1 4 (path 1 0 (2 ∷ []) (10 ∷ []) ∷ [])

no_walk_to_2 : MayRemove both_given (numbered 1) ending_at_2 → ⊥
no_walk_to_2 h = false≢true (ap (λ (n : NodeNo). n.0 == 3) (ways_of ending_at_2 h).0.joins.1)

-- one over a node that isn't there
abbrev over_5 : Removal
over_5 = removal 1 4 (path 1 0 (5 ∷ 3 ∷ []) (10 ∷ 20 ∷ []) ∷ [])

no_walk_over_5 : MayRemove both_given (numbered 1) over_5 → ⊥
no_walk_over_5 h = le→leb 5 4 ((ways_of over_5 h).0.within 1 (node 5) refl).1

-- none, where a leg is joined
no_walk_too_few : MayRemove both_given (numbered 1) (removal 1 4 []) → ⊥
no_walk_too_few h = ways_of (removal 1 4 []) h

-- one on which the other rider would wait too long
abbrev too_long : Removal
too_long = removal 1 4 (path 1 0 (2 ∷ 3 ∷ []) (10 ∷ 40 ∷ []) ∷ [])

no_walk_too_long : MayRemove both_given (numbered 1) too_long → ⊥
no_walk_too_long h = false≢true (kept_by too_long h)

-- a board on which a reason stands against a cancellation
refused : (b : Board) (n : RequestNo) (x : Removal) → is_some (cancel_refusal b n) ≡ true
    → MayRemove b n x → ⊥
refused b n x reason h = true≢false (sym reason ∙ ap is_some h.not_refused)

-- riders who aren't on the way: their number was never accepted, no vehicle takes them, they still wait, they cancelled before, or
-- they are aboard
not_on_the_way : (x : Removal) → (MayRemove both_given (numbered 5) x → ⊥)
    × (MayRemove both_given (numbered 3) x → ⊥) × (MayRemove both_given (numbered 4) x → ⊥)
    × (MayRemove both_given (numbered 6) x → ⊥)
    × (MayRemove (at_clock both_given 12) (numbered 1) x → ⊥)
not_on_the_way x = (
  refused both_given (numbered 5) x refl,
  refused both_given (numbered 3) x refl,
  refused both_given (numbered 4) x refl,
  refused both_given (numbered 6) x refl,
  refused (at_clock both_given 12) (numbered 1) x refl,
)
