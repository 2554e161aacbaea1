use Rattle.std.proofs.Common.{◌≡◌, ℕ, zero, suc, ◌+◌, ◌-◌, ◌*◌, ◌<◌, ◌≤◌, ◌↔◌, ◌^◌, List, length, drop, get_or, slice_get, Option, Some, None, IsSome, true, cond, unwrap_or, refl, sym, ap, ◌∙◌, subst, arith, ⊎_elim}
use Rattle.std.specs.Prelude.{IfSome}
use Rattle.std.proofs.lemmas.Bool.{cases_lt, ne_eqb}
use Rattle.std.proofs.lemmas.Option.{slice_get-get_or}
use Rattle.road_graph.specs.Roads.{Roads}
use Rattle.road_graph.specs.declared.road.NodeNo.{NodeNo}
use Rattle.road_graph.specs.Graphs.{IsGraph}
use Rattle.road_graph.proofs.WalkLaws.{dist_short}
use Rattle.stop_schedule.specs.declared.request.Request.{Request}
use Rattle.stop_schedule.specs.declared.stop.Front.{Front}
use Rattle.stop_schedule.specs.declared.stop.Insertion.{Insertion}
use Rattle.stop_schedule.specs.declared.stop.Start.{Start}
use Rattle.stop_schedule.specs.Fleets.{Car}
use Rattle.stop_schedule.specs.Limits.{most_stops}
use Rattle.stop_schedule.specs.Keeping.{keeps, is_feasible}
use Rattle.stop_schedule.specs.Lists.{changed_ends, old_course, node_at, started, pair}
use Rattle.stop_schedule.specs.Plans.{Plan, Course, course_of, halt_at}
use Rattle.stop_schedule.specs.Rates.{Rates, trip_limit}
use Rattle.stop_schedule.specs.Times.{departs}
use Rattle.insertion_cost.specs.declared.behind.Behind.{Behind}
use Rattle.insertion_cost.specs.declared.node_ways.NodeWays.{NodeWays}
use Rattle.insertion_cost.specs.declared.on_the_way.OnTheWay.{OnTheWay}
use Rattle.insertion_cost.specs.declared.offer.Offer.{Offer}
use Rattle.insertion_cost.specs.declared.pairs.PlacedVehicle.{PlacedVehicle}
use Rattle.insertion_cost.specs.declared.spans.Spans.{Spans}
use Rattle.insertion_cost.specs.Behind.{busy_behind, IsBehind, AreBehind}
use Rattle.insertion_cost.specs.Changes.{course_from}
use Rattle.insertion_cost.specs.NodeWays.{AreWaysAlong, AreSpansOf, HaveShape, IsDistOrNone, IsOnlyPrice}
use Rattle.insertion_cost.specs.OnWays.{past_stop, changed, HasRoom, HasRoomBy, IsLed, IsPricedBy, EndsSo, AreReadOff, into_of, onto_of, starting, no_ways, AreShortWays, AreSomeBehind}
use Rattle.insertion_cost.specs.Prices.{Price, priced}
use Rattle.insertion_cost.specs.Spans.{lengths_of}
use Rattle.insertion_cost.specs.Pairs.{IsCarOf, IsBestOfTried}
use Rattle.insertion_cost.proofs.IsTried.{only_price, rest_none}
use Rattle.insertion_cost.proofs.Leads.{full, leads_first, left_late, started_behind}
use Rattle.insertion_cost.proofs.PairPrice.{none_by, spans_form, reached_late, not_ended, ended_priced}

-- what lies behind stop i doesn't hang on where another list starts
pub before_same : (stop : ℕ) (p : Plan) (front : Front) (i : ℕ) → busy_behind stop (old_course p front (pair 0 0)) i ≡ busy_behind stop (old_course p front (pair i i)) i
before_same stop p front zero = refl
before_same stop p front (suc i) = refl

-- distances of a graph are short
dist_or_short : (g : Roads) → IsGraph g → (u v : NodeNo) (o : Option ℕ) → IsDistOrNone g u v o → IfSome o (λ x. x < 2 ^ 53)
dist_or_short g lawful u v None d = tt
dist_or_short g lawful u v (Some x) d = dist_short g lawful u v x d

pub short_ways : (g : Roads) (p : Plan) (front : Front) (r : Request) (direct : ℕ) (ways : List NodeWays) → AreWaysAlong g r front p.stops direct ways → AreShortWays p ways
short_ways g p front r direct ways along = record {
  many = along.many;
  each = λ k l. let w = get_or ways k no_ways in let are = along.each k w (slice_get-get_or ways k no_ways l) in let n = node_at front p.stops k in record {
    to_pickup = dist_or_short g along.graph n r.pickup w.to_pickup are.to_pickup;
    from_pickup = dist_or_short g along.graph r.pickup n w.from_pickup are.from_pickup;
    to_dropoff = dist_or_short g along.graph n r.dropoff w.to_dropoff are.to_dropoff;
    from_dropoff = dist_or_short g along.graph r.dropoff n w.from_dropoff are.from_dropoff;
  };
}

module _ (g : Roads) (rates : Rates) (p : Plan) (front : Front) (r : Request) (direct : ℕ) (ways : List NodeWays) (rows : List Behind) (by : IsPricedBy g rates p front r direct ways rows) (at : Insertion) (w : OnTheWay) (leave : ℕ)
    (led : IsLed rates p front r ways at.i leave at.j w) (room : HasRoom p r (drop at.j p.stops)) (within : at.j ≤ length p.stops) (s : Spans) (shape : HaveShape (length p.stops) at s) (read : AreReadOff ways direct at s)
    (exact : AreSpansOf g (changed_ends p.stops front r at) (Some s)) (u : ℕ) (same : at.i ≡ at.j → u ≡ s.after_pickup) (back : at.i < at.j → s.before_dropoff ≡ Some u)
  where
    abbrev x : ℕ
    x = into_of ways at.i

    abbrev y : ℕ
    y = onto_of ways at.i

    abbrev v : ℕ
    v = unwrap_or s.after_dropoff 0

    abbrev before : ℕ
    before = busy_behind rates.stop (old_course p front (pair at.i at.i)) at.i

    form_is : lengths_of s ≡ changed at.i at.j (length p.stops) x y u v
    form_is = let o = led.order in spans_form (length p.stops) u ways direct at s o shape read same back

    pub late_none : p.until < w.departure + u → IsOnlyPrice g rates front p r at None
    late_none late = only_price g rates front p r at direct (lengths_of s) None by.along.direct_way exact
        (sym (ap (priced rates p front r at direct) form_is ∙ reached_late rates p front r at.i x y leave before at.j w led room within u v direct late))

    pub ended_none : EndsSo rates p at.j v (past_stop rates.stop w u r.dropoff 0) None → IsOnlyPrice g rates front p r at None
    ended_none ends = only_price g rates front p r at direct (lengths_of s) None by.along.direct_way exact
        (sym (ap (priced rates p front r at direct) form_is ∙ not_ended rates p front r at.i x y leave before at.j w led room within u v direct ends))

    pub ended_some : (total cost arrive : ℕ) (b : Behind) → slice_get rows (length p.stops - at.i) ≡ Some b → w.departure + u ≤ p.until → EndsSo rates p at.j v (past_stop rates.stop w u r.dropoff 0) (Some total) → arrive ≡ w.departure + u
        → cost ≡ total - b.busy_time + rates.wait_weight * (leave - (r.moment + rates.wait)) + rates.trip_weight * (arrive - (r.moment + trip_limit rates direct)) → IsOnlyPrice g rates front p r at (Some (record { cost = cost; leave = leave; arrive = arrive }))
    ended_some total cost arrive b there l ends a c =
        let order = led.order in
        let is = by.behind.each (length p.stops - at.i) at.i b there (omega arith) in
        let row : b.busy_time ≡ before = is.busy_time ∙ before_same rates.stop p front at.i in
        let cost_is : cost ≡ total - before + rates.wait_weight * (leave - (r.moment + rates.wait)) + rates.trip_weight * (w.departure + u - (r.moment + trip_limit rates direct)) = c ∙ rw (row, a) refl in
        only_price g rates front p r at direct (lengths_of s) (Some (record { cost = cost; leave = leave; arrive = arrive })) by.along.direct_way exact
        (ap (λ (q : ℕ). Some (record { cost = q; leave = leave; arrive = arrive })) cost_is
        ∙ ap {B = Option Price} (λ (q : ℕ). Some (record { cost = total - before + rates.wait_weight * (leave - (r.moment + rates.wait)) + rates.trip_weight * (w.departure + u - (r.moment + trip_limit rates direct)); leave = leave; arrive = q })) a
        ∙ sym (ap (priced rates p front r at direct) form_is ∙ ended_priced rates p front r at.i x y leave before at.j w led room within u v direct total l ends))

-- the test for room is that of those who get on and off behind a stop
pub room_by : (stop until : ℕ) (start : Start) (p : Plan) (r : Request) (i : ℕ) (b : Behind) → IsBehind stop until (course_from start p) i b → HasRoomBy p r b ↔ HasRoom p r (drop i p.stops)
room_by stop until start p r i b is =
    let a = is.on_seats.on in
    let o = is.on_seats.off in
    let e = is.in_spaces.on in
    let f = is.in_spaces.off in
    (λ h. let x = h.0 in let y = h.1 in (omega arith, omega arith), λ h. let x = h.0 in let y = h.1 in (omega arith, omega arith))

pub short_some : (o : Option ℕ) (x : ℕ) → o ≡ Some x → IfSome o (λ y. y < 2 ^ 53) → x < 2 ^ 53
short_some o x e h = subst (λ (p : Option ℕ). IfSome p (λ y. y < 2 ^ 53)) e h

-- so the lengths that are read off them are short
pub short_in : (p : Plan) (ways : List NodeWays) (direct : ℕ) (at : Insertion) (s : Spans) (u : ℕ) → AreShortWays p ways → AreReadOff ways direct at s → direct < 2 ^ 53 → at.i ≤ at.j → at.j ≤ length p.stops → (at.i ≡ at.j → u ≡ s.after_pickup) → (at.i < at.j → s.before_dropoff ≡ Some u) → u < 2 ^ 53
short_in p ways direct at s u short read near order within same back = ⊎_elim
    (λ (apart : at.i < at.j). let many = short.many in short_some (get_or ways at.j no_ways).to_dropoff u (read.back apart ∙ back apart) (short.each at.j (omega arith)).to_dropoff)
    (λ (last : at.j ≤ at.i). let together : at.i ≡ at.j = omega arith in let e = same together in let d = read.directly together in omega arith)
    (cases_lt at.i at.j)

none_if : (o : Option ℕ) (j m : ℕ) → (IsSome o ↔ (j < m)) → m ≤ j → IfSome o (λ y. y < 2 ^ 53)
none_if None j m shape l = tt
none_if (Some x) j m shape l = absurd (let more : j < m = shape.0 refl in omega arith)

pub short_out : (p : Plan) (ways : List NodeWays) (direct : ℕ) (at : Insertion) (s : Spans) → AreShortWays p ways → AreReadOff ways direct at s → HaveShape (length p.stops) at s → IfSome s.after_dropoff (λ y. y < 2 ^ 53)
short_out p ways direct at s short read shape = ⊎_elim
    (λ (more : at.j < length p.stops). let many = short.many in subst (λ (o : Option ℕ). IfSome o (λ y. y < 2 ^ 53)) (read.out (omega arith)) (short.each (at.j + 1) (omega arith)).from_dropoff)
    (λ (last : length p.stops ≤ at.j). none_if s.after_dropoff at.j (length p.stops) shape.1 last)
    (cases_lt at.j (length p.stops))

-- few riders get on and off behind a stop
pub few_riders : (rates : Rates) (p : Plan) (rows : List Behind) (i : ℕ) (b : Behind) → AreSomeBehind rates p rows → length p.stops + 2 ≤ most_stops → i ≤ length p.stops → slice_get rows (length p.stops - i) ≡ Some b
    → (b.on_seats.on ≤ 2 ^ 40) × (b.on_seats.off ≤ 2 ^ 40) × (b.in_spaces.on ≤ 2 ^ 40) × (b.in_spaces.off ≤ 2 ^ 40)
few_riders rates p rows i b some few within there =
    let is = some.1.each (length p.stops - i) i b there (omega arith) in
    let seats = is.few_on_seats in
    let spaces = is.few_in_spaces in
    let a = seats.0 in
    let o = seats.1 in
    let e = spaces.0 in
    let f = spaces.1 in
    (omega arith, omega arith, omega arith, omega arith)

-- there is room before stop j where the test says so
pub room_there : (rates : Rates) (p : Plan) (r : Request) (rows : List Behind) (j : ℕ) (b : Behind) → AreSomeBehind rates p rows → j ≤ length p.stops → slice_get rows (length p.stops - j) ≡ Some b → HasRoomBy p r b ↔ HasRoom p r (drop j p.stops)
room_there rates p r rows j b some within there = room_by rates.stop p.until some.0 p r j b (some.1.each (length p.stops - j) j b there (omega arith))

-- where it doesn't, no later pair of stop i has a price
pub nobody_more : (g : Roads) (rates : Rates) (v : PlacedVehicle) (p : Plan) (car : Car) (front : Front) (r : Request) (is : IsCarOf v p car) (direct : ℕ) (ways : List NodeWays) (rows : List Behind) (i leave j : ℕ) (w : OnTheWay) (b : Behind) (best : Option Offer)
    → AreWaysAlong g r front p.stops direct ways → AreSomeBehind rates p rows → IsLed rates p front r ways i leave j w → j ≤ length p.stops → slice_get rows (length p.stops - j) ≡ Some b → (HasRoomBy p r b → ⊥)
    → IsBestOfTried g rates v.place car front r i j best → IsBestOfTried g rates v.place car front r (i + 1) (i + 1) best
nobody_more g rates v p car front r is direct ways rows i leave j w b best along some led within there not t =
    rest_none g rates v p car front r is i j best (none_by g rates front p r direct ways i j along (full rates p front r i _ _ leave _ j w led (λ room. not ((room_there rates p r rows j b some within there).1 room)))) t

-- a vehicle that took the riders up behind stop i
module _ (rates : Rates) (p : Plan) (front : Front) (r : Request) (ways : List NodeWays) (i x : ℕ) (turning taken : OnTheWay) (kept : keeps rates p ≡ true) (many : length p.legs ≡ length p.stops) (few : length p.stops + 2 ≤ most_stops) (within : i ≤ length p.stops)
    (way : (get_or ways i no_ways).to_pickup ≡ Some x) (turns : turning ≡ starting rates p front i) (past : taken ≡ past_stop rates.stop turning x r.pickup r.moment)
  where
    into_is : into_of ways i ≡ x
    into_is = ap (λ (o : Option ℕ). unwrap_or o 0) way

    taken_is : taken ≡ past_stop rates.stop (starting rates p front i) (into_of ways i) r.pickup r.moment
    taken_is = past ∙ ap (λ (w : OnTheWay). past_stop rates.stop w x r.pickup r.moment) turns ∙ ap (λ (m : ℕ). past_stop rates.stop (starting rates p front i) m r.pickup r.moment) (sym into_is)

    pub led_first : taken.departure ≤ p.until → IsLed rates p front r ways i taken.departure i taken
    led_first early = subst (λ (w : OnTheWay). w.departure ≤ p.until → IsLed rates p front r ways i w.departure i w) (sym taken_is) (leads_first rates p front r i (into_of ways i) (onto_of ways i) kept many few within) early

    pub late_first : p.until < taken.departure → (k u v : ℕ) → i ≤ k → k ≤ length p.stops → is_feasible rates p front r (pair i k) (changed i k (length p.stops) (into_of ways i) (onto_of ways i) u v) ≡ true → ⊥
    late_first late = left_late rates p front r i (into_of ways i) (onto_of ways i) kept many few within (subst (λ (w : OnTheWay). p.until < w.departure) taken_is late)

-- two that agree are the same
same_way : (w v : OnTheWay) → w.halt ≡ v.halt → w.departure ≡ v.departure → w.busy_time ≡ v.busy_time → w ≡ v
same_way w v h d b =
    ap {B = OnTheWay} (λ (x : Option NodeNo). record { halt = x; departure = w.departure; busy_time = w.busy_time }) h
    ∙ ap {B = OnTheWay} (λ (x : ℕ). record { halt = v.halt; departure = x; busy_time = w.busy_time }) d
    ∙ ap {B = OnTheWay} (λ (x : ℕ). record { halt = v.halt; departure = v.departure; busy_time = x }) b

-- where a vehicle turns to the riders from its front
pub turns_first : (rates : Rates) (p : Plan) (front : Front) (i : ℕ) (start : Start) (w : OnTheWay) → i ≡ 0 → start.node ≡ (started (pair i i) front p).place → start.departure ≡ (started (pair i i) front p).departure
    → start.halt ≡ (started (pair i i) front p).halt → w.halt ≡ cond start.halt (Some start.node) None → w.departure ≡ start.departure → w.busy_time ≡ front.offset → w ≡ starting rates p front i
turns_first rates p front zero start w e node left halts h d b = same_way w (starting rates p front 0) (h ∙ rw (node, halts) refl) (d ∙ left) b
turns_first rates p front (suc i) start w e node left halts h d b = absurd (omega arith)

-- and from a later stop
pub turns_later : (rates : Rates) (p : Plan) (front : Front) (i : ℕ) (w : OnTheWay) → (i ≡ 0 → ⊥) → w.halt ≡ halt_at (course_of p) i → w.departure ≡ departs rates.stop (course_of p) i → w.busy_time ≡ 0 → w ≡ starting rates p front i
turns_later rates p front zero w not h d b = absurd (not refl)
turns_later rates p front (suc i) w not h d b =
    let old = started_behind p front (suc i) (suc i) (omega arith) in
    same_way w (starting rates p front (suc i)) (h ∙ ap (λ (c : Course). halt_at c (suc i)) (sym old)) (d ∙ ap (λ (c : Course). departs rates.stop c (suc i)) (sym old)) (b ∙ rw (ne_eqb (suc i) 0 (λ e. omega arith)) refl)

-- where a vehicle starts whose pickup goes first
pub from_start : (start : Start) (p : Plan) (front : Front) → start.node ≡ (started (pair 0 0) front p).place → start.departure ≡ (started (pair 0 0) front p).departure → start.halt ≡ (started (pair 0 0) front p).halt → course_from start p ≡ old_course p front (pair 0 0)
from_start start p front node left halt = rw (node, left, halt) refl

pub rows_from : (rates : Rates) (p : Plan) (front : Front) (start : Start) (items rows : List Behind) → start.node ≡ (started (pair 0 0) front p).place → start.departure ≡ (started (pair 0 0) front p).departure → start.halt ≡ (started (pair 0 0) front p).halt
    → AreBehind rates.stop p.until (course_from start p) items → rows ≡ items → AreBehind rates.stop p.until (old_course p front (pair 0 0)) rows
rows_from rates p front start items rows node left halt are e =
    subst (λ (l : List Behind). AreBehind rates.stop p.until (old_course p front (pair 0 0)) l) (sym e) (subst (λ (c : Course). AreBehind rates.stop p.until c items) (from_start start p front node left halt) are)
