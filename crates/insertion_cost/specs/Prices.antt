use Rattle.std.specs.Prelude.{ℕ, ◌+◌, ◌-◌, ◌*◌, max, cond, List, length, Option, Some, None, sum}
use Rattle.stop_schedule.specs.declared.request.Request.{Request}
use Rattle.stop_schedule.specs.declared.stop.Front.{Front}
use Rattle.stop_schedule.specs.declared.stop.Insertion.{Insertion}
use Rattle.stop_schedule.specs.declared.stop.Promise.{Promise}
use Rattle.stop_schedule.specs.Rates.{Rates, trip_limit}
use Rattle.stop_schedule.specs.Plans.{Plan, Course}
use Rattle.stop_schedule.specs.Times.{departs, arrives, stop_times}
use Rattle.stop_schedule.specs.Lists.{new_course, old_course, start_of}
use Rattle.stop_schedule.specs.Keeping.{is_feasible}

-- what an insertion comes to: its cost, when the pickup is left and when the dropoff is reached
pub record Price : Type 0 where
  pub cost : ℕ
  pub leave : ℕ
  pub arrive : ℕ

-- the driving and the stop time along all legs of a course
abbrev pub busy_time : ℕ → Course → ℕ
busy_time stop c = sum c.lengths + stop_times stop c (length c.stops)

-- What the new list takes more than the old one, both from where the new one starts. What is driven of the first leg up to the
-- front, where the new list starts there, is part of the old legs, and so it is added to the new ones. It is cut at 0.
abbrev pub detour : Rates → Plan → Front → Insertion → Course → ℕ
detour rates p front at new = start_of at front.offset 0 + busy_time rates.stop new - busy_time rates.stop (old_course p front at)

-- The pickup is stop i + 1 of the new list, and the dropoff stop j + 2. Waiting past the wait limit counts with its weight, and so
-- does the trip past its limit.
abbrev pub price_of : Rates → Plan → Front → Request → Insertion → ℕ → Course → Price
price_of rates p front r at direct new =
    let leave = departs rates.stop new (at.i + 1) in
    let arrive = arrives rates.stop new (at.j + 2) in
    record {
      cost = detour rates p front at new + rates.wait_weight * (leave - (r.moment + rates.wait)) + rates.trip_weight * (arrive - (r.moment + trip_limit rates direct));
      leave = leave;
      arrive = arrive;
    }

-- the price of an insertion where the changed legs have these lengths and the direct way that one, where it is feasible
abbrev pub priced : Rates → Plan → Front → Request → Insertion → ℕ → List ℕ → Option Price
priced rates p front r at direct lengths =
    cond (is_feasible rates p front r at lengths) (Some (price_of rates p front r at direct (new_course p front r at lengths))) None

-- The price of an insertion that has these times. Its cost isn't told, since no promise hangs on it.
abbrev pub planned : ℕ → ℕ → Price
planned leave arrive = record { cost = 0; leave = leave; arrive = arrive }

-- What the riders of a request are promised when they are taken: the latest pickup and arrival, and the planned ones where these
-- are later.
abbrev pub promise_of : Rates → Request → ℕ → Price → Promise
promise_of rates r direct price = record {
  pickup = max (r.moment + rates.wait) price.leave;
  arrival = max (r.moment + trip_limit rates direct) price.arrive;
}
