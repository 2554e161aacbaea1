use Rattle.std.specs.Prelude.{◌≡◌, ℕ, ◌+◌, ◌≤◌, ◌^◌, List, length, true}
use Rattle.stop_schedule.specs.declared.request.Request.{Request}
use Rattle.stop_schedule.specs.declared.stop.Front.{Front}
use Rattle.stop_schedule.specs.declared.stop.Insertion.{Insertion}
use Rattle.stop_schedule.specs.Keeping.{is_feasible}
use Rattle.stop_schedule.specs.Lists.{new_course}
use Rattle.stop_schedule.specs.Plans.{Plan}
use Rattle.stop_schedule.specs.Rates.{Rates}
use Rattle.stop_schedule.specs.Times.{departs, arrives}
use Rattle.insertion_cost.specs.declared.driving.Drive.{Drive}
use Rattle.insertion_cost.specs.Prices.{busy_time}

-- the insertion is feasible, and these are the busy_time and the times of its new list
pub record IsDriven (rates : Rates) (p : Plan) (front : Front) (r : Request) (at : Insertion) (lengths : List ℕ) (d : Drive) : Type 0 where
  pub few : length p.stops ≤ 62
  pub feasible : is_feasible rates p front r at lengths ≡ true
  pub busy_time : d.busy_time ≡ busy_time rates.stop (new_course p front r at lengths)
  pub leave : d.leave ≡ departs rates.stop (new_course p front r at lengths) (at.i + 1)
  pub arrive : d.arrive ≡ arrives rates.stop (new_course p front r at lengths) (at.j + 2)
  pub short : d.busy_time ≤ 2 ^ 40
  pub soon_left : d.leave ≤ 2 ^ 40
  pub soon_reached : d.arrive ≤ 2 ^ 40
