use Rattle.std.specs.Prelude.{◌≡◌, ℕ, drop}
use Rattle.stop_schedule.specs.declared.stop.Start.{Start}
use Rattle.stop_schedule.specs.Plans.{Plan, of_parts}

-- a schedule starts there
pub record IsStartOf (p : Plan) (s : Start) : Type 0 where
  pub node : s.node ≡ p.place
  pub departure : s.departure ≡ p.departure
  pub halt : s.halt ≡ p.halt

-- the schedule that starts there, without its first k stops
abbrev pub left_from : Plan → Start → ℕ → Plan
left_from p s k = of_parts p s.node s.departure s.halt (drop k p.stops) (drop k p.legs)
