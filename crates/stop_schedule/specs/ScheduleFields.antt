use Rattle.stop_schedule.specs.declared.schedule.Schedule.TheInside.{Inside}
use Rattle.stop_schedule.specs.Plans.{Plan}

-- a schedule as its fields have it
abbrev pub plan_in : Inside → Plan
plan_in s = record { seats = s.seats; spaces = s.spaces; until = s.until; place = s.place; departure = s.departure; halt = s.halt; stops = s.stops; legs = s.legs }

-- the fields that have it
abbrev pub fields_of : Plan → Inside
fields_of p = record { seats = p.seats; spaces = p.spaces; until = p.until; place = p.place; departure = p.departure; halt = p.halt; stops = p.stops; legs = p.legs }
