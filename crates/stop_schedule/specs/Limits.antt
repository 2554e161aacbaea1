use Rattle.std.specs.Prelude.{ℕ, ◌^◌}

-- the latest moment of a request, and the latest end of a service
abbrev pub latest_moment : ℕ
latest_moment = 2 ^ 40

-- the latest time of a front, and so the latest departure from the node where a list starts
abbrev pub latest_front : ℕ
latest_front = 2 ^ 41

-- every time and every limit of a schedule is before it
abbrev pub end_of_time : ℕ
end_of_time = 2 ^ 60

-- the most stops of a schedule
abbrev pub most_stops : ℕ
most_stops = 64

-- the most riders, on seats or in wheelchair spaces, who get on or off at one stop
abbrev pub most_riders : ℕ
most_riders = 16

-- the most vehicles of a fleet
abbrev pub most_vehicles : ℕ
most_vehicles = 65536
