use Rattle.std.specs.Prelude.{ℕ, zero, suc, ◌+◌, List, [], ◌∷◌}
use Rattle.stop_schedule.specs.declared.request.Request.{Request}
use Rattle.input_tables.specs.declared.lines.StreamLine.{StreamLine}
use Rattle.input_tables.specs.declared.lines.StreamLine.TheVariants.{Ride, Move}
use Rattle.input_tables.specs.Streams.{request_of}
use Rattle.city_gen.specs.Draws.{next, after, draw}
use Rattle.city_gen.specs.Roads.{node_count}

-- The lines of a city's stream: for each request the clock moves on by a draw below 12, and then the
-- request is submitted at that moment.

abbrev pub ride_count : ℕ
ride_count = 500

-- the request of a number at a moment: its pickup and then its dropoff are drawn among the nodes,
-- and then one rider or two, on seats
abbrev pub drawn_ride : (number now : ℕ) → ℕ → Request
drawn_ride number now x =
    request_of number (1 + draw 1 node_count x) (1 + draw 2 node_count x) now (1 + draw 3 2 x) 0

-- the lines of so many requests, from this number on, behind a moment
unfoldable pub lines_from : (many number time : ℕ) → ℕ → List StreamLine
lines_from zero number time x = []
lines_from (suc many) number time x =
    Move (time + draw 1 12 x) ∷ Ride (drawn_ride number (time + draw 1 12 x) (next x))
    ∷ lines_from many (number + 1) (time + draw 1 12 x) (after 4 x)
