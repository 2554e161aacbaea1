use Rattle.std.specs.Prelude.{◌≡◌, ℕ, ◌+◌, ◌++◌, List, [], ◌∷◌, Result, Ok, Err, codes, refl}
use Rattle.ride_base.specs.Pieces.{Piece, Whole, TooLong, TooLarge, pieces, largest_text}
use Rattle.stop_schedule.specs.Samples.{ride}
use Rattle.input_tables.specs.declared.faults.StreamFault.{StreamFault}
use Rattle.input_tables.specs.declared.lines.StreamLine.{StreamLine}
use Rattle.input_tables.specs.declared.lines.StreamLine.TheVariants as line
use Rattle.input_tables.specs.Streams.{stream_line_of}
use Rattle.board_core.specs.Histories.{Event, Ride, Move, Withdraw}

-- What a stream says: its events, and how far they go. Whether a board refuses an event is no matter of the stream.

pub data StreamEnd : Type 0 where
  -- at the end of the text
  AtEnd : StreamEnd
  -- at the first bad line, of this number
  AtBad : ℕ → StreamEnd

pub record Events : Type 0 where
  pub events : List Event
  pub ends : StreamEnd

abbrev pub no_more : StreamEnd → Events
no_more end = record { events = []; ends = end }

-- events, and then those of what follows
abbrev pub onto : List Event → Events → Events
onto done rest = record { events = done ++ rest.events; ends = rest.ends }

-- the events of one line: one, or none
abbrev pub events_said : StreamLine → List Event
events_said (line.Ride r) = Ride r ∷ []
events_said (line.Move now) = Move now ∷ []
events_said (line.Cancel number) = Withdraw number ∷ []
events_said line.Nothing = []

-- the events from a line on that says this
abbrev pub from_line : (line : ℕ) → Result StreamLine StreamFault → (rest : Events) → Events
from_line line (Ok said) rest = onto (events_said said) rest
from_line line (Err fault) rest = no_more (AtBad line)

-- the events of the pieces of a text from line number `line` on
abbrev pub events_from : (line : ℕ) → List Piece → Events
events_from line [] = no_more AtEnd
events_from line (Whole bytes ∷ more) = from_line line (stream_line_of bytes) (events_from (line + 1) more)
events_from line (TooLong ∷ more) = no_more (AtBad line)
events_from line (TooLarge ∷ more) = no_more (AtBad line)

-- the events of a text
abbrev pub events_of : List ℕ → Events
events_of text = events_from 1 (pieces largest_text text)

abbrev ended : List ℕ → List ℕ
ended text = text ++ 10 ∷ []

one_of_each : events_of (ended (codes "r 1 2 4 0 1") ++ ended (codes "c") ++ ended (codes "t 5") ++ codes " y  1") ≡ record { events = Ride (ride 1 2 4 0 1) ∷ Move 5 ∷ Withdraw (record { 0 = 1 }) ∷ []; ends = AtEnd }
one_of_each = refl

-- what a board refuses is an event: a number that came before, no riders, a moment behind the clock
refused_ones : events_of (ended (codes "t 5") ++ ended (codes "r 1 2 4 9 1") ++ ended (codes "r 1 2 4 0 0") ++ codes "t 3") ≡ record { events = Move 5 ∷ Ride (ride 1 2 4 9 1) ∷ Ride (ride 1 2 4 0 0) ∷ Move 3 ∷ []; ends = AtEnd }
refused_ones = refl

in_a_chair : events_of (codes "r 1 2 4 0 0 1") ≡ record { events = Ride (record (ride 1 2 4 0 0) { spaces = 1 }) ∷ []; ends = AtEnd }
in_a_chair = refl

bad_line : events_of (ended (codes "r 1 2 4 0 1") ++ ended [] ++ ended (codes "q") ++ codes "t 5") ≡ record { events = Ride (ride 1 2 4 0 1) ∷ []; ends = AtBad 3 }
bad_line = refl

no_moment : events_of (ended (codes "t") ++ codes "t 5") ≡ no_more (AtBad 1)
no_moment = refl

no_lines : events_of [] ≡ no_more AtEnd
no_lines = refl
