use Rattle.std.specs.Prelude.{◌≡◌, ℕ, ◌++◌, List, map, Option}
use Rattle.ride_base.specs.Pieces.{Whole, ended_lines, largest_text}
use Rattle.ride_base.specs.Prefixes.{IsReadTo}
use Rattle.road_graph.specs.Roads.{Roads}
use Rattle.stop_schedule.specs.declared.vehicle.Vehicle.{Vehicle}
use Rattle.stop_schedule.specs.Rates.{Rates}
use Rattle.board_core.specs.declared.entry.Entry.{Entry}
use Rattle.board_core.specs.Boards.{Board, opening_board}
use Rattle.board_core.specs.Histories.{Legal, Event, events_in, AreAnsweredAtOnce}
use Rattle.board_core.specs.Promises.{KeepsPromises}
use Rattle.journal_text.specs.Groups.{journal_of}
use Rattle.dispatch_top.specs.Streams.{StreamEnd, AtEnd, events_from, events_of}

-- What was printed of a stream.

-- These bytes are the lines of one legal history over a graph, from the opening board of these vehicles on: these events came in
-- order, each request that was accepted was answered at once, and each promise is kept in every prefix of the history.
pub record IsHistoryOf (roads : Roads) (rates : Rates) (vehicles : List Vehicle) (events : List Event) (printed : List ℕ) : Type 0 where
  pub history : List Entry
  pub last : Board
  pub legal : Legal roads (opening_board roads.nodes rates vehicles) history last
  pub asked : events_in history ≡ events
  pub at_once : AreAnsweredAtOnce history
  pub kept : KeepsPromises roads (opening_board roads.nodes rates vehicles) history
  pub rendered : printed ≡ journal_of history

-- what the text of a stream, where it is told, says
abbrev pub Telling : Type 1
Telling = (List ℕ → Type 0) → Type 0

-- what was answered and printed
abbrev pub Account : Type 1
Account = List Event → List ℕ → Type 0

-- There is an account of events, of which so much is so, and so much of its lines was taken.
pub record AreAnsweredAs (IsAccount : Account) (AreAsked : List Event → Type 0) (Taken : List ℕ → Type 0) : Type 0 where
  pub events : List Event
  pub printed : List ℕ
  pub said : AreAsked events
  pub account : IsAccount events printed
  pub took : Taken printed

-- all events of a stream up to this end
abbrev pub EndsAt : Account → StreamEnd → (Says : Telling) → (Taken : List ℕ → Type 0) → Type 0
EndsAt IsAccount end Says Taken = AreAnsweredAs IsAccount (λ events. Says (λ text. events_of text ≡ record { events = events; ends = end })) Taken

-- the first events of a stream
abbrev pub EndsEarly : Account → (Says : Telling) → (Taken : List ℕ → Type 0) → Type 0
EndsEarly IsAccount Says Taken = AreAnsweredAs IsAccount (λ events. Says (λ text. (more : List Event) × ((events_of text).events ≡ events ++ more))) Taken

-- the events of exactly those lines that a line end ends among the bytes that were read, where so much is left
pub record AreEventsRead (text : List ℕ) (left : Option (List ℕ)) (events : List Event) : Type 0 where
  pub read_to : IsReadTo largest_text text left
  pub are : events_from 1 (map Whole (ended_lines read_to.read)) ≡ record { events = events; ends = AtEnd }

abbrev pub EndsUnread : Account → (Says : Telling) → (left : Option (List ℕ)) → (Taken : List ℕ → Type 0) → Type 0
EndsUnread IsAccount Says left Taken = AreAnsweredAs IsAccount (λ events. Says (λ text. AreEventsRead text left events)) Taken
