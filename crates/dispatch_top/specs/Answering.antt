use Rattle.std.specs.Prelude.{◌≡◌, ℕ, ◌+◌, ◌*◌, ◌<◌, ◌≤◌, ◌^◌, ◌++◌, List, length, Option, Some, None}
use Rattle.ride_base.specs.declared.numbers.RequestNo.{RequestNo}
use Rattle.road_graph.specs.Roads.{Roads}
use Rattle.stop_schedule.specs.declared.request.Request.{Request}
use Rattle.stop_schedule.specs.Fleets.{IsGoodFleet}
use Rattle.insertion_cost.specs.declared.decision.Decision.{Decision}
use Rattle.board_core.specs.declared.entry.Entry.{Entry}
use Rattle.board_core.specs.declared.entry.Entry.TheVariants.{Commit}
use Rattle.board_core.specs.declared.waiting.Waiting.{Waiting}
use Rattle.board_core.specs.Boards.{Board}
use Rattle.board_core.specs.Histories.{Legal, Event, events_in, AreAnsweredAtOnce}
use Rattle.board_core.specs.Laws.{HasEarlyMoves}
use Rattle.board_core.specs.Steps.{Step}
use Rattle.journal_text.specs.Groups.{group, journal_of}
use Rattle.dispatch_top.specs.declared.sums.Sums.{Sums}
use Rattle.dispatch_top.specs.Sums.{AreFew, counted, counted_on}

-- What is answered on a board over a graph.

-- a request that waits, and that no desk holds
abbrev pub as_waiting : Request → Waiting
as_waiting r = record { request = r; holder = None }

-- the board is ready for an event over a graph: it has its nodes, its fleet is good over it, and it is far from its last version
pub record IsReady (g : Roads) (b : Board) : Type 0 where
  pub nodes : b.nodes ≡ g.nodes
  pub good : IsGoodFleet g b.fleet
  pub early : b.fleet.version < 2 ^ 61

-- An entry's lines came behind a text, and it was counted.
pub record IsTold (e : Entry) (text text' : List ℕ) (sums sums' : Sums) : Type 0 where
  pub rendered : text' ≡ text ++ group e
  pub counts : sums' ≡ counted e sums
  pub few : (n : ℕ) → AreFew n sums → AreFew (n + 1) sums'

-- The request of a number got its answer, and that was told.
pub record IsCommitted (g : Roads) (old : Board) (number : RequestNo) (new : Board) (text text' : List ℕ) (sums sums' : Sums) : Type 0 where
  pub decision : Decision
  pub step : Step g old (Commit number decision) new
  pub told : IsTold (Commit number decision) text text' sums sums'
  pub small : AreFew new.fleet.version sums'

-- These events were answered: their entries are lawful one after another from the old board on and leave the new one, each request that
-- was accepted has its answer at once, the text is the lines of the entries, and they were counted.
pub record AreAnswered (g : Roads) (old : Board) (events : List Event) (new : Board) (text : List ℕ) (sums sums' : Sums) : Type 0 where
  pub entries : List Entry
  pub legal : Legal g old entries new
  pub asked : events_in entries ≡ events
  pub at_once : AreAnsweredAtOnce entries
  pub early : HasEarlyMoves entries
  pub rendered : text ≡ journal_of entries
  pub counts : sums' ≡ counted_on sums entries
  pub small : AreFew new.fleet.version sums'
  pub nodes : new.nodes ≡ old.nodes
  pub few : new.fleet.version ≤ old.fleet.version + 2 * length events

-- the answer that an entry tells
abbrev pub answer_told : Entry → Option Decision
answer_told (Commit number decision) = Some decision
answer_told entry = None
