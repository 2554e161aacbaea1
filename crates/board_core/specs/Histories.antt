use Rattle.std.specs.Prelude.{◌≡◌, ℕ, List, [], ◌∷◌}
use Rattle.ride_base.specs.declared.numbers.RequestNo.{RequestNo}
use Rattle.road_graph.specs.Roads.{Roads}
use Rattle.stop_schedule.specs.declared.request.Request.{Request}
use Rattle.board_core.specs.declared.entry.Submitted.TheVariants.{Accepted, Refused}
use Rattle.board_core.specs.declared.entry.Entry.{Entry}
use Rattle.board_core.specs.declared.entry.Entry.TheVariants.{Submit, Claim, Back, Commit, Advance, Cancel, Shut}
use Rattle.board_core.specs.Boards.{Board}
use Rattle.board_core.specs.Steps.{Step}

-- The entries are lawful one after another from the first board on, over a graph with its number of nodes, and leave the last one.
abbrev pub Legal : Roads → Board → List Entry → Board → Type 0
Legal g first [] last = last ≡ first
Legal g first (e ∷ entries) last = (next : Board) × Step g first e next × Legal g next entries last

-- what comes to a board from outside: a request, a move of the clock, or that the riders of a number cancel
pub data Event : Type 0 where
  Ride : Request → Event
  Move : ℕ → Event
  Withdraw : RequestNo → Event

-- the events of a history, in order and without what became of them
abbrev pub events_in : List Entry → List Event
events_in [] = []
events_in (Submit r submitted ∷ entries) = Ride r ∷ events_in entries
events_in (Claim number desk ∷ entries) = events_in entries
events_in (Back number ∷ entries) = events_in entries
events_in (Commit number decision ∷ entries) = events_in entries
events_in (Advance now advanced ∷ entries) = Move now ∷ events_in entries
events_in (Cancel number cancelled ∷ entries) = Withdraw number ∷ events_in entries
events_in (Shut ∷ entries) = events_in entries

-- each request that is accepted has its answer at once, and there are nothing but submits, these answers, moves of the clock and
-- cancellations
abbrev pub AreAnsweredAtOnce : List Entry → Type 0
AreAnsweredAtOnce [] = Unit {0}
AreAnsweredAtOnce (Submit r Accepted ∷ Commit number decision ∷ entries) = (number ≡ r.no) × AreAnsweredAtOnce entries
AreAnsweredAtOnce (Submit r (Refused reason) ∷ entries) = AreAnsweredAtOnce entries
AreAnsweredAtOnce (Advance now advanced ∷ entries) = AreAnsweredAtOnce entries
AreAnsweredAtOnce (Cancel number cancelled ∷ entries) = AreAnsweredAtOnce entries
AreAnsweredAtOnce entries = ⊥
