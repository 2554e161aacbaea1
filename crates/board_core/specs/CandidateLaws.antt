use Rattle.std.specs.Prelude.{List, Option}
use Rattle.road_graph.specs.Graphs.{IsGraph}
use Rattle.road_graph.specs.Roads.{Roads}
use Rattle.stop_schedule.specs.declared.request.Request.{Request}
use Rattle.stop_schedule.specs.declared.vehicle.Vehicle.{Vehicle}
use Rattle.stop_schedule.specs.Bounds.{AreVehicles}
use Rattle.stop_schedule.specs.Fleets.{IsGoodFleet}
use Rattle.stop_schedule.specs.Rates.{Rates}
use Rattle.insertion_cost.specs.declared.candidates.Candidates.{Candidates}
use Rattle.insertion_cost.specs.declared.offer.Offer.{Offer}
use Rattle.insertion_cost.specs.Candidates.{AreSound, Counts, Settles}
use Rattle.insertion_cost.specs.Offers.{IsFirst, IsBestOrNone}
use Rattle.board_core.specs.declared.entry.Entry.{Entry}
use Rattle.board_core.specs.Boards.{Board, opening_board}
use Rattle.board_core.specs.Histories.{Legal}
use Rattle.board_core.specs.Steps.{Step}

-- Candidates that are sound for a good fleet stay so with each lawful entry.
abbrev pub EntriesKeepSoundness : Type 0
EntriesKeepSoundness = (g : Roads) (old : Board) (e : Entry) (new : Board)
    (r : Request) (c : Candidates) → IsGraph g → IsGoodFleet g old.fleet → Step g old e new
    → AreSound g old.fleet r c → AreSound g new.fleet r c

-- Those that are sound at a board of a legal history are sound after all entries that are lawful
-- from there on.
abbrev pub HistoriesKeepSoundness : Type 0
HistoriesKeepSoundness = (g : Roads) (rates : Rates) (vehicles : List Vehicle)
    (before after : List Entry) (board last : Board) (r : Request) (c : Candidates)
    → IsGraph g → AreVehicles g.nodes vehicles
    → Legal g (opening_board g.nodes rates vehicles) before board → Legal g board after last
    → AreSound g board.fleet r c → AreSound g last.fleet r c

-- Whatever entries came since, cancellations among them: where they settle, the first of the
-- offers that count is the best insertion of the fleet as it is then, and there is none where none
-- is feasible.
abbrev pub SoundOnesSettleLater : Type 0
SoundOnesSettleLater = (g : Roads) (rates : Rates) (vehicles : List Vehicle)
    (before after : List Entry) (board last : Board) (r : Request) (c : Candidates)
    (best : Option Offer) → IsGraph g → AreVehicles g.nodes vehicles
    → Legal g (opening_board g.nodes rates vehicles) before board → Legal g board after last
    → AreSound g board.fleet r c → Settles g last.fleet r c
    → IsFirst (Counts g last.fleet r c) best → IsBestOrNone g last.fleet r best
