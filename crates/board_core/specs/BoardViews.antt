use Rattle.std.specs.Prelude.{◌≡◌, ℕ, Option, Some, None, IsSome}
use Rattle.ride_base.specs.declared.numbers.RequestNo.{RequestNo}
use Rattle.road_graph.specs.Roads.{Roads}
use Rattle.stop_schedule.specs.declared.request.Request.{Request}
use Rattle.board_core.specs.declared.entry.Entry.{Entry}
use Rattle.board_core.specs.declared.entry.Entry.TheVariants.{Claim}
use Rattle.board_core.specs.Boards.{Board, Waiting, waiting_of, oldest_unheld}
use Rattle.board_core.specs.Steps.{Step}
pub use Rattle.board_core.specs.BoardKept.{board_of}

abbrev pub request_of : Waiting → Request
request_of w = w.request

-- the entry is lawful and leads from one board to the other, over every graph with their number of nodes
abbrev pub Enters : Board → Entry → Board → Type 0
Enters old e new = (g : Roads) → Step g old e new

-- the request of a number waits, and a desk holds it
abbrev pub IsHeld : Board → RequestNo → Type 0
IsHeld b number = (w : Waiting) × (waiting_of b number ≡ Some w) × IsSome w.holder

-- a desk got the oldest request that none held, or there was none and nothing changed
abbrev pub IsClaimed : Board → ℕ → Option Request → Board → Type 0
IsClaimed old desk None new = (oldest_unheld old ≡ None) × (new ≡ old)
IsClaimed old desk (Some r) new = (w : Waiting) × (oldest_unheld old ≡ Some w) × (w.request ≡ r) × Enters old (Claim r.no desk) new
