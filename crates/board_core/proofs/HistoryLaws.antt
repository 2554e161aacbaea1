use Rattle.std.proofs.Common.{◌≡◌, List, ◌++◌}
use Rattle.road_graph.specs.Roads.{Roads}
use Rattle.stop_removal.proofs.RemovalLaws.{removals_keep_promises}
use Rattle.board_core.specs.declared.entry.Entry.{Entry}
use Rattle.board_core.specs.Boards.{Board}
use Rattle.board_core.specs.Histories.{Legal}
use Rattle.board_core.specs.Laws.{OpeningBoardsAreGood, EntriesLeaveGoodBoards, HistoriesLeaveGoodBoards, LegalHistoriesKeepPromises, PromisesAreDoneInTime, LegalHistoriesLeaveGoodFleets}
use Rattle.board_core.proofs.DoneInTime as done
use Rattle.board_core.proofs.GoodFleets as fleets
use Rattle.board_core.proofs.KeptPromises as kept
use Rattle.board_core.proofs.LegalHistories as legal

-- a history leads from a board to one board alone
pub legal_unique : (g : Roads) (first : Board) (entries : List Entry) (last other : Board) → Legal g first entries last → Legal g first entries other → last ≡ other
legal_unique = legal.legal_unique

-- a legal history is legal up to each of its entries and from there on
pub legal_split : (g : Roads) (first : Board) (front rest : List Entry) (last : Board) → Legal g first (front ++ rest) last → (b : Board) × Legal g first front b × Legal g b rest last
legal_split = legal.legal_split

-- a legal history that goes on where another one ends makes one with it
pub legal_append : (g : Roads) (first : Board) (front rest : List Entry) (middle last : Board) → Legal g first front middle → Legal g middle rest last → Legal g first (front ++ rest) last
legal_append = legal.legal_append

-- every legal history keeps its promises
pub promises_kept : LegalHistoriesKeepPromises
promises_kept = kept.law removals_keep_promises

-- what was promised for a moment before the clock has happened
pub promises_done : PromisesAreDoneInTime
promises_done = done.done removals_keep_promises

-- every legal history leaves a good fleet
pub good_fleets : LegalHistoriesLeaveGoodFleets
good_fleets = fleets.good_fleets removals_keep_promises

-- a board before any entry is good
pub opening_good : OpeningBoardsAreGood
opening_good = fleets.opening_good

-- each lawful entry leaves a good board good
pub entry_good : EntriesLeaveGoodBoards
entry_good = fleets.entry_good removals_keep_promises

-- so do lawful entries one after another
pub history_good : HistoriesLeaveGoodBoards
history_good = fleets.history_good removals_keep_promises
