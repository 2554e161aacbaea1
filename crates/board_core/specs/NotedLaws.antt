use Rattle.std.specs.Prelude.{◌≡◌, ℕ, true, false, List, ◌++◌, Some, slice_get}
use Rattle.ride_base.specs.declared.numbers.RequestNo.{RequestNo}
use Rattle.road_graph.specs.Roads.{Roads}
use Rattle.stop_schedule.specs.declared.request.Request.{Request}
use Rattle.board_core.specs.declared.entry.Entry.{Entry}
use Rattle.board_core.specs.declared.entry.Entry.TheVariants.{Claim, Shut}
use Rattle.board_core.specs.declared.waiting.Waiting.{Waiting}
use Rattle.board_core.specs.Boards.{Board, oldest_unheld, waiting_of}
use Rattle.board_core.specs.Histories.{Legal}
use Rattle.board_core.specs.NotedHistories.{LegalNoted, entries_in, ends_claim, holder_of, holds_claim}
use Rattle.board_core.specs.WaitingLaws.{AreFoundByNumber, HaveOwnNumbers}
use Rattle.board_core.specs.Steps.{Step}

-- Laws of histories, over every graph.

-- a legal history leaves one board alone
abbrev pub HistoriesLeaveOneBoard : Type 0
HistoriesLeaveOneBoard = (g : Roads) (first : Board) (history : List Entry) (last other : Board)
    → Legal g first history last → Legal g first history other → last ≡ other

-- it leaves requests of different numbers waiting, where such waited before
abbrev pub HistoriesKeepNumbersApart : Type 0
HistoriesKeepNumbersApart = (g : Roads) (first : Board) (history : List Entry) (last : Board)
    → Legal g first history last → HaveOwnNumbers first.waiting → HaveOwnNumbers last.waiting

-- a board that is closed was shut
abbrev pub ClosedBoardsWereShut : Type 0
ClosedBoardsWereShut = (g : Roads) (first : Board) (history : List Entry) (last : Board)
    → Legal g first history last → first.closed ≡ false → last.closed ≡ true
    → (k : ℕ) × (slice_get history k ≡ Some Shut)

-- ---- with the desks

-- the entries of a legal list are legal without their desks
abbrev pub NotedEntriesAreLegal : Type 0
NotedEntriesAreLegal = (g : Roads) (first : Board) (noted : List (ℕ × Entry)) (last : Board)
    → LegalNoted g first noted last → Legal g first (entries_in noted) last

-- a legal list that goes on where another one ends makes one with it
abbrev pub NotedHistoriesGoOn : Type 0
NotedHistoriesGoOn = (g : Roads) (first : Board) (noted more : List (ℕ × Entry)) (middle last : Board)
    → LegalNoted g first noted middle → LegalNoted g middle more last
    → LegalNoted g first (noted ++ more) last

-- a legal list is legal up to each of its entries, and from there on
abbrev pub NotedHistoriesComeInParts : Type 0
NotedHistoriesComeInParts = (g : Roads) (first : Board) (noted more : List (ℕ × Entry)) (last : Board)
    → LegalNoted g first (noted ++ more) last
    → (middle : Board) × LegalNoted g first noted middle × LegalNoted g middle more last

-- a claim gives the desk the oldest request that none held, where each that waits is found by its number
abbrev pub ClaimsAreHeld : Type 0
ClaimsAreHeld = (g : Roads) (old : Board) (w : Waiting) (desk : ℕ) (new : Board)
    → AreFoundByNumber old.waiting → oldest_unheld old ≡ Some w
    → Step g old (Claim w.request.no desk) new
    → waiting_of new w.request.no ≡ Some (record { request = w.request; holder = Some desk })

-- a request stays with the desk that holds it until one of that desk's own entries ends the claim
abbrev pub ClaimsStay : Type 0
ClaimsStay = (g : Roads) (first : Board) (noted : List (ℕ × Entry)) (last : Board) (r : Request)
    (desk : ℕ) → LegalNoted g first noted last → HaveOwnNumbers first.waiting
    → waiting_of first r.no ≡ Some (record { request = r; holder = Some desk })
    → ends_claim desk r.no noted ≡ false
    → waiting_of last r.no ≡ Some (record { request = r; holder = Some desk })

-- where a desk holds a request that waits, and held none at first, it holds its claim: the last of its own Claim, Back and Commit
-- entries on that number is a Claim
abbrev pub HoldersHoldClaims : Type 0
HoldersHoldClaims = (g : Roads) (first : Board) (noted : List (ℕ × Entry)) (last : Board)
    (desk : ℕ) (number : RequestNo) → LegalNoted g first noted last
    → (holder_of first number ≡ Some desk → ⊥) → holder_of last number ≡ Some desk
    → holds_claim desk number noted ≡ true
