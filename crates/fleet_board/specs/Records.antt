use Rattle.std.specs.Prelude.{◌≡◌, ℕ, ◌+◌, ◌≤◌, true, false, List, [], ◌∷◌, ◌++◌, length, None, Some}
use Rattle.road_graph.specs.Graphs.{IsGraph}
use Rattle.road_graph.specs.Roads.{Roads}
use Rattle.stop_schedule.specs.declared.request.Request.{Request}
use Rattle.stop_schedule.specs.Fleets.{Cars, Fitting, IsGoodFleet, IsGoodView}
use Rattle.insertion_cost.specs.declared.candidates.Candidates.{Candidates}
use Rattle.insertion_cost.specs.Candidates.{Settles, redone}
use Rattle.insertion_cost.specs.Pricers.{IsRequestIn}
use Rattle.board_core.specs.declared.entry.Entry.{Entry}
use Rattle.board_core.specs.declared.entry.Entry.TheVariants as entry
use Rattle.board_core.specs.BoardViews.{board_of}
use Rattle.board_core.specs.Boards.{Board, oldest_unheld, waiting_of}
use Rattle.board_core.specs.FleetViews.{cars_of}
use Rattle.board_core.specs.Laws.{IsEarlyMove}
use Rattle.board_core.specs.NotedHistories.{IsNotedBy, LegalNoted}
use Rattle.board_core.specs.Steps.{Step}
use Rattle.fleet_board.specs.declared.claims.Claim.{Claim}
use Rattle.fleet_board.specs.declared.claims.Claim.TheVariants.{Work, Empty}
use Rattle.fleet_board.specs.declared.claims.Claimed.{Claimed}
use Rattle.fleet_board.specs.declared.recorded.RecordedBoard.{RecordedBoard}
use Rattle.fleet_board.specs.Journals.{owed_on}
use Rattle.fleet_board.specs.Openings.{IsOpening, Opening}

-- What lies under the lock: a board with its journal, and what each call does to them in its turn.

-- what a lawful entry leaves behind a list, from an opening
pub record HasGoneOn (o : Opening) (noted : List (ℕ × Entry)) (new : Board) : Type 0 where
  pub legal : LegalNoted o.graph o.board noted new
  pub nodes : o.graph.nodes ≡ new.nodes
  pub version : new.fleet.version ≡ length noted
  pub good : IsGoodFleet o.graph new.fleet

-- the request waits, and the desk holds it
abbrev pub IsHeldBy : Board → (desk : ℕ) → Request → Type 0
IsHeldBy b desk r = waiting_of b r.no ≡ Some (record { request = r; holder = Some desk })

module _ {I : Type 0} where
  -- the journal is a legal list from an opening, and the board is the one that it leaves; the fleet is good, and what is owed has room
  pub record IsRecordOf (fits : I → Fitting) (o : Opening) (v : RecordedBoard I) : Type 0 where
    pub graph : IsGraph o.graph
    pub opening : IsOpening o
    pub legal : LegalNoted o.graph o.board v.journal.noted (board_of v.board)
    pub nodes : o.graph.nodes ≡ v.board.nodes
    pub version : v.board.fleet.version ≡ length v.journal.noted
    pub good : IsGoodView (fits v.board.fleet.index) o.graph (board_of v.board).fleet
    pub owed : owed_on (board_of v.board) ≤ v.journal.owed

  abbrev pub IsRecord : (I → Fitting) → RecordedBoard I → Type 0
  IsRecord fits v = (o : Opening) × IsRecordOf fits o v

  -- a desk noted an entry
  pub record HasNoted (fits : I → Fitting) (o : Opening) (old : RecordedBoard I) (desk : ℕ) (e : Entry) (new : RecordedBoard I) : Type 0 where
    pub of : IsRecordOf fits o new
    pub noted : new.journal.noted ≡ old.journal.noted ++ (desk, e) ∷ []
    pub step : Step o.graph (board_of old.board) e (board_of new.board)

  -- no entry was noted
  pub record HasStayed (fits : I → Fitting) (o : Opening) (old new : RecordedBoard I) : Type 0 where
    pub of : IsRecordOf fits o new
    pub noted : new.journal.noted ≡ old.journal.noted
    pub board : board_of new.board ≡ board_of old.board

  -- whatever the opening
  abbrev pub NotesOn : (I → Fitting) → RecordedBoard I → ℕ → Entry → RecordedBoard I → Type 0
  NotesOn fits old desk e new = (o : Opening) → IsRecordOf fits o old → HasNoted fits o old desk e new

  abbrev pub StaysOn : (I → Fitting) → RecordedBoard I → RecordedBoard I → Type 0
  StaysOn fits old new = (o : Opening) → IsRecordOf fits o old → HasStayed fits o old new

  -- over one graph
  abbrev pub NotesOver : (I → Fitting) → Roads → RecordedBoard I → ℕ → Entry → RecordedBoard I → Type 0
  NotesOver fits g old desk e new = (o : Opening) → o.graph ≡ g → IsRecordOf fits o old → HasNoted fits o old desk e new

  -- an open board is closed by an entry, and a closed one stays
  pub record ShutsOn (fits : I → Fitting) (old : RecordedBoard I) (desk : ℕ) (new : RecordedBoard I) : Type 0 where
    pub opened : (board_of old.board).closed ≡ false → NotesOn fits old desk entry.Shut new
    pub closed : (board_of old.board).closed ≡ true → StaysOn fits old new

  abbrev pub GoesOn : (I → Fitting) → RecordedBoard I → Type 0
  GoesOn fits v = (o : Opening) (desk : ℕ) (e : Entry) (new : Board) → IsRecordOf fits o v → IsEarlyMove e
      → IsNotedBy (board_of v.board) desk e → Step o.graph (board_of v.board) e new
      → HasGoneOn o (v.journal.noted ++ (desk, e) ∷ []) new

  -- ---- claims

  -- the desk holds the request, the fleet is the board's, and it can be priced over a graph
  pub record IsFreshClaim (fits : I → Fitting) (g : Roads) (b : Board) (desk : ℕ) (claimed : Claimed I) : Type 0 where
    pub held : IsHeldBy b desk claimed.request
    pub fleet : cars_of claimed.snapshot ≡ b.fleet
    pub good : IsGoodView (fits claimed.snapshot.index) g (cars_of claimed.snapshot)
    pub asked : IsRequestIn g claimed.request

  abbrev pub ClaimsOn : (I → Fitting) → RecordedBoard I → ℕ → Claim I → RecordedBoard I → Type 0
  ClaimsOn fits old desk (Work claimed) new = (o : Opening) → IsRecordOf fits o old
      → HasNoted fits o old desk (entry.Claim claimed.request.no desk) new
      × IsFreshClaim fits o.graph (board_of new.board) desk claimed
  ClaimsOn fits old desk (Empty closed) new = (o : Opening) → IsRecordOf fits o old
      → HasStayed fits o old new × (oldest_unheld (board_of new.board) ≡ None)
      × (closed ≡ (board_of new.board).closed)

-- how much an answer asks for, on the fleet that it finds
pub record AsksFor (g : Roads) (fleet : Cars) (r : Request) (c : Candidates) (old new : ℕ) : Type 0 where
  pub few : Settles g fleet r c → new ≤ old + redone fleet c + 2
  pub most : new ≤ old + redone fleet c + length fleet.cars + 2
  pub kept : old ≤ new
