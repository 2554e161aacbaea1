use Rattle.std.specs.Prelude.{◌≡◌, ◌⊎◌, ℕ, All, true, false, List, [], ◌∷◌, ◌++◌, map, None, Some}
use Rattle.road_graph.specs.Roads.{Roads}
use Rattle.stop_schedule.specs.declared.request.Request.{Request}
use Rattle.stop_schedule.specs.Fleets.{Fitting, IsGoodView}
use Rattle.insertion_cost.specs.declared.candidates.Candidates.{Candidates}
use Rattle.insertion_cost.specs.declared.decision.Decision.{Decision}
use Rattle.turn_lock.specs.Desks.{DeskState, KeepsOthers, LockState, fresh_desks, own}
use Rattle.turn_lock.specs.Noted.{Begins, InFamily}
use Rattle.board_core.specs.declared.entry.Entry.{Entry}
use Rattle.board_core.specs.declared.entry.Entry.TheVariants as entry
use Rattle.board_core.specs.declared.fleet.Fleet.{Fleet}
use Rattle.board_core.specs.BoardCalls.{IsDecisionFor}
use Rattle.board_core.specs.BoardKept.{WithIndex}
use Rattle.board_core.specs.BoardViews.{board_of}
use Rattle.board_core.specs.Boards.{Board, oldest_unheld}
use Rattle.board_core.specs.FleetViews.{cars_of}
use Rattle.board_core.specs.NotedHistories.{LegalNoted, ends_claim}
use Rattle.board_core.specs.Steps.{Step}
use Rattle.fleet_board.specs.declared.claims.Claim.{Claim}
use Rattle.fleet_board.specs.declared.claims.Claim.TheVariants.{Work, Empty}
use Rattle.fleet_board.specs.declared.claims.Claimed.{Claimed}
use Rattle.fleet_board.specs.declared.journal.Noted.{Noted}
use Rattle.fleet_board.specs.Journals.{pair_of}
use Rattle.fleet_board.specs.Openings.{Opening}
use Rattle.fleet_board.specs.Records.{AsksFor, IsFreshClaim, IsHeldBy}

-- What a desk has seen before and after its calls.

abbrev pub Lock : Type 0
Lock = LockState Opening

abbrev pub DeskNow : Type 0
DeskNow = DeskState Entry Opening

-- the list is legal from the lock's opening, and leaves this board
abbrev pub LeadsTo : Lock → List (ℕ × Entry) → Board → Type 0
LeadsTo lock noted b = LegalNoted lock.origin.graph lock.origin.board noted b

-- A desk of a shared board over a graph: it is of its lock, whose history is over that graph, and what it has seen is legal.
pub record IsDeskOf (g : Roads) (lock : Lock) (desk : DeskNow) : Type 0 where
  pub of_lock : desk.lock ≡ Some lock
  pub graph : lock.origin.graph ≡ g
  pub legal : (b : Board) × LeadsTo lock desk.seen b

-- A call that made no entry: the desk has seen a list that begins with what it had seen, and that leaves this board. Its own entries are
-- as before, and so are those of the other desks of its family.
pub record SeesAt (lock : Lock) (old new : DeskNow) (b : Board) : Type 0 where
  pub desk : new ≡ record old { seen = new.seen }
  pub begins : Begins old.seen new.seen
  pub own : own new ≡ own old
  pub others : KeepsOthers old new
  pub legal : LeadsTo lock new.seen b

abbrev pub Sees : Lock → DeskNow → DeskNow → Type 0
Sees lock old new = (b : Board) × SeesAt lock old new b

-- A call that made an entry: the desk found a list that begins with what it had seen, and has seen that list with its entry at the end,
-- which is lawful on the board of the list and leads to the next one. Its own entries have that one more, and those of the other desks
-- of its family are as before.
pub record NotesAt (lock : Lock) (old new : DeskNow) (e : Entry) (before after : Board) : Type 0 where
  pub desk : new ≡ record old { seen = new.seen }
  pub found : List (ℕ × Entry)
  pub begins : Begins old.seen found
  pub seen : new.seen ≡ found ++ (old.number, e) ∷ []
  pub own : own new ≡ own old ++ e ∷ []
  pub others : KeepsOthers old new
  pub led : LeadsTo lock found before
  pub step : Step lock.origin.graph before e after
  pub legal : LeadsTo lock new.seen after

abbrev pub Notes : Lock → DeskNow → DeskNow → Entry → Type 0
Notes lock old new e = (before : Board) × (after : Board) × NotesAt lock old new e before after

-- an open board is closed, by an entry; on a closed one there is none
abbrev pub Shuts : Lock → DeskNow → DeskNow → Type 0
Shuts lock old new = Notes lock old new entry.Shut
    ⊎ ((b : Board) × SeesAt lock old new b × (b.closed ≡ true))

module _ {I : Type 0} where
  -- A claim as a call of this desk gave it: on the board of a beginning of what the desk has seen the request waits, the desk holds it,
  -- and the fleet is the snapshot; and none of the desk's own entries since then ends the claim.
  pub record IsClaimedBy (lock : Lock) (desk : DeskNow) (claimed : Claimed I) : Type 0 where
    pub before : List (ℕ × Entry)
    pub since : List (ℕ × Entry)
    pub board : Board
    pub parts : desk.seen ≡ before ++ since
    pub legal : LeadsTo lock before board
    pub held : IsHeldBy board desk.number claimed.request
    pub fleet : cars_of claimed.snapshot ≡ board.fleet
    pub stays : ends_claim desk.number claimed.request.no since ≡ false

  -- The desk holds the request that was the oldest one without a holder, with the fleet of the board of what it has seen; or there was
  -- none, and it is told whether that board is closed.
  abbrev pub Claims : (I → Fitting) → Roads → Lock → DeskNow → Claim I → DeskNow → Type 0
  Claims fits g lock old (Work claimed) new = (before : Board) × (after : Board)
      × NotesAt lock old new (entry.Claim claimed.request.no old.number) before after
      × IsFreshClaim fits g after old.number claimed
      × IsClaimedBy lock new claimed
  Claims fits g lock old (Empty closed) new = (b : Board) × SeesAt lock old new b
      × (oldest_unheld b ≡ None) × (closed ≡ b.closed)

  -- the fleet of the board of what the desk has seen, and it is good
  abbrev pub Looks : (I → Fitting) → Roads → Lock → DeskNow → Fleet I → DeskNow → Type 0
  Looks fits g lock old fleet new = (b : Board) × SeesAt lock old new b
      × (cars_of fleet ≡ b.fleet) × IsGoodView (fits fleet.index) g (cars_of fleet)

-- The answer is the best insertion of the fleet that the call found, or nobody where none is feasible; and the call asked for what it
-- has to price anew.
abbrev pub Commits : Roads → Lock → DeskNow → Request → Candidates → Decision → (old_asks new_asks : ℕ) → DeskNow → Type 0
Commits g lock old r c d old_asks new_asks new = (before : Board) × (after : Board)
    × NotesAt lock old new (entry.Commit r.no d) before after
    × IsDecisionFor g before.fleet r d × AsksFor g before.fleet r c old_asks new_asks

-- no answer was made, for want of memory, and no more asked for
abbrev pub StaysUndecided : Roads → Lock → DeskNow → Request → Candidates → (old_asks new_asks : ℕ) → DeskNow → Type 0
StaysUndecided g lock old r c old_asks new_asks new = (b : Board) × SeesAt lock old new b
    × AsksFor g b.fleet r c old_asks new_asks

-- ---- how a shared board begins and ends

-- a lock of so many desks round a board before any entry, over a graph, and its desks
pub record AreOpened (b : Board) (g : Roads) (desks : ℕ) (lock : Lock) (row : List DeskNow) : Type 0 where
  pub many : lock.desks ≡ desks
  pub board : lock.origin.board ≡ b
  pub graph : lock.origin.graph ≡ g
  pub row_is : row ≡ fresh_desks lock desks

-- The list is exactly what the desk had seen, its entries are of its family, and the board is the one that it leaves, with a good fleet.
pub record Ends {I : Type 0} (fits : I → Fitting) (g : Roads) (lock : Lock) (desk : DeskNow) (b : WithIndex I) (noted : List Noted) : Type 0 where
  pub whole : map pair_of noted ≡ desk.seen
  pub legal : LeadsTo lock (map pair_of noted) (board_of b)
  pub family : All (λ (e : ℕ × Entry). InFamily desk.number desk.family e.0) desk.seen
  pub good : IsGoodView (fits b.fleet.index) g (board_of b).fleet
