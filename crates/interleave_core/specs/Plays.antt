use Rattle.std.specs.Prelude.{◌≡◌, ℕ, Bool, true, false, List, [], ◌∷◌, ◌++◌, Option, Some}
use Rattle.road_graph.specs.Roads.{Roads}
use Rattle.insertion_cost.specs.declared.candidates.Candidates.{Candidates}
use Rattle.insertion_cost.specs.declared.decision.Decision.{Decision}
use Rattle.insertion_cost.specs.Candidates.{AreFresh, Decides}
use Rattle.board_core.specs.declared.entry.Advanced.{Advanced}
use Rattle.board_core.specs.declared.entry.Entry.{Entry}
use Rattle.board_core.specs.declared.entry.Entry.TheVariants as entry
use Rattle.board_core.specs.declared.entry.Submitted.{Submitted}
use Rattle.board_core.specs.declared.fleet.Fleet.{Fleet}
use Rattle.board_core.specs.declared.waiting.Waiting.{Waiting}
use Rattle.board_core.specs.Boards.{oldest_unheld}
use Rattle.board_core.specs.FleetViews.{cars_of}
use Rattle.board_core.specs.Steps.{Step}
use Rattle.interleave_core.specs.declared.event.Event.TheVariants.{Submit, Claim, Price, Commit}
use Rattle.interleave_core.specs.declared.event.Event.TheVariants.{Back, Advance, Shut}
use Rattle.interleave_core.specs.declared.holding.Holding.TheVariants.{Nothing, Claimed, Priced}
use Rattle.interleave_core.specs.States.{Event, Holding, State, holding_of, with_holding}

-- What events add to a journal, on a world over a graph. Each adds one entry or none. Of the entry
-- the event tells what was asked, and the board, on which it is lawful, all else but the choice
-- among least walks.

-- no entry is added, and nothing changes
abbrev pub IsIdle : {I : Type 0} → State I → List Entry → State I → Type 0
IsIdle before entries after = (entries ≡ []) × (after ≡ before)

-- one entry is added, which is lawful on the board and leads to the board after it; the actors then
-- hold this
abbrev pub Adds : {I : Type 0} → Roads → State I → Entry → List (Holding I) → List Entry → State I
    → Type 0
Adds g before e holdings entries after =
    (entries ≡ e ∷ []) × Step g before.board e after.board × (after.actors ≡ holdings)

-- an open board is closed
abbrev pub ShutAct : {I : Type 0} → Roads → State I → (closed : Bool) → List Entry → State I
    → Type 0
ShutAct g s false entries after = Adds g s entry.Shut s.actors entries after
ShutAct g s true entries after = IsIdle s entries after

-- an actor that holds nothing claims the oldest request that no desk holds, if there is one, and
-- keeps the fleet as it is behind the claim
abbrev pub ClaimAct : {I : Type 0} → Roads → State I → ℕ → Option (Holding I) → Option Waiting
    → List Entry → State I → Type 0
ClaimAct {I = I} g s k (Some Nothing) (Some w) entries after =
    (fleet : Fleet I) × (cars_of fleet ≡ after.board.fleet)
    × Adds g s (entry.Claim w.request.no k) (with_holding s k (Claimed w.request fleet)) entries
    after
ClaimAct g s k held waiting entries after = IsIdle s entries after

-- an actor that holds a claim prices it on the fleet that it kept; no entry tells of it
abbrev pub PriceAct : {I : Type 0} → Roads → State I → ℕ → Option (Holding I) → List Entry → State I
    → Type 0
PriceAct g s k (Some (Claimed r fleet)) entries after =
    (c : Candidates) × AreFresh g (cars_of fleet) r c × Decides c
    × (entries ≡ []) × (after ≡ record s { actors = with_holding s k (Priced r c) })
PriceAct g s k held entries after = IsIdle s entries after

-- an actor that holds a priced claim commits it, and then holds nothing
abbrev pub CommitAct : {I : Type 0} → Roads → State I → ℕ → Option (Holding I) → List Entry
    → State I → Type 0
CommitAct g s k (Some (Priced r c)) entries after =
    (d : Decision) × Adds g s (entry.Commit r.no d) (with_holding s k Nothing) entries after
CommitAct g s k held entries after = IsIdle s entries after

-- an actor that holds a claim, priced or not, gives it back
abbrev pub BackAct : {I : Type 0} → Roads → State I → ℕ → Option (Holding I) → List Entry
    → State I → Type 0
BackAct g s k (Some (Claimed r fleet)) entries after =
    Adds g s (entry.Back r.no) (with_holding s k Nothing) entries after
BackAct g s k (Some (Priced r c)) entries after =
    Adds g s (entry.Back r.no) (with_holding s k Nothing) entries after
BackAct g s k held entries after = IsIdle s entries after

-- what an event adds, and the world after it
abbrev pub Act : {I : Type 0} → Roads → State I → Event → List Entry → State I → Type 0
Act g s (Submit r) entries after =
    (told : Submitted) × Adds g s (entry.Submit r told) s.actors entries after
Act g s (Claim k) entries after =
    ClaimAct g s k (holding_of s k) (oldest_unheld s.board) entries after
Act g s (Price k) entries after = PriceAct g s k (holding_of s k) entries after
Act g s (Commit k) entries after = CommitAct g s k (holding_of s k) entries after
Act g s (Back k) entries after = BackAct g s k (holding_of s k) entries after
Act g s (Advance now) entries after =
    (told : Advanced) × Adds g s (entry.Advance now told) s.actors entries after
Act g s Shut entries after = ShutAct g s s.board.closed entries after

-- what a list of events adds, in their order, and the world after them
abbrev pub Play : {I : Type 0} → Roads → State I → List Event → List Entry → State I → Type 0
Play g s [] entries after = IsIdle s entries after
Play {I = I} g s (e ∷ events) entries after =
    (added : List Entry) × (more : List Entry) × (next : State I)
    × Act g s e added next × Play g next events more after × (entries ≡ added ++ more)
