use Rattle.std.specs.Prelude.{◌≡◌, ℕ, ◌<◌, ◌≤◌, List, ◌++◌, length, Some, slice_get}
use Rattle.road_graph.specs.Graphs.{IsGraph}
use Rattle.road_graph.specs.Roads.{Roads}
use Rattle.stop_schedule.specs.declared.request.Request.{Request}
use Rattle.stop_schedule.specs.Fleets.{Cars, Fitting, IsGoodView}
use Rattle.stop_schedule.specs.Limits.{latest_moment}
use Rattle.insertion_cost.specs.declared.candidates.Candidates.{Candidates}
use Rattle.insertion_cost.specs.Candidates.{AreSound}
use Rattle.insertion_cost.specs.Pricers.{IsRequestIn}
use Rattle.board_core.specs.declared.entry.Entry.{Entry}
use Rattle.board_core.specs.BoardKept.{WithIndex}
use Rattle.board_core.specs.BoardViews.{board_of}
use Rattle.board_core.specs.Boards.{Board, waiting_of}
use Rattle.board_core.specs.FleetViews.{cars_of}
use Rattle.board_core.specs.Histories.{Legal}
use Rattle.interleave_core.specs.declared.event.Event.TheVariants.{Submit, Claim, Price, Commit}
use Rattle.interleave_core.specs.declared.event.Event.TheVariants.{Back, Advance, Shut}
use Rattle.interleave_core.specs.declared.holding.Holding.TheVariants.{Nothing, Claimed, Priced}
use Rattle.interleave_core.specs.declared.world.World.{World}
use Rattle.interleave_core.specs.Plays.{Play}
use Rattle.interleave_core.specs.States.{Event, Holding, State}

-- a world as it stands, apart from its journal and from the index of its fleet
abbrev pub state_of : {I : Type 0} → World I → State I
state_of w = record { board = board_of w.board; actors = w.actors.items }

-- ---- which events may be played

-- its actor is one of so many, and a moment is at most the latest one
abbrev pub IsEventFor : ℕ → Event → Type 0
IsEventFor actors (Submit r) = Unit {0}
IsEventFor actors (Claim k) = k < actors
IsEventFor actors (Price k) = k < actors
IsEventFor actors (Commit k) = k < actors
IsEventFor actors (Back k) = k < actors
IsEventFor actors (Advance now) = now ≤ latest_moment
IsEventFor actors Shut = Unit {0}

abbrev pub AreEventsFor : ℕ → List Event → Type 0
AreEventsFor actors events = (k : ℕ) (e : Event) → slice_get events k ≡ Some e → IsEventFor actors e

-- ---- a world over a graph

-- the request waits, and this desk holds it; its nodes are nodes of the graph
pub record IsClaimOf (g : Roads) (b : Board) (desk : ℕ) (r : Request) : Type 0 where
  pub waits : waiting_of b r.no ≡ Some (record { request = r; holder = Some desk })
  pub asked : IsRequestIn g r

-- candidates that are sound for the one fleet are sound for the other
abbrev pub StaySound : Roads → Cars → Cars → Request → Type 0
StaySound g earlier later r = (c : Candidates) → AreSound g earlier r c → AreSound g later r c

-- An actor that claimed holds that claim on the board, and the fleet that it kept is good; what is
-- sound for that fleet is sound for the fleet as it is. One that priced holds its claim, and its
-- candidates are sound for the fleet as it is.
abbrev pub IsHeldOver : {I : Type 0} → (I → Fitting) → Roads → Board → ℕ → Holding I → Type 0
IsHeldOver fits g b k Nothing = Unit {0}
IsHeldOver fits g b k (Claimed r fleet) =
    IsClaimOf g b k r × IsGoodView (fits fleet.index) g (cars_of fleet)
    × StaySound g (cars_of fleet) b.fleet r
IsHeldOver fits g b k (Priced r c) = IsClaimOf g b k r × AreSound g b.fleet r c

-- A world is over a graph: its board has the graph's nodes, its fleet is good over it, and all that
-- was claimed and priced was so over it.
pub record IsWorldOver {I : Type 0} (fits : I → Fitting) (g : Roads) (w : World I) : Type 0 where
  pub graph : IsGraph g
  pub nodes : g.nodes ≡ w.board.nodes
  pub good : IsGoodView (fits w.board.fleet.index) g (board_of w.board).fleet
  pub held : (k : ℕ) (h : Holding I) → slice_get w.actors.items k ≡ Some h
      → IsHeldOver fits g (board_of w.board) k h

-- a new world of a board is over each graph over which that board's fleet is good
abbrev pub StartsOver : {I : Type 0} → (I → Fitting) → WithIndex I → World I → Type 0
StartsOver fits b w = (g : Roads) → IsGraph g → g.nodes ≡ b.nodes
    → IsGoodView (fits b.fleet.index) g (board_of b).fleet → IsWorldOver fits g w

-- ---- what was played

-- Events were played: the journal grew by exactly the entries of their play, one for each event at
-- most, which are lawful one after another from the old board to the new one.
pub record HasPlayed {I : Type 0} (g : Roads) (old : World I) (events : List Event) (new : World I)
    : Type 0 where
  pub entries : List Entry
  pub play : Play g (state_of old) events entries (state_of new)
  pub journal : new.journal.items ≡ old.journal.items ++ entries
  pub legal : Legal g (board_of old.board) entries (board_of new.board)
  pub few : length entries ≤ length events

-- a journal that is legal from a first board on stays so
abbrev pub StaysLegal : {I : Type 0} → Roads → World I → World I → Type 0
StaysLegal g old new = (first : Board) → Legal g first old.journal.items (board_of old.board)
    → Legal g first new.journal.items (board_of new.board)

-- candidates of any request that are sound for the fleet before are sound for the fleet after
abbrev pub KeepsSoundness : {I : Type 0} → Roads → World I → World I → Type 0
KeepsSoundness g old new = (r : Request)
    → StaySound g (board_of old.board).fleet (board_of new.board).fleet r
