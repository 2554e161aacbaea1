use Rattle.std.specs.Prelude.{◌≡◌, ℕ, ◌+◌, List, ◌++◌, Option, Some, slice_get}
use Rattle.ride_base.specs.declared.numbers.RequestNo.{RequestNo}
use Rattle.road_graph.specs.Roads.{Roads}
use Rattle.stop_schedule.specs.declared.request.Request.{Request}
use Rattle.stop_schedule.specs.Fleets.{Fitting, IsGoodFleet}
use Rattle.insertion_cost.specs.Pricers.{IsRequestIn}
use Rattle.board_core.specs.declared.entry.Entry.{Entry}
use Rattle.board_core.specs.declared.entry.Entry.TheVariants.{Submit, Claim, Back, Commit, Advance}
use Rattle.board_core.specs.declared.entry.Entry.TheVariants.{Cancel, Shut}
use Rattle.board_core.specs.BoardViews.{board_of}
use Rattle.board_core.specs.declared.waiting.Waiting.{Waiting}
use Rattle.board_core.specs.Boards.{Board, oldest_unheld, waiting_of}
use Rattle.board_core.specs.Laws.{IsEarlyMove}
use Rattle.board_core.specs.Steps.{Step}
use Rattle.interleave_core.specs.declared.world.World.{World}
use Rattle.interleave_core.specs.Holdings.{number_held}
use Rattle.interleave_core.specs.Plays.{Act}
use Rattle.interleave_core.specs.States.{Event, Holding}
use Rattle.interleave_core.specs.Worlds.{IsHeldOver, IsWorldOver, StaySound, state_of}

-- What one event does to a world, and what lawful entries leave of a world over a graph.

-- One event was played: the journal grew by exactly what it adds.
pub record HasActed {I : Type 0} (g : Roads) (old : World I) (e : Event) (new : World I)
    : Type 0 where
  pub entries : List Entry
  pub act : Act g (state_of old) e entries (state_of new)
  pub journal : new.journal.items ≡ old.journal.items ++ entries

-- nothing was played
pub record IsAsBefore {I : Type 0} (old new : World I) : Type 0 where
  pub state : state_of new ≡ state_of old
  pub index : new.board.fleet.index ≡ old.board.fleet.index
  pub journal : new.journal.items ≡ old.journal.items

-- an event was played, over each graph over which the world was
abbrev pub ActsOver : {I : Type 0} → (I → Fitting) → World I → Event → World I → Type 0
ActsOver fits old e new = (g : Roads) → IsWorldOver fits g old → HasActed g old e new

-- a world stays over each graph over which it was
abbrev pub StaysOver : {I : Type 0} → (I → Fitting) → World I → World I → Type 0
StaysOver fits old new = (g : Roads) → IsWorldOver fits g old → IsWorldOver fits g new

-- ---- lawful entries

-- the entry doesn't end the claim of this number
abbrev pub IsApart : Entry → Option RequestNo → Type 0
IsApart (Submit r submitted) number = Unit {0}
IsApart (Claim other desk) number = Unit {0}
IsApart (Back other) number = number ≡ Some other → ⊥
IsApart (Commit other decision) number = number ≡ Some other → ⊥
IsApart (Advance now advanced) number = Unit {0}
IsApart (Cancel other cancelled) number = Unit {0}
IsApart Shut number = Unit {0}

-- After the entry the board has the same nodes and one version more, its fleet is good, what was
-- sound for the fleet before it is sound, and what actors hold is so, but where it ends their claim.
pub record HasLeft {I : Type 0} (fits : I → Fitting) (g : Roads) (w : World I) (e : Entry)
    (new : Board) : Type 0 where
  pub nodes : new.nodes ≡ w.board.nodes
  pub version : new.fleet.version ≡ w.board.fleet.version + 1
  pub good : IsGoodFleet g new.fleet
  pub sound : (r : Request) → StaySound g (board_of w.board).fleet new.fleet r
  pub held : (k : ℕ) (h : Holding I) → slice_get w.actors.items k ≡ Some h
      → IsApart e (number_held (Some h)) → IsHeldOver fits g new k h

-- so does each lawful entry
abbrev pub EntriesLeaveWorldsOver : {I : Type 0} → (I → Fitting) → World I → Type 0
EntriesLeaveWorldsOver fits w = (g : Roads) (e : Entry) (new : Board) → IsWorldOver fits g w
    → IsEarlyMove e → Step g (board_of w.board) e new → HasLeft fits g w e new

-- the oldest request that no desk holds is found by its number, and may be priced over a graph
abbrev pub OldestIsKnown : {I : Type 0} → (I → Fitting) → World I → Type 0
OldestIsKnown fits w = (g : Roads) (oldest : Waiting) → IsWorldOver fits g w
    → oldest_unheld (board_of w.board) ≡ Some oldest
    → IsRequestIn g oldest.request
    × (waiting_of (board_of w.board) oldest.request.no ≡ Some oldest)
