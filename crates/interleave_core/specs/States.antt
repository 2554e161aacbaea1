use Rattle.std.specs.Prelude.{ℕ, List, Option, slice_get, slice_set}
use Rattle.board_core.specs.Boards.{Board}
pub use Rattle.interleave_core.specs.declared.event.Event.{Event}
pub use Rattle.interleave_core.specs.declared.holding.Holding.{Holding}

-- A world as it stands: its board, and what each of its actors holds, which is nothing, a claim, or
-- a claim that it priced. An actor is the desk of its index.
pub record State (I : Type 0) : Type 0 where
  pub board : Board
  pub actors : List (Holding I)

-- what an actor holds, where there is one of that index
abbrev pub holding_of : {I : Type 0} → State I → ℕ → Option (Holding I)
holding_of s k = slice_get s.actors k

-- the actors, of whom one holds something else
abbrev pub with_holding : {I : Type 0} → State I → ℕ → Holding I → List (Holding I)
with_holding s k holding = slice_set s.actors k holding
