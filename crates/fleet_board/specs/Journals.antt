use Rattle.std.specs.Prelude.{ℕ, ◌+◌, cond, Bool, List, [], ◌∷◌, is_some}
use Rattle.board_core.specs.declared.entry.Entry.{Entry}
use Rattle.board_core.specs.declared.waiting.Waiting.{Waiting}
use Rattle.board_core.specs.Boards.{Board}
use Rattle.fleet_board.specs.declared.journal.Noted.{Noted}

abbrev pub pair_of : Noted → ℕ × Entry
pair_of n = (n.desk, n.entry)

-- what was noted, how many entries are owed, and for how many there is room
pub record JournalState : Type 0 where
  pub noted : List (ℕ × Entry)
  pub owed : ℕ
  pub room : ℕ

-- how many requests desks hold
abbrev pub held_in : List Waiting → ℕ
held_in [] = 0
held_in (w ∷ waiting) = cond (is_some w.holder) 1 0 + held_in waiting

-- a Shut is owed where a board is open
abbrev pub shut_owed : Bool → ℕ
shut_owed closed = cond closed 0 1

-- how many entries are owed on a board: one that ends the claim of each request that a desk holds, and a Shut where it is open
abbrev pub owed_on : Board → ℕ
owed_on b = held_in b.waiting + shut_owed b.closed
