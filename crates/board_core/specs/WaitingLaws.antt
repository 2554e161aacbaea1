use Rattle.std.specs.Prelude.{◌≡◌, ℕ, List, [], ◌∷◌, Some, None, slice_get}
use Rattle.board_core.specs.Queues.{Waiting, waiting_in}

-- Each request that waits is found by its number, so no two of them have one.
abbrev pub AreFoundByNumber : List Waiting → Type 0
AreFoundByNumber waiting = (k : ℕ) (w : Waiting) → slice_get waiting k ≡ Some w
    → waiting_in waiting w.request.no ≡ Some w

-- No two requests of a list have one number.
abbrev pub HaveOwnNumbers : List Waiting → Type 0
HaveOwnNumbers [] = Unit {0}
HaveOwnNumbers (w ∷ waiting) = (waiting_in waiting w.request.no ≡ None) × HaveOwnNumbers waiting
