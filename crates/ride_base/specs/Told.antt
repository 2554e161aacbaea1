use Rattle.std.specs.Prelude.{ℕ, ◌++◌, cond, List, [], Option, Some, None}
use Rattle.ride_base.specs.Pieces.{Piece, pieces}
use Rattle.ride_base.specs.Reader.{Reader}

-- what is said of a text, or of its pieces, where it is told
abbrev pub WhereTold : {X : Type 0} → Option X → (X → Type 0) → Type 0
WhereTold None fact = Unit {0}
WhereTold (Some told) fact = fact told

-- the pieces of a text that a reader has not given, where it is told
abbrev pub ahead : Reader → Option (List ℕ) → Option (List Piece)
ahead reader None = None
ahead reader (Some left) = Some (cond reader.over [] (pieces reader.room (reader.pending ++ left)))
