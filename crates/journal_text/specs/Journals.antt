use Rattle.std.specs.Prelude.{◌≡◌, ℕ, ◌+◌, not, Bool, true, List, [], ◌∷◌, ◌++◌, map, length}
use Rattle.ride_base.specs.Pieces.{Piece, Whole, TooLong, TooLarge}
use Rattle.journal_text.specs.declared.groups.Group.{Group}
use Rattle.journal_text.specs.TextGroups.{group_lines, goes_on_with_line}
use Rattle.journal_text.specs.Forms.{is_in_form}

-- What the lines ahead in a journal say: at the end nothing, else a group or a bad line. A line that is too long, and the place where
-- a text is too large, are bad lines.

-- whether what is ahead of a group belongs to it no more
abbrev pub is_over : Group → List Piece → Bool
is_over g [] = true
is_over g (Whole line ∷ more) = not (goes_on_with_line g line)
is_over g (TooLong ∷ more) = true
is_over g (TooLarge ∷ more) = true

-- the next lines, whose first one has this number, are those of a group, and the rest is ahead then
pub record IsNextGroup (next : ℕ) (ahead : List Piece) (g : Group) (rest : List Piece) : Type 0 where
  pub number : g.line ≡ next
  pub form : is_in_form g ≡ true
  pub lines : ahead ≡ map Whole (group_lines g) ++ rest
  pub over : is_over g rest ≡ true

-- some group's lines begin with these
pub record BeginsAGroup (lines : List (List ℕ)) : Type 0 where
  pub group : Group
  pub form : is_in_form group ≡ true
  pub more : List (List ℕ)
  pub begins : group_lines group ≡ lines ++ more

-- The next lines, whose first one has this number, are none of a group, and the first bad one stands behind these lines: some group's
-- lines begin with them, and none with the bad one behind them. Where it is the end, these lines are all that is ahead.
pub record IsBadBehind (next : ℕ) (ahead : List Piece) (lines : List (List ℕ)) : Type 0 where
  pub rest : List Piece
  pub begun : ahead ≡ map Whole lines ++ rest
  pub some : ahead ≡ [] → ⊥
  pub good : BeginsAGroup lines
  pub bad : (line : List ℕ) (more : List Piece) → rest ≡ Whole line ∷ more → BeginsAGroup (lines ++ line ∷ []) → ⊥
  pub no_group : (g : Group) (behind : List Piece) → IsNextGroup next ahead g behind → ⊥

-- the same of the line of that number
pub record IsBadLine (next : ℕ) (ahead : List Piece) (line : ℕ) : Type 0 where
  pub good_lines : List (List ℕ)
  pub behind : IsBadBehind next ahead good_lines
  pub number : line ≡ next + length good_lines

-- these groups, one after another, are all that is ahead
abbrev pub AreGroups : (next : ℕ) (ahead : List Piece) (groups : List Group) → Type 0
AreGroups next ahead [] = ahead ≡ []
AreGroups next ahead (g ∷ groups) = (rest : List Piece) × IsNextGroup next ahead g rest × AreGroups (next + length (group_lines g)) rest groups
