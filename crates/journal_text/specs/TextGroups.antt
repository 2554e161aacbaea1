use Rattle.std.specs.Prelude.{ℕ, ◌%◌, ◌==◌, ◌||◌, ◌&&◌, Bool, true, false, List, [], ◌∷◌, ◌++◌, length, Option, Some, None}
use Rattle.road_graph.specs.declared.road.NodeNo.{NodeNo}
use Rattle.plain_search.specs.declared.potential.Potential.{Potential}
use Rattle.ride_base.specs.Pieces.{ended_lines}
use Rattle.board_core.specs.declared.entry.Submitted.TheVariants.{Accepted}
use Rattle.board_core.specs.declared.entry.Advanced.TheVariants.{Moved}
use Rattle.journal_text.specs.declared.certificate.Certificate.{Certificate}
use Rattle.journal_text.specs.declared.text.TextDecision.{TextDecision}
use Rattle.journal_text.specs.declared.text.TextDecision.TheVariants as answer
use Rattle.journal_text.specs.declared.text.TextCancelled.TheVariants.{Removed}
use Rattle.journal_text.specs.declared.text.TextEntry.{TextEntry}
use Rattle.journal_text.specs.declared.text.TextEntry.TheVariants as text
use Rattle.journal_text.specs.declared.groups.Group.{Group}
use Rattle.journal_text.specs.Groups.{nodes_on_line, entry_lines}
use Rattle.journal_text.specs.Certificates.{certificate_lines, joins_lines}

-- A group of a journal: the lines of an entry, of its certificate where it has one, and of the potentials of its joined legs.

abbrev pub proof_lines : Option Certificate → List ℕ
proof_lines None = []
proof_lines (Some c) = certificate_lines c

abbrev pub group_text : Group → List ℕ
group_text g = entry_lines g.entry ++ proof_lines g.proof ++ joins_lines g.joins

-- the same line by line, without the line ends
abbrev pub group_lines : Group → List (List ℕ)
group_lines g = ended_lines (group_text g)

-- Which lines behind a group belong to it still. A line's first field tells: where it is a letter that the group could go on with, the
-- line is part of the group, whatever else stands on it.

-- a walk whose last line has as many nodes as it may
abbrev pub is_full_walk : List NodeNo → Bool
is_full_walk [] = false
is_full_walk (n ∷ nodes) = length (n ∷ nodes) % nodes_on_line == 0

abbrev pub is_full_direct : Option (List NodeNo) → Bool
is_full_direct None = false
is_full_direct (Some nodes) = is_full_walk nodes

-- the last of some walks
abbrev pub last_walk : List (List NodeNo) → List NodeNo
last_walk [] = []
last_walk (nodes ∷ []) = nodes
last_walk (nodes ∷ next ∷ more) = last_walk (next ∷ more)

-- behind walks: `g` begins another one, and `h` goes on with a full one
abbrev pub walks_go_on : List (List NodeNo) → (letter : ℕ) → Bool
walks_go_on walks letter = (letter == 103) || (letter == 104 && is_full_walk (last_walk walks))

-- behind potentials of joined legs: `u` begins another one, and `w` goes on with one whose last line has as many pairs as it may
abbrev pub joins_go_on : List Potential → (letter : ℕ) → Bool
joins_go_on [] letter = letter == 117
joins_go_on (p ∷ []) letter = (letter == 117) || (letter == 119 && (length p.listed % 32 == 0))
joins_go_on (p ∷ next ∷ more) letter = joins_go_on (next ∷ more) letter

-- behind a commit: `u` begins a potential
abbrev pub proof_goes_on : Option Certificate → (letter : ℕ) → Bool
proof_goes_on None letter = letter == 117
proof_goes_on (Some c) letter = (letter == 117) || (letter == 102 && is_full_direct c.direct)

-- behind the walks of a commit that has no certificate
abbrev pub decision_goes_on : TextDecision → Option Certificate → (letter : ℕ) → Bool
decision_goes_on (answer.Assigned o) None letter = walks_go_on o.walks letter
decision_goes_on decision proof letter = false

-- behind the walks of a removal that has no potentials
abbrev pub removal_goes_on : List (List NodeNo) → List Potential → (letter : ℕ) → Bool
removal_goes_on walks [] letter = walks_go_on walks letter
removal_goes_on walks (p ∷ ps) letter = false

-- whether a line with that letter behind the group belongs to it
abbrev pub entry_goes_on : TextEntry → Option Certificate → List Potential → (letter : ℕ) → Bool
entry_goes_on (text.Submit r Accepted) proof joins letter = letter == 120
entry_goes_on (text.Commit number decision) proof joins letter = decision_goes_on decision proof letter || proof_goes_on proof letter
entry_goes_on (text.Advance now (Moved [])) proof joins letter = (letter == 120) || (letter == 115)
entry_goes_on (text.Advance now (Moved (served ∷ more))) proof joins letter = letter == 115
entry_goes_on (text.Cancel number (Removed x)) proof joins letter = removal_goes_on x.walks joins letter || joins_go_on joins letter
entry_goes_on entry proof joins letter = false

abbrev pub goes_on_with : Group → (letter : ℕ) → Bool
goes_on_with g letter = entry_goes_on g.entry g.proof g.joins letter

-- a field ends here: nothing is left, or a space is next
abbrev pub is_field_end : List ℕ → Bool
is_field_end [] = true
is_field_end (b ∷ bs) = b == 32

-- whether that line behind the group belongs to it
abbrev pub goes_on_with_line : Group → (line : List ℕ) → Bool
goes_on_with_line g [] = false
goes_on_with_line g (letter ∷ rest) = is_field_end rest && goes_on_with g letter
