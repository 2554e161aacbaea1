use Rattle.std.specs.Prelude.{◌≡◌, ℕ, ◌+◌, ◌-◌, ◌&&◌, not, Bool, true, false, cond, List, [], ◌∷◌, ◌++◌, map, length, IfSome, Option, Some, None, Result, Ok, Err}
use Rattle.ride_base.specs.Pieces.{Piece, Whole, IsRefused, ended_lines}
use Rattle.ride_base.specs.Outside.{ShelfState}
use Rattle.ride_base.specs.Reader.{Reader}
use Rattle.ride_base.specs.Told.{WhereTold, ahead}
use Rattle.journal_text.specs.declared.groups.Group.{Group}
use Rattle.journal_text.specs.declared.draft.Draft.{Draft}
use Rattle.journal_text.specs.declared.reader.GroupFault.{GroupFault}
use Rattle.journal_text.specs.declared.reader.GroupFault.TheVariants.{Form, Fault, NoMemory}
use Rattle.journal_text.specs.declared.reader.Held.{Held}
use Rattle.journal_text.specs.declared.reader.Behind.{Behind}
use Rattle.journal_text.specs.declared.reader.Behind.TheVariants.{Next, End, Refused}
use Rattle.journal_text.specs.TextGroups.{group_lines}
use Rattle.journal_text.specs.Forms.{is_in_form}
use Rattle.journal_text.specs.Journals.{IsNextGroup, IsBadLine}
use Rattle.journal_text.specs.Drafts.{draft_step, draft_of_line, is_whole_draft, goes_on_in_line}
use Rattle.journal_text.specs.DraftTexts.{draft_text, IsDraft, group_of}

-- A reader of groups, and what the call for the next group promises.

-- the lines that it holds, which were read and are in no group that it gave; the number of the first of them, where a group was begun;
-- and the number of the bad line at which it stopped
pub record GroupReader : Type 0 where
  pub held : List (List ℕ)
  pub first : Option ℕ
  pub bad : Option ℕ

-- the reader that read nothing
abbrev pub new_groups : GroupReader
new_groups = record { held = []; first = None; bad = None }

-- a reader of groups, the lines that it reads, and what is left of their text, at one moment
pub record Moment : Type 0 where
  pub groups : GroupReader
  pub lines : Reader
  pub left : Option (List ℕ)

abbrev pub moment : GroupReader → Reader → ShelfState → Moment
moment groups lines shelf = record { groups = groups; lines = lines; left = shelf.left }

abbrev pub behind_held : List (List ℕ) → Option (List Piece) → Option (List Piece)
behind_held held None = None
behind_held held (Some pieces) = Some (map Whole held ++ pieces)

-- the pieces that are in no group that was given, where the text is told: the lines that are held, and what is ahead of the others
abbrev pub pieces_ahead : Moment → Option (List Piece)
pieces_ahead m = behind_held m.groups.held (ahead m.lines m.left)

-- the number of the first line ahead
abbrev pub next_line : Moment → ℕ
next_line m = m.lines.given + 1 - length m.groups.held

-- The reader reads these lines: those that it holds are the last ones given. Where the lines were stopped, what is ahead of them is
-- refused, and where the reader was, the bad line that it tells is the first one ahead.
pub record IsReading (m : Moment) : Type 0 where
  pub numbered : IfSome m.groups.first (λ first. first + length m.groups.held ≡ m.lines.given + 1)
  pub refused : (m.lines.stopped ≡ None → ⊥) → WhereTold (ahead m.lines m.left) IsRefused
  pub bad : IfSome m.groups.bad (λ line. WhereTold (pieces_ahead m) (λ pieces. IsBadLine (next_line m) pieces line))

-- it may read any lines that were not stopped
abbrev pub MayReadAny : GroupReader → Type 0
MayReadAny groups = (lines : Reader) (shelf : ShelfState) → lines.stopped ≡ None → IsReading (moment groups lines shelf)

-- What an answer says of the pieces ahead, of which the first line has that number, and which pieces are ahead then. After an error
-- the same ones are.
abbrev pub TellsGroup : (next : ℕ) → Option (List Piece) → Result (Option Group) GroupFault → Option (List Piece) → Type 0
TellsGroup next None answer after = after ≡ None
TellsGroup next (Some pieces) (Ok None) after = (pieces ≡ []) × (after ≡ Some [])
TellsGroup next (Some pieces) (Ok (Some g)) after = (rest : List Piece) × IsNextGroup next pieces g rest × (after ≡ Some rest)
TellsGroup next (Some pieces) (Err (Form line)) after = IsBadLine next pieces line × (after ≡ Some pieces)
TellsGroup next (Some pieces) (Err Fault) after = after ≡ Some pieces
TellsGroup next (Some pieces) (Err NoMemory) after = after ≡ Some pieces

-- what an answer says of a group itself, and of the number of the first line ahead
abbrev pub CountsGroup : (next : ℕ) → Result (Option Group) GroupFault → (next' : ℕ) → Type 0
CountsGroup next (Ok None) next' = next' ≡ next
CountsGroup next (Ok (Some g)) next' = (g.line ≡ next) × (is_in_form g ≡ true) × (next' ≡ next + length (group_lines g))
CountsGroup next (Err _) next' = next' ≡ next

-- the bad line at which a reader is stopped after an answer
abbrev pub bad_after : Result (Option Group) GroupFault → Option ℕ
bad_after (Ok group) = None
bad_after (Err (Form line)) = Some line
bad_after (Err Fault) = None
bad_after (Err NoMemory) = None

-- What the call for the next group promises, where the reader reads these lines.

abbrev pub TellsNext : Moment → Result (Option Group) GroupFault → Moment → Type 0
TellsNext old answer new = IsReading old → TellsGroup (next_line old) (pieces_ahead old) answer (pieces_ahead new)

abbrev pub CountsNext : Moment → Result (Option Group) GroupFault → Moment → Type 0
CountsNext old answer new = IsReading old → CountsGroup (next_line old) answer (next_line new)

abbrev pub StaysReading : Moment → Moment → Type 0
StaysReading old new = IsReading old → IsReading new

-- Nothing moves. `S` is the shelf's type.

abbrev pub IsStill : {S : Type 0} → GroupReader → Reader → S → GroupReader → Reader → S → Type 0
IsStill old lines shelf new lines' shelf' = (new ≡ old) × (lines' ≡ lines) × (shelf' ≡ shelf)

-- a reader that stopped tells its bad line again, and nothing moves
abbrev pub StaysBad : {S : Type 0} → GroupReader → Reader → S → Result (Option Group) GroupFault → GroupReader → Reader → S → Type 0
StaysBad old lines shelf answer new lines' shelf' = IfSome old.bad (λ line. (answer ≡ Err (Form line)) × IsStill old lines shelf new lines' shelf')

-- a reader that gave all gives no group, and nothing moves
abbrev pub StaysAtEnd : {S : Type 0} → GroupReader → Reader → S → Result (Option Group) GroupFault → GroupReader → Reader → S → Type 0
StaysAtEnd old lines shelf answer new lines' shelf' =
    old.bad ≡ None → old.held ≡ [] → lines.stopped ≡ None → lines.over ≡ true → (answer ≡ Ok None) × IsStill old lines shelf new lines' shelf'

-- What was read and is in no group yet.

abbrev pub lines_of_draft : Option Draft → List (List ℕ)
lines_of_draft None = []
lines_of_draft (Some d) = ended_lines (draft_text d)

abbrev pub held_line : Held → List (List ℕ)
held_line h = cond h.has_line (h.line.bytes ∷ []) []

abbrev pub first_held : Option Draft → Option ℕ
first_held None = None
first_held (Some d) = Some d.line

-- the reader that holds this, stopped at that line or at none
abbrev pub reader_of : Held → (bad : Option ℕ) → GroupReader
reader_of h bad = record { held = lines_of_draft h.draft ++ held_line h; first = first_held h.draft; bad = bad }

-- the moment of a reader that wasn't stopped
abbrev pub held_at : Held → Reader → ShelfState → Moment
held_at h lines shelf = moment (reader_of h None) lines shelf

abbrev pub IsDraftHeld : Held → Type 0
IsDraftHeld h = IfSome h.draft IsDraft

-- what comes of a line of that number behind what was read
abbrev pub draft_with : Option Draft → (number : ℕ) → (line : List ℕ) → Option Draft
draft_with None number line = draft_of_line number line
draft_with (Some d) number line = draft_step d line

-- what was read, with the line that is held in the group
abbrev pub with_draft : Held → Option Draft → Option Held
with_draft h None = None
with_draft h (Some d) = Some (record h { draft = Some d; has_line = false })

abbrev pub begun_with : Held → Option Draft → Option Held
begun_with h None = None
begun_with h (Some d) = Some (record h { draft = Some d })

abbrev pub taken_line : Held → (number : ℕ) → Option Held
taken_line h number = with_draft h (draft_with h.draft number h.line.bytes)

-- the pieces ahead are the same, and the reader reads these lines still
pub record IsSameAhead (old new : Moment) : Type 0 where
  pub reading : IsReading new
  pub pieces : pieces_ahead new ≡ pieces_ahead old
  pub next : next_line new ≡ next_line old

abbrev pub StaysAhead : Moment → Moment → Type 0
StaysAhead old new = IsReading old → IsSameAhead old new

-- what stands behind the lines that were taken
abbrev pub IsBehind : Behind → Held → Reader → Option (List ℕ) → Type 0
IsBehind Next h lines left = h.has_line ≡ true
IsBehind End h lines left = (h.has_line ≡ false) × WhereTold (ahead lines left) (λ pieces. pieces ≡ [])
IsBehind Refused h lines left = (h.has_line ≡ false) × WhereTold (ahead lines left) IsRefused

abbrev pub LeavesBehind : Moment → Behind → Held → Reader → ShelfState → Type 0
LeavesBehind old behind h lines shelf = IsReading old → IsBehind behind h lines shelf.left

-- the line that is held belongs to no group that begins with what was read
abbrev pub IsUntaken : Behind → Held → (number : ℕ) → Type 0
IsUntaken Next h number = draft_with h.draft number h.line.bytes ≡ None
IsUntaken End h number = Unit {0}
IsUntaken Refused h number = Unit {0}

-- the line behind those that were taken, in the group
abbrev pub taken_behind : Behind → Held → (number : ℕ) → Option Held
taken_behind Next h number = taken_line h number
taken_behind End h number = None
taken_behind Refused h number = None

-- how many bytes the lines may still give, and one more where a line is held
abbrev pub bytes_left : Behind → Reader → ℕ
bytes_left Next lines = lines.room + 1
bytes_left End lines = lines.room
bytes_left Refused lines = lines.room

abbrev pub is_end : Behind → Bool
is_end Next = false
is_end End = true
is_end Refused = false

-- what was taken is whole and the line behind it belongs to it no more, or nothing was taken and the text is at its end
abbrev pub is_over_with : Option Draft → (has_line : Bool) → (line : List ℕ) → Behind → Bool
is_over_with None has_line line behind = is_end behind
is_over_with (Some d) has_line line behind = is_whole_draft d && not (has_line && goes_on_in_line d line)

abbrev pub group_of_held : Option Draft → Option Group
group_of_held None = None
group_of_held (Some d) = Some (group_of d)

-- a group begun with the line that is held
abbrev pub begun : Held → (number : ℕ) → Option Held
begun h number = begun_with h (draft_of_line number h.line.bytes)

-- a bad line is told
abbrev pub IsForm : GroupFault → Type 0
IsForm (Form line) = Unit {0}
IsForm Fault = ⊥
IsForm NoMemory = ⊥

-- where nothing is held and all lines were given, the end is behind, and nothing moves but what the buffer of a line holds
abbrev pub FillsAtEnd : {S : Type 0} → Held → Reader → S → Result Behind GroupFault → Held → Reader → S → Type 0
FillsAtEnd old lines shelf answer new lines' shelf' =
    old.draft ≡ None → old.has_line ≡ false → lines.stopped ≡ None → lines.over ≡ true
    → (answer ≡ Ok End) × (new.draft ≡ None) × (new.has_line ≡ false) × (lines' ≡ lines) × (shelf' ≡ shelf)
