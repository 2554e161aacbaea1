use Rattle.std.specs.Prelude.{◌≡◌, ℕ, ◌≤◌, true, List, [], ◌++◌, length, map, flat_map, None}
use Rattle.std.specs.List.{list_all}
use Rattle.ride_base.specs.Pieces.{Piece, Whole, pieces}
use Rattle.board_core.specs.declared.entry.Entry.{Entry}
use Rattle.journal_text.specs.declared.groups.Group.{Group}
use Rattle.journal_text.specs.TextEntries.{text_entry}
use Rattle.journal_text.specs.Printable.{IsPrintable}
use Rattle.journal_text.specs.TextGroups.{group_text, group_lines}
use Rattle.journal_text.specs.Forms.{is_in_form, are_within}
use Rattle.journal_text.specs.Journals.{IsNextGroup, AreGroups}

-- What can be printed is in form where its numbers and walks are within the limits.
abbrev pub PrintedEntriesAreInForm : Type 0
PrintedEntriesAreInForm = (line : ℕ) (e : Entry) → IsPrintable e → are_within (text_entry e) ≡ true → is_in_form (record { line = line; entry = text_entry e; proof = None; joins = [] }) ≡ true

-- What is printed of a group is the next group, whatever group follows, and at the end.
abbrev pub PrintedGroupsAreNext : Type 0
PrintedGroupsAreNext = (g other : Group) (rest : List Piece) → is_in_form g ≡ true → is_in_form other ≡ true
    → IsNextGroup g.line (map Whole (group_lines g) ++ (map Whole (group_lines other) ++ rest)) g (map Whole (group_lines other) ++ rest)

abbrev pub LastGroupsAreNext : Type 0
LastGroupsAreNext = (g : Group) → is_in_form g ≡ true → IsNextGroup g.line (map Whole (group_lines g)) g []

-- A text of groups in form that is no larger than a text may be is parted into their lines.
abbrev pub GroupsAreParted : Type 0
GroupsAreParted = (room : ℕ) (groups : List Group) → list_all is_in_form groups ≡ true → length (flat_map group_text groups) ≤ room
    → pieces room (flat_map group_text groups) ≡ map Whole (flat_map group_lines groups)

-- No other group is next than the one.
abbrev pub OneGroupIsNext : Type 0
OneGroupIsNext = (next : ℕ) (ahead : List Piece) (g other : Group) (rest left : List Piece) → IsNextGroup next ahead g rest → IsNextGroup next ahead other left → (g ≡ other) × (rest ≡ left)

-- No spelling of a group is another group's.
abbrev pub NoSpellingIsAnothers : Type 0
NoSpellingIsAnothers = (g other : Group) → is_in_form g ≡ true → is_in_form other ≡ true → g.line ≡ other.line → group_lines g ≡ group_lines other → g ≡ other

-- The groups of a journal have all its lines.
abbrev pub GroupsHaveAllLines : Type 0
GroupsHaveAllLines = (next : ℕ) (ahead : List Piece) (groups : List Group) → AreGroups next ahead groups → ahead ≡ map Whole (flat_map group_lines groups)
