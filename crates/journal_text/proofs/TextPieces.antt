use Rattle.std.proofs.Common.{◌≡◌, ℕ, ◌+◌, ◌-◌, ◌≤◌, Bool, true, false, ◌&&◌, cond, List, [], ◌∷◌, ◌++◌, length, map, flat_map, Some, refl, sym, ap, ◌∙◌, subst, append_assoc, length-append, arith}
use Rattle.std.proofs.lemmas.Bool.Decides.{nat_tests}
use Rattle.std.specs.Prelude.{nat_le, nat_lt}
use Rattle.std.specs.List.{list_all}
use Rattle.std.specs.Str.Lines.{strip_carriage_return}
use Rattle.ride_base.specs.Pieces.{Piece, Whole, TooLong, TooLarge, pieces, pieces_of_parts, ended_lines}
use Rattle.journal_text.specs.declared.groups.Group.{Group}
use Rattle.journal_text.specs.declared.draft.Draft.{Draft}
use Rattle.journal_text.specs.TextGroups.{group_text, group_lines}
use Rattle.journal_text.specs.Forms.{is_in_form}
use Rattle.journal_text.specs.Drafts.{draft_step, draft_of_line}
use Rattle.journal_text.specs.DraftTexts.{IsDraft}
use Rattle.journal_text.proofs.Spelling.{both, both_hold, le_holds, le_from, is_clean, was_then}
use Rattle.journal_text.proofs.DraftSteps.{step_was, begin_was}
use Rattle.journal_text.proofs.DraftReads.{ended, drafted}
use Rattle.journal_text.proofs.GroupLaws.{whole_law, group_draft}
use Rattle.journal_text.proofs.RoundTrips.{map-append}
use Rattle.journal_text.proofs.ReadLaws.{read_of, own_lines, split_line, some_part, strip_clean}

-- The lines of a group are no longer than a line may be, so the text of groups is parted into their lines.

abbrev is_short : List ℕ → Bool
is_short line = nat_le (length line) 65536

drafted_short : (d : Draft) (lines : List (List ℕ)) (d' : Draft) → IsDraft d → drafted d lines ≡ Some d' → list_all is_short lines ≡ true
drafted_short d [] d' ok e = refl
drafted_short d (line ∷ lines) d' ok e =
    let a = was_then (draft_step d line) (λ (next : Draft). drafted next lines) d' e in
    let w = step_was d line a.value ok a.was in
    both_hold (is_short line) (list_all is_short lines) (le_holds (length line) 65536 w.short) (drafted_short a.value lines d' w.draft a.gave)

read_short : (number : ℕ) (lines : List (List ℕ)) (d : Draft) → read_of number lines ≡ Some d → list_all is_short lines ≡ true
read_short number [] d e = refl
read_short number (first ∷ more) d e =
    let a = was_then (draft_of_line number first) (λ (next : Draft). drafted next more) d e in
    let w = begin_was number first a.value a.was in
    both_hold (is_short first) (list_all is_short more) (le_holds (length first) 65536 w.short) (drafted_short a.value more d w.draft a.gave)

one_piece : (room : ℕ) (line rest : List ℕ) → is_clean line ≡ true → is_short line ≡ true → length line + 1 ≤ room → pieces room (line ++ 10 ∷ rest) ≡ Whole line ∷ pieces (room - (length line + 1)) rest
one_piece room line rest clean short fits =
    let p = some_part rest in
    let few = le_from (length line) 65536 short in
    let long : (nat_lt 65536 (length line) && nat_le 65536 room) ≡ false = not_long (nat_lt 65536 (length line)) (nat_le 65536 room) (grind (arith, nat_tests, few)) in
    let large : nat_lt room (length line + 1) ≡ false = grind (arith, nat_tests) in
    let more : List Piece = pieces_of_parts (room - (length line + 1)) (p.0 ∷ p.1) in
    ap (pieces_of_parts room) (split_line line rest clean ∙ ap (λ ps. line ∷ ps) p.2)
    ∙ ap (λ t. cond t (TooLong ∷ []) (cond (nat_lt room (length line + 1)) (TooLarge ∷ []) (Whole (strip_carriage_return line) ∷ more))) long
    ∙ ap (λ t. cond t (TooLarge ∷ []) (Whole (strip_carriage_return line) ∷ more)) large
    ∙ ap (λ l. Whole l ∷ more) (strip_clean line clean)
    ∙ ap (λ ps. Whole line ∷ pieces_of_parts (room - (length line + 1)) ps) (sym p.2)
  where
    not_long : (a b : Bool) → a ≡ false → (a && b) ≡ false
    not_long true b e = absurd cc
    not_long false b e = refl

all_pieces : (room : ℕ) (lines : List (List ℕ)) (rest : List ℕ) → list_all is_clean lines ≡ true → list_all is_short lines ≡ true → length (ended lines) ≤ room
    → pieces room (ended lines ++ rest) ≡ map Whole lines ++ pieces (room - length (ended lines)) rest
all_pieces room [] rest clean short fits = ap (λ r. pieces r rest) (omega arith)
all_pieces room (line ∷ lines) rest clean short fits =
    let a = both (is_clean line) (list_all is_clean lines) clean in
    let b = both (is_short line) (list_all is_short lines) short in
    let size = length-append line (10 ∷ ended lines) in
    ap (pieces room) (append_assoc line (10 ∷ ended lines) rest)
    ∙ one_piece room line (ended lines ++ rest) a.0 b.0 (omega (arith, size, fits))
    ∙ ap (λ l. Whole line ∷ l) (all_pieces (room - (length line + 1)) lines rest a.1 b.1 (omega (arith, size, fits))
    ∙ ap (λ r. map Whole lines ++ pieces r rest) (omega (arith, size)))

-- what is printed of a group is parted into its lines
pub group_pieces : (room : ℕ) (g : Group) (rest : List ℕ) → is_in_form g ≡ true → length (group_text g) ≤ room → pieces room (group_text g ++ rest) ≡ map Whole (group_lines g) ++ pieces (room - length (group_text g)) rest
group_pieces room g rest e fits =
    let d = group_draft g e in
    let own = own_lines d.draft d.fits in
    let lines : List (List ℕ) = own.first ∷ own.more in
    let text : group_text g ≡ ended lines = sym (ap group_text d.group) ∙ (whole_law d.draft d.fits d.whole).text ∙ own.text in
    let are : group_lines g ≡ lines = ap group_lines (sym d.group) ∙ ap (λ t. ended_lines t) ((whole_law d.draft d.fits d.whole).text) ∙ own.are in
    ap (λ t. pieces room (t ++ rest)) text
    ∙ all_pieces room lines rest own.clean (read_short d.draft.line lines d.draft own.read) (subst (λ t. length t ≤ room) text fits)
    ∙ ap (λ ls. map Whole ls ++ pieces (room - length (ended lines)) rest) (sym are)
    ∙ ap (λ t. map Whole (group_lines g) ++ pieces (room - length t) rest) (sym text)

-- groups one after another
pub groups_pieces : (room : ℕ) (groups : List Group) → list_all is_in_form groups ≡ true → length (flat_map group_text groups) ≤ room
    → pieces room (flat_map group_text groups) ≡ map Whole (flat_map group_lines groups)
groups_pieces room [] e fits = refl
groups_pieces room (g ∷ groups) e fits =
    let a = both (is_in_form g) (list_all is_in_form groups) e in
    let size = length-append (group_text g) (flat_map group_text groups) in
    group_pieces room g (flat_map group_text groups) a.0 (omega (arith, size, fits))
    ∙ ap (λ l. map Whole (group_lines g) ++ l) (groups_pieces (room - length (group_text g)) groups a.1 (omega (arith, size, fits)))
    ∙ sym (map-append (group_lines g) (flat_map group_lines groups))
