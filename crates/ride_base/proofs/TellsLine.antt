use Rattle.std.proofs.Common.{◌≡◌, ℕ, suc, ◌+◌, ◌-◌, ◌<◌, ◌≤◌, min, Bool, true, false, cond, List, [], ◌∷◌, ◌++◌, take, drop, length, Option, Some, None, Ok, Err, refl, sym, ap, ◌∙◌, get_or, position, arith, length-take, length-append, append_assoc, append-nil}
use Rattle.std.specs.Prelude.{nat_lt, nat_le, ◌&&◌, ◌==◌, IfSome, is_some}
use Rattle.std.specs.List.{slice_split, position_or_len, All, onto_first}
use Rattle.std.specs.Str.Lines.{strip_carriage_return}
use Rattle.std.proofs.lemmas.Bool.{eqb-true}
use Rattle.std.proofs.Math.Dec.{eqb-suc-zero}
use Rattle.std.proofs.lemmas.Bool.Decides.{nat_tests}
use Rattle.std.proofs.lemmas.List.{drop_more, take-append-drop, drop-append-le}
use Rattle.std.proofs.lemmas.List.Splits.{slice_split_at, slice_split_none, length-slice_split, slice_split-cons_no}
use Rattle.std.proofs.lemmas.List.Sums.{passes_at_first}
use Rattle.ride_base.specs.Buffers.{with_read, limit_at, limit_past, IsAtEnd}
use Rattle.ride_base.specs.Pieces.{Piece, Whole, TooLong, TooLarge, pieces, pieces_of_parts, pieces_from, after_line, is_ended, is_line_end, longest_line}
use Rattle.ride_base.specs.Reader.{Limit, Long, Large}
use Rattle.ride_base.specs.Reading.{TellsLine, fault_of}
use Rattle.ride_base.specs.Limits.{shown_limit}
use Rattle.ride_base.specs.declared.lines.Line.{Line}
use Rattle.ride_base.specs.declared.lines.LineFault.{LineFault}
use Rattle.ride_base.specs.declared.lines.Limit.{Limit as CodeLimit}
use Rattle.ride_base.specs.declared.lines.Limit.TheVariants.{Long as CodeLong, Large as CodeLarge}
use Rattle.ride_base.proofs.LineLaws.{after_last_line}
use Rattle.ride_base.proofs.Positions.{found_is, unended_before, unended, first_kept, less, not_less, is_less}

-- the pieces from a line on, where it meets that limit or none
abbrev pub pieces_at_limit : Option Limit → List ℕ → List Piece → List Piece
pieces_at_limit None line rest = Whole line ∷ rest
pieces_at_limit (Some Long) line rest = TooLong ∷ []
pieces_at_limit (Some Large) line rest = TooLarge ∷ []

pieces_from_step : (b c : Bool) (line : List ℕ) (rest : List Piece) → cond b (TooLong ∷ []) (cond c (TooLarge ∷ []) (Whole line ∷ rest)) ≡ pieces_at_limit (cond b (Some Long) (cond c (Some Large) None)) line rest
pieces_from_step true c line rest = refl
pieces_from_step false true line rest = refl
pieces_from_step false false line rest = refl

pub pieces_from_is : (room size : ℕ) (part line : List ℕ) (rest : List Piece) → pieces_from room size part line rest ≡ pieces_at_limit (limit_at (length part) size room) line rest
pieces_from_is room size part line rest = pieces_from_step (nat_lt longest_line (length part) && nat_le longest_line room) (nat_lt room size) line rest

-- a part that isn't the last is a line, or the text is refused there
parts_cons : (room : ℕ) (x : List ℕ) (ps : List (List ℕ)) → 0 < length ps → pieces_of_parts room (x ∷ ps) ≡ pieces_from room (length x + 1) x (strip_carriage_return x) (pieces_of_parts (room - (length x + 1)) ps)
parts_cons room x [] h = absurd (omega arith)
parts_cons room x (y ∷ more) h = refl

pieces_cut : (room : ℕ) (x rest : List ℕ) → All (λ b. is_line_end b ≡ false) x → pieces room (x ++ 10 ∷ rest) ≡ pieces_from room (length x + 1) x (strip_carriage_return x) (pieces (room - (length x + 1)) rest)
pieces_cut room x rest h = ap (pieces_of_parts room) (slice_split_at is_line_end x 10 rest h refl) ∙ parts_cons room x (slice_split is_line_end rest) (omega (arith, length-slice_split is_line_end rest))

-- what was read, cut at its first line end
pub cut_at : (p : List ℕ) (at : ℕ) → position is_line_end p ≡ Some at → p ≡ take at p ++ 10 ∷ drop (at + 1) p
cut_at p at h =
    let f = found_is is_line_end p at h in
    let passes : is_line_end (get_or p at 0) ≡ true = ap (λ (k : ℕ). is_line_end (get_or p k 0)) (sym f.0) ∙ passes_at_first is_line_end p 0 (let e = f.0 in let l = f.1 in omega arith) in
    sym (take-append-drop at p) ∙ ap (λ (z : List ℕ). take at p ++ z) (drop_more p at 0 f.1 ∙ ap (λ (z : ℕ). z ∷ drop (at + 1) p) (eqb-true (get_or p at 0) 10 passes))

-- the pieces of a text whose first line end was read
pub pieces_at : (room : ℕ) (p left : List ℕ) (at : ℕ) → position is_line_end p ≡ Some at
    → pieces room (p ++ left) ≡ pieces_at_limit (limit_at at (at + 1) room) (strip_carriage_return (take at p)) (pieces (room - (at + 1)) (drop (at + 1) p ++ left))
pieces_at room p left at h =
    let whole : p ++ left ≡ take at p ++ 10 ∷ (drop (at + 1) p ++ left) = ap (λ (z : List ℕ). z ++ left) (cut_at p at h) ∙ append_assoc (take at p) (10 ∷ drop (at + 1) p) left in
    let size : length (take at p) ≡ at = let l = (found_is is_line_end p at h).1 in omega (arith, length-take at p) in
    ap (pieces room) whole ∙ pieces_cut room (take at p) (drop (at + 1) p ++ left) (unended_before p at h)
    ∙ pieces_from_is room (length (take at p) + 1) (take at p) (strip_carriage_return (take at p)) (pieces (room - (length (take at p) + 1)) (drop (at + 1) p ++ left))
    ∙ ap (λ (n : ℕ). pieces_at_limit (limit_at n (n + 1) room) (strip_carriage_return (take at p)) (pieces (room - (n + 1)) (drop (at + 1) p ++ left))) size

-- what stands behind the first line end
pub after_line_at : (p left : List ℕ) (at : ℕ) → position is_line_end p ≡ Some at → after_line (p ++ left) ≡ drop (at + 1) p ++ left
after_line_at p left at h =
    let f = found_is is_line_end p at h in
    let f0 = f.0 in
    let f1 = f.1 in
    let place : position_or_len is_line_end (p ++ left) + 1 ≡ at + 1 = let k = first_kept is_line_end p left (omega arith) in omega arith in
    ap (λ (n : ℕ). drop n (p ++ left)) place ∙ drop-append-le (at + 1) p left (omega arith)

has_end : (text : List ℕ) (b : Bool) → nat_lt (position_or_len is_line_end text) (length text) ≡ b → is_ended text ≡ b
has_end text true h = ap (λ (t : Bool). is_some (cond t (Some (position_or_len is_line_end text)) None)) h
has_end text false h = ap (λ (t : Bool). is_some (cond t (Some (position_or_len is_line_end text)) None)) h

-- a line end that was read ends the first line
ended_at : (p left : List ℕ) (at : ℕ) → position is_line_end p ≡ Some at → is_ended (p ++ left) ≡ true
ended_at p left at h =
    let f = found_is is_line_end p at h in
    let f0 = f.0 in
    let f1 = f.1 in
    let within : position_or_len is_line_end (p ++ left) < length (p ++ left) = let k = first_kept is_line_end p left (omega arith) in omega (arith, length-append p left) in
    has_end (p ++ left) true (is_less (position_or_len is_line_end (p ++ left)) (length (p ++ left)) within)

-- where none was read at the end of the text, none ends it
unended_last : (p : List ℕ) → position is_line_end p ≡ None → is_ended p ≡ false
unended_last p h = ap is_some h

pub gives_ended : (p : List ℕ) (room : ℕ) (pending' : List ℕ) (room' : ℕ) (left : Option (List ℕ)) (at : ℕ) (line : Line) → position is_line_end p ≡ Some at → limit_at at (at + 1) room ≡ None
    → line.bytes ≡ strip_carriage_return (take at p) → line.ended ≡ true → pending' ≡ drop (at + 1) p → room' ≡ room - (at + 1)
    → TellsLine room (with_read p left) (Ok (Some line)) room' (with_read pending' left)
gives_ended p room pending' room' None at line found goes bytes ended rest falls = refl
gives_ended p room pending' room' (Some left) at line found goes bytes ended rest falls =
    let after : after_line (p ++ left) ≡ drop (at + 1) p ++ left = after_line_at p left at found in (
      pieces_at room p left at found
          ∙ ap (λ (s : Option Limit). pieces_at_limit s (strip_carriage_return (take at p)) (pieces (room - (at + 1)) (drop (at + 1) p ++ left))) goes
          ∙ ap (λ (x : List ℕ). Whole x ∷ pieces (room - (at + 1)) (drop (at + 1) p ++ left)) (sym bytes)
          ∙ ap (λ (n : ℕ). Whole line.bytes ∷ pieces n (drop (at + 1) p ++ left)) (sym falls)
          ∙ ap (λ (x : List ℕ). Whole line.bytes ∷ pieces room' x) (sym after),
      ap Some (ap (λ (x : List ℕ). x ++ left) rest ∙ sym after),
      ended ∙ sym (ended_at p left at found),
    )

stops_ended : (p : List ℕ) (room : ℕ) (room' : ℕ) (left : Option (List ℕ)) (at : ℕ) (limit : Limit) → position is_line_end p ≡ Some at → limit_at at (at + 1) room ≡ Some limit
    → TellsLine room (with_read p left) (Err (fault_of limit)) room' (with_read p left)
stops_ended p room room' None at limit found stops = refl
stops_ended p room room' (Some left) at Long found stops =
    (pieces_at room p left at found ∙ ap (λ (s : Option Limit). pieces_at_limit s (strip_carriage_return (take at p)) (pieces (room - (at + 1)) (drop (at + 1) p ++ left))) stops, refl)
stops_ended p room room' (Some left) at Large found stops =
    (pieces_at room p left at found ∙ ap (λ (s : Option Limit). pieces_at_limit s (strip_carriage_return (take at p)) (pieces (room - (at + 1)) (drop (at + 1) p ++ left))) stops, refl)

some_length : (b : ℕ) (bs : List ℕ) (x y : List Piece) → cond (length (b ∷ bs) == 0) x y ≡ y
some_length b bs x y = ap (λ (t : Bool). cond t x y) (eqb-suc-zero (length bs))

-- the pieces of a last line
pub pieces_last : (room : ℕ) (p : List ℕ) → 0 < length p → position is_line_end p ≡ None → pieces room p ≡ pieces_at_limit (limit_at (length p) (length p) room) p []
pieces_last room [] some h = absurd (omega arith)
pieces_last room (b ∷ bs) some h = ap (pieces_of_parts room) (slice_split_none is_line_end (b ∷ bs) (unended (b ∷ bs) h))
    ∙ some_length b bs [] (pieces_from room (length (b ∷ bs)) (b ∷ bs) (b ∷ bs) []) ∙ pieces_from_is room (length (b ∷ bs)) (b ∷ bs) (b ∷ bs) []

-- a size without an end
pub plain : (n room : ℕ) (p : List ℕ) → n ≡ length p → limit_at n (n + 0) room ≡ limit_at (length p) (length p) room
plain n room p h = let e : n + 0 ≡ length p = omega arith in ap (λ (m : ℕ). limit_at n m room) e ∙ ap (λ (m : ℕ). limit_at m (length p) room) h

pub gives_last : (p : List ℕ) (room n : ℕ) (pending' : List ℕ) (room' : ℕ) (left : Option (List ℕ)) (line : Line) → IsAtEnd left → n ≡ length p → (n ≡ 0 → ⊥) → position is_line_end p ≡ None
    → limit_at n (n + 0) room ≡ None → line.bytes ≡ p → line.ended ≡ false → pending' ≡ []
    → TellsLine room (with_read p left) (Ok (Some line)) room' (with_read pending' left)
gives_last p room n pending' room' None line end size some none goes bytes ended rest = refl
gives_last p room n pending' room' (Some left) line end size some none goes bytes ended rest =
    let text : p ++ left ≡ p = ap (λ (x : List ℕ). p ++ x) end ∙ append-nil p in
    let after : after_line (p ++ left) ≡ [] = ap after_line text ∙ after_last_line p none in (
      ap (pieces room) text ∙ pieces_last room p (grind arith) none
          ∙ ap (λ (s : Option Limit). pieces_at_limit s p []) (sym (plain n room p size) ∙ goes) ∙ ap (λ (x : List ℕ). Whole x ∷ []) (sym bytes)
          ∙ ap (λ (x : List ℕ). Whole line.bytes ∷ pieces room' x) (sym after),
      ap Some (ap (λ (x : List ℕ). x ++ left) rest ∙ end ∙ sym after),
      ended ∙ sym (ap is_ended text ∙ unended_last p none),
    )

stops_last : (p : List ℕ) (room : ℕ) (room' : ℕ) (left : Option (List ℕ)) (limit : Limit) → IsAtEnd left → 0 < length p → position is_line_end p ≡ None
    → limit_at (length p) (length p) room ≡ Some limit
    → TellsLine room (with_read p left) (Err (fault_of limit)) room' (with_read p left)
stops_last p room room' None limit end some none stops = refl
stops_last p room room' (Some left) Long end some none stops =
    (ap (λ (x : List ℕ). pieces room (p ++ x)) end ∙ ap (pieces room) (append-nil p) ∙ pieces_last room p some none ∙ ap (λ (s : Option Limit). pieces_at_limit s p []) stops, refl)
stops_last p room room' (Some left) Large end some none stops =
    (ap (λ (x : List ℕ). pieces room (p ++ x)) end ∙ ap (pieces room) (append-nil p) ∙ pieces_last room p some none ∙ ap (λ (s : Option Limit). pieces_at_limit s p []) stops, refl)

-- the piece at which a text is refused so
abbrev limit_piece : Limit → List Piece
limit_piece Long = TooLong ∷ []
limit_piece Large = TooLarge ∷ []

neither : (b c : Bool) → c ≡ false → (b && c) ≡ false
neither true c h = h
neither false c h = refl

both : (b c : Bool) → b ≡ true → c ≡ true → (b && c) ≡ true
both true c h k = k
both false c h k = h

is_le : (a b : ℕ) → a ≤ b → nat_le a b ≡ true
is_le a b h = grind (arith, nat_tests)

is_not_le : (a b : ℕ) → b < a → nat_le a b ≡ false
is_not_le a b h = grind (arith, nat_tests)

past_by : (room size : ℕ) (part line : List ℕ) (rest : List Piece) (b : Bool) → nat_lt room longest_line ≡ b → length part ≤ size → min room longest_line < length part
    → pieces_from room size part line rest ≡ limit_piece (cond b Large Long)
past_by room size part line rest true is within past =
    let lt = less room longest_line is in
    ap (λ (t : Bool). cond t (TooLong ∷ []) (cond (nat_lt room size) (TooLarge ∷ []) (Whole line ∷ rest))) (neither (nat_lt longest_line (length part)) (nat_le longest_line room) (is_not_le longest_line room lt))
    ∙ ap (λ (t : Bool). cond t (TooLarge ∷ []) (Whole line ∷ rest)) (is_less room size (omega arith))
past_by room size part line rest false is within past =
    let le = not_less room longest_line is in
    ap (λ (t : Bool). cond t (TooLong ∷ []) (cond (nat_lt room size) (TooLarge ∷ []) (Whole line ∷ rest))) (both (nat_lt longest_line (length part)) (nat_le longest_line room) (is_less longest_line (length part) (omega arith)) (is_le longest_line room le))

pieces_from_past : (room size : ℕ) (part line : List ℕ) (rest : List Piece) → length part ≤ size → min room longest_line < length part → pieces_from room size part line rest ≡ limit_piece (limit_past room)
pieces_from_past room size part line rest within past = past_by room size part line rest (nat_lt room longest_line) refl within past

pieces_past : (room : ℕ) (x : List ℕ) (more : List (List ℕ)) → min room longest_line < length x → pieces_of_parts room (x ∷ more) ≡ limit_piece (limit_past room)
pieces_past room [] [] past = absurd (omega arith)
pieces_past room (b ∷ bs) [] past = some_length b bs [] (pieces_from room (length (b ∷ bs)) (b ∷ bs) (b ∷ bs) []) ∙ pieces_from_past room (length (b ∷ bs)) (b ∷ bs) (b ∷ bs) [] (omega arith) past
pieces_past room x (next ∷ more) past = pieces_from_past room (length x + 1) x (strip_carriage_return x) (pieces_of_parts (room - (length x + 1)) (next ∷ more)) (omega arith) past

-- the first part of a text that begins so
record FirstPart (p : List ℕ) (parts : List (List ℕ)) : Type 0 where
  first : List ℕ
  more : List (List ℕ)
  is : parts ≡ (p ++ first) ∷ more

first_part_of_all : (parts : List (List ℕ)) → 0 < length parts → FirstPart [] parts
first_part_of_all [] h = absurd (omega arith)
first_part_of_all (x ∷ more) h = record { first = x; more = more; is = refl }

first_part_more : (b : ℕ) (p left : List ℕ) → is_line_end b ≡ false → FirstPart p (slice_split is_line_end (p ++ left)) → FirstPart (b ∷ p) (slice_split is_line_end (b ∷ (p ++ left)))
first_part_more b p left other h = record { first = h.first; more = h.more; is = slice_split-cons_no is_line_end b (p ++ left) other ∙ ap (onto_first b) h.is }

first_part_of : (p left : List ℕ) → All (λ b. is_line_end b ≡ false) p → FirstPart p (slice_split is_line_end (p ++ left))
first_part_of [] left h = first_part_of_all (slice_split is_line_end left) (omega (arith, length-slice_split is_line_end left))
first_part_of (b ∷ p) left h = first_part_more b p left (h 0 b (omega arith)) (first_part_of p left (λ k d lt. h (suc k) d (omega arith)))

past_piece : (room : ℕ) (p left : List ℕ) → position is_line_end p ≡ None → min room longest_line < length p → pieces room (p ++ left) ≡ limit_piece (limit_past room)
past_piece room p left none past =
    let b = first_part_of p left (unended p none) in
    ap (pieces_of_parts room) b.is ∙ pieces_past room (p ++ b.first) b.more (omega (arith, length-append p b.first))

past_step : (limit : Limit) (room room' : ℕ) (text : List ℕ) → pieces room text ≡ limit_piece limit → TellsLine room (Some text) (Err (fault_of limit)) room' (Some text)
past_step Long room room' text h = (h, refl)
past_step Large room room' text h = (h, refl)

past_told : (p : List ℕ) (room : ℕ) (limit : Limit) (room' : ℕ) (left : Option (List ℕ)) → position is_line_end p ≡ None → min room longest_line < length p → limit ≡ limit_past room
    → TellsLine room (with_read p left) (Err (fault_of limit)) room' (with_read p left)
past_told p room limit room' None none past is = refl
past_told p room limit room' (Some left) none past is = past_step limit room room' (p ++ left) (past_piece room p left none past ∙ ap limit_piece (sym is))

-- The same, as the code tells them.
pub stopped_ended : (p : List ℕ) (room : ℕ) (room' : ℕ) (left : Option (List ℕ)) (at : ℕ) (limit : CodeLimit) (error : LineFault) → position is_line_end p ≡ Some at
    → shown_limit (Some limit) ≡ limit_at at (at + 1) room → IfSome (shown_limit (Some limit)) (λ s. error ≡ fault_of s)
    → TellsLine room (with_read p left) (Err error) room' (with_read p left)
stopped_ended p room room' left at CodeLong error found stops is = rw is (stops_ended p room room' left at Long found (sym stops))
stopped_ended p room room' left at CodeLarge error found stops is = rw is (stops_ended p room room' left at Large found (sym stops))

pub stopped_last : (p : List ℕ) (room n room' : ℕ) (left : Option (List ℕ)) (limit : CodeLimit) (error : LineFault) → IsAtEnd left → n ≡ length p → (n ≡ 0 → ⊥) → position is_line_end p ≡ None
    → shown_limit (Some limit) ≡ limit_at n (n + 0) room → IfSome (shown_limit (Some limit)) (λ s. error ≡ fault_of s)
    → TellsLine room (with_read p left) (Err error) room' (with_read p left)
stopped_last p room n room' left CodeLong error end size some none stops is = rw is (stops_last p room room' left Long end (grind arith) none (sym (stops ∙ plain n room p size)))
stopped_last p room n room' left CodeLarge error end size some none stops is = rw is (stops_last p room room' left Large end (grind arith) none (sym (stops ∙ plain n room p size)))

pub stopped_past : (p : List ℕ) (room : ℕ) (room' : ℕ) (left : Option (List ℕ)) (limit : CodeLimit) (error : LineFault) → position is_line_end p ≡ None → min room longest_line < length p
    → shown_limit (Some limit) ≡ Some (limit_past room) → IfSome (shown_limit (Some limit)) (λ s. error ≡ fault_of s)
    → TellsLine room (with_read p left) (Err error) room' (with_read p left)
stopped_past p room room' left CodeLong error none past stops is = rw is (past_told p room Long room' left none past cc)
stopped_past p room room' left CodeLarge error none past stops is = rw is (past_told p room Large room' left none past cc)

-- no limit is told where none was found
pub none_stops : (limit : Option CodeLimit) (x : Option Limit) → shown_limit limit ≡ x → ((s : CodeLimit) → limit ≡ Some s → ⊥) → x ≡ None
none_stops None x is other = sym is
none_stops (Some s) x is other = absurd (other s refl)
