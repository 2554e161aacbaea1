use Rattle.std.proofs.Common.{◌≡◌, ℕ, suc, ◌+◌, ◌-◌, ◌<◌, ◌≤◌, List, [], ◌∷◌, ◌++◌, true, false, Bool, Option, Some, None, Result, Ok, Err, refl, sym, ap, subst, ◌∙◌, arith, append_assoc, append-nil, map, length, length-append, take, drop, position, min}
use Rattle.std.specs.Prelude.{is_some, IfOk, IfSome}
use Rattle.std.specs.List.{All, slice_split}
use Rattle.std.specs.Str.Lines.{strip_carriage_return}
use Rattle.std.proofs.lemmas.List.Splits.{slice_split_at, slice_split_none, length-slice_split}
use Rattle.ride_base.specs.Buffers.{limit_at, with_read}
use Rattle.ride_base.specs.Pieces.{Piece, Whole, pieces, after_line, is_line_end, is_ended, ended_lines, ended_in_parts, longest_line}
use Rattle.ride_base.specs.Prefixes.{IsReadWithLines, AreFirstLines, AreBefore, AreUnended, all_ended, behind_line_ends, last_part}
use Rattle.ride_base.specs.Reader.{Limit, Long, Large}
use Rattle.ride_base.specs.Reading.{TellsLine, Spends, line_read}
use Rattle.ride_base.specs.declared.lines.Line.{Line}
use Rattle.ride_base.specs.declared.lines.LineFault.{LineFault}
use Rattle.ride_base.proofs.TellsLine.{pieces_at_limit, pieces_at, cut_at, after_line_at}
use Rattle.ride_base.proofs.Positions.{unended_before, unended}

-- Prefixes of a text: lines that were read whole, and what is left behind them.

some_parts : (x : List ℕ) (ps : List (List ℕ)) → 0 < length ps → ended_in_parts (x ∷ ps) ≡ strip_carriage_return x ∷ ended_in_parts ps
some_parts x [] h = absurd (omega arith)
some_parts x (p ∷ ps) h = refl

-- the lines of ended parts, and of bytes without a line end behind them
pub ended_parts : (parts : List (List ℕ)) (rest : List ℕ) → AreUnended parts → All (λ b. is_line_end b ≡ false) rest → ended_lines (all_ended parts ++ rest) ≡ map strip_carriage_return parts
ended_parts [] rest u h = ap ended_in_parts (slice_split_none is_line_end rest h)
ended_parts (x ∷ parts) rest u h =
    ap ended_lines (append_assoc x (10 ∷ all_ended parts) rest)
    ∙ ap ended_in_parts (slice_split_at is_line_end x 10 (all_ended parts ++ rest) u.0 refl)
    ∙ some_parts x (slice_split is_line_end (all_ended parts ++ rest)) (omega (arith, length-slice_split is_line_end (all_ended parts ++ rest)))
    ∙ ap (λ (l : List (List ℕ)). strip_carriage_return x ∷ l) (ended_parts parts rest u.1 h)

pub length_map : {X Y : Type 0} (f : X → Y) (xs : List X) → length (map f xs) ≡ length xs
length_map f [] = refl
length_map f (x ∷ xs) = ap suc (length_map f xs)

unended_more : (parts : List (List ℕ)) (part : List ℕ) → AreUnended parts → All (λ b. is_line_end b ≡ false) part → AreUnended (parts ++ part ∷ [])
unended_more [] part u h = (h, tt)
unended_more (x ∷ parts) part u h = (u.0, unended_more parts part u.1 h)

ended_more : (parts : List (List ℕ)) (part rest : List ℕ) → all_ended (parts ++ part ∷ []) ++ rest ≡ all_ended parts ++ (part ++ 10 ∷ rest)
ended_more [] part rest = append_assoc part (10 ∷ []) rest
ended_more (x ∷ parts) part rest = append_assoc x (10 ∷ all_ended (parts ++ part ∷ [])) rest ∙ ap (λ (l : List ℕ). x ++ 10 ∷ l) (ended_more parts part rest) ∙ sym (append_assoc x (10 ∷ all_ended parts) (part ++ 10 ∷ rest))

map_more : {X Y : Type 0} (f : X → Y) (xs : List X) (x : X) → map f (xs ++ x ∷ []) ≡ map f xs ++ f x ∷ []
map_more f [] x = refl
map_more {Y = Y} f (y ∷ xs) x = ap (λ (l : List Y). f y ∷ l) (map_more f xs x)

length_more : {X : Type 0} (xs : List X) (x : X) → length (xs ++ x ∷ []) ≡ length xs + 1
length_more [] x = refl
length_more (y ∷ xs) x = let e = length_more xs x in omega arith

-- a line that was given is the first piece
whole_is : (limit : Option Limit) (b l : List ℕ) (r q : List Piece) → Whole b ∷ r ≡ pieces_at_limit limit l q → b ≡ l
whole_is None b l r q e = cc
whole_is (Some Long) b l r q e = cc
whole_is (Some Large) b l r q e = cc

pub some_ended : (o : Option ℕ) → is_some o ≡ true → (k : ℕ) × (o ≡ Some k)
some_ended None e = absurd (let f : false ≡ true = e in cc)
some_ended (Some k) e = (k, refl)

-- what a line that was ended was cut from
pub record IsCut (rest bytes : List ℕ) : Type 0 where
  pub part : List ℕ
  pub unended_part : All (λ b. is_line_end b ≡ false) part
  pub is_rest : rest ≡ part ++ 10 ∷ after_line rest
  pub bytes_are : bytes ≡ strip_carriage_return part

pub is_cut : (room room' : ℕ) (rest bytes : List ℕ) → is_ended rest ≡ true → pieces room rest ≡ Whole bytes ∷ pieces room' (after_line rest) → IsCut rest bytes
is_cut room room' rest bytes e p =
    let f = some_ended (position is_line_end rest) e in
    let after : after_line rest ≡ drop (f.0 + 1) rest = ap after_line (sym (append-nil rest)) ∙ after_line_at rest [] f.0 f.1 ∙ append-nil (drop (f.0 + 1) rest) in
    let cut : pieces room rest ≡ pieces_at_limit (limit_at f.0 (f.0 + 1) room) (strip_carriage_return (take f.0 rest)) (pieces (room - (f.0 + 1)) (drop (f.0 + 1) rest ++ [])) = ap (pieces room) (sym (append-nil rest)) ∙ pieces_at room rest [] f.0 f.1 in
    record {
      part = take f.0 rest;
      unended_part = unended_before rest f.0 f.1;
      is_rest = cut_at rest f.0 f.1 ∙ ap (λ (l : List ℕ). take f.0 rest ++ 10 ∷ l) (sym after);
      bytes_are = whole_is (limit_at f.0 (f.0 + 1) room) bytes (strip_carriage_return (take f.0 rest)) (pieces room' (after_line rest)) (pieces (room - (f.0 + 1)) (drop (f.0 + 1) rest ++ [])) (sym p ∙ cut);
    }

-- nothing was read
pub nothing_read : (all : ℕ) (text : List ℕ) → AreFirstLines all text [] all text
nothing_read all text = record { parts = []; unended_parts = tt; are_lines = refl; is_text = refl; spent = omega arith; first = refl }

length_ended : (parts : List (List ℕ)) (part : List ℕ) → length (all_ended (parts ++ part ∷ [])) ≡ length (all_ended parts) + (length part + 1)
length_ended parts part = ap length (sym (append-nil (all_ended (parts ++ part ∷ []))) ∙ ended_more parts part []) ∙ length-append (all_ended parts) (part ++ 10 ∷ []) ∙ ap (λ (k : ℕ). length (all_ended parts) + k) (length_more part 10)

spent_more : (parts : List (List ℕ)) (part rest : List ℕ) (room room' all : ℕ) → length (all_ended parts) + room ≡ all → rest ≡ part ++ 10 ∷ after_line rest → room' + length rest ≡ room + length (after_line rest)
    → length (all_ended (parts ++ part ∷ [])) + room' ≡ all
spent_more parts part rest room room' all spent is spends =
    let whole = length_ended parts part in
    let cut : length rest ≡ length part + suc (length (after_line rest)) = ap length is ∙ length-append part (10 ∷ after_line rest) in
    omega arith

-- one line more was read
first_more : (all : ℕ) (text rest : List ℕ) (lines : List (List ℕ)) (bytes : List ℕ) (room room' : ℕ) → AreFirstLines all text lines room rest → is_ended rest ≡ true → pieces room rest ≡ Whole bytes ∷ pieces room' (after_line rest)
    → room' + length rest ≡ room + length (after_line rest) → AreFirstLines all text (lines ++ bytes ∷ []) room' (after_line rest)
first_more all text rest lines bytes room room' f e p spends =
    let c = is_cut room room' rest bytes e p in
    record {
      parts = f.parts ++ c.part ∷ [];
      unended_parts = unended_more f.parts c.part f.unended_parts c.unended_part;
      are_lines = ap (λ (l : List (List ℕ)). l ++ bytes ∷ []) f.are_lines ∙ ap (λ (b : List ℕ). map strip_carriage_return f.parts ++ b ∷ []) c.bytes_are ∙ sym (map_more strip_carriage_return f.parts c.part);
      is_text = f.is_text ∙ ap (λ (l : List ℕ). all_ended f.parts ++ l) c.is_rest ∙ sym (ended_more f.parts c.part (after_line rest));
      spent = spent_more f.parts c.part rest room room' all f.spent c.is_rest spends;
      first = f.first ∙ ap (λ (l : List Piece). map Whole lines ++ l) p ∙ sym (append_assoc (map Whole lines) (Whole bytes ∷ []) (pieces room' (after_line rest)))
          ∙ ap (λ (l : List Piece). l ++ pieces room' (after_line rest)) (sym (map_more Whole lines bytes));
    }

some_last : (x : List ℕ) (ps : List (List ℕ)) → 0 < length ps → last_part (x ∷ ps) ≡ last_part ps
some_last x [] h = absurd (omega arith)
some_last x (p ∷ ps) h = refl

-- bytes without a line end stand behind the ended parts
pub behind_parts : (parts : List (List ℕ)) (rest : List ℕ) → AreUnended parts → All (λ b. is_line_end b ≡ false) rest → behind_line_ends (all_ended parts ++ rest) ≡ rest
behind_parts [] rest u h = ap last_part (slice_split_none is_line_end rest h)
behind_parts (x ∷ parts) rest u h =
    ap behind_line_ends (append_assoc x (10 ∷ all_ended parts) rest)
    ∙ ap last_part (slice_split_at is_line_end x 10 (all_ended parts ++ rest) u.0 refl)
    ∙ some_last x (slice_split is_line_end (all_ended parts ++ rest)) (omega (arith, length-slice_split is_line_end (all_ended parts ++ rest)))
    ∙ behind_parts parts rest u.1 h

-- What was read where the shelf failed: the lines that were given, and bytes without a line end behind them.
failed_behind : (all : ℕ) (text rest pending l : List ℕ) (lines : List (List ℕ)) (room : ℕ) → AreFirstLines all text lines room rest → rest ≡ pending ++ l → position is_line_end pending ≡ None → length pending ≤ min room longest_line
    → IsReadWithLines all text lines (Some l)
failed_behind all text rest pending l lines room f is h few =
    let none = unended pending h in
    let ended : ended_lines (all_ended f.parts ++ pending) ≡ lines = ended_parts f.parts pending f.unended_parts none ∙ sym f.are_lines in (
      record {
        read = all_ended f.parts ++ pending;
        rest = l;
        left_is = refl;
        is_text = f.is_text ∙ ap (λ (x : List ℕ). all_ended f.parts ++ x) is ∙ sym (append_assoc (all_ended f.parts) pending l);
        more = pieces room rest;
        first = f.first ∙ ap (λ (x : List (List ℕ)). map Whole x ++ pieces room rest) (sym ended);
        short = let same : length (behind_line_ends (all_ended f.parts ++ pending)) ≡ length pending = ap length (behind_parts f.parts pending f.unended_parts none) in omega (arith, few);
        within = let whole = length-append (all_ended f.parts) pending in omega (arith, few, f.spent);
      },
      ended,
    )

-- one line more was given
one_given : (p p' : List ℕ) (room room' : ℕ) (left left' : Option (List ℕ)) (line : Line) → TellsLine room (with_read p left) (Ok (Some line)) room' (with_read p' left') → Spends room (with_read p left) room' (with_read p' left') → line.ended ≡ true
    → (all : ℕ) (text : List ℕ) (lines : List (List ℕ)) → AreBefore all text lines room p left → AreBefore all text (lines ++ line.bytes ∷ []) room' p' left'
one_given p p' room room' None left' line t s ended all text lines g = absurd g
one_given p p' room room' (Some l) None line t s ended all text lines g = let f = t.1 in cc
one_given p p' room room' (Some l) (Some l') line t s ended all text lines g =
    let is : p' ++ l' ≡ after_line (p ++ l) = (let f = t.1 in cc) in
    let spends : room' + length (p ++ l) ≡ room + length (after_line (p ++ l)) = s ∙ ap (λ (x : List ℕ). room + length x) is in
    subst (λ (x : List ℕ). AreFirstLines all text (lines ++ line.bytes ∷ []) room' x) (sym is)
    (first_more all text (p ++ l) lines line.bytes room room' g (sym t.2 ∙ ended) t.0 spends)

-- more was read, and no line given
pub before_still : (p p' : List ℕ) (room : ℕ) (left left' : Option (List ℕ)) → with_read p' left' ≡ with_read p left
    → (all : ℕ) (text : List ℕ) (lines : List (List ℕ)) → AreBefore all text lines room p left → AreBefore all text lines room p' left'
before_still p p' room None left' e all text lines g = absurd g
before_still p p' room (Some l) None e all text lines g = cc
before_still p p' room (Some l) (Some l') e all text lines g = let is : p ++ l ≡ p' ++ l' = cc in subst (λ (x : List ℕ). AreFirstLines all text lines room x) is g

-- what a call gave, behind what it read
pub line_goes : (p now p' : List ℕ) (room room' : ℕ) (left left' : Option (List ℕ)) (answer : Result Bool LineFault) (line : Line) → with_read now left' ≡ with_read p left
    → TellsLine room (with_read now left') (line_read answer line) room' (with_read p' left') → Spends room (with_read now left') room' (with_read p' left')
    → IfOk (line_read answer line) (λ o. IfSome o (λ given. given.ended ≡ true → (all : ℕ) (text : List ℕ) (lines : List (List ℕ)) → AreBefore all text lines room p left → AreBefore all text (lines ++ given.bytes ∷ []) room' p' left'))
line_goes p now p' room room' left left' (Ok true) line e t s = λ ended all text lines g. one_given now p' room room' left' left' line t s ended all text lines (before_still p now room left left' e all text lines g)
line_goes p now p' room room' left left' (Ok false) line e t s = tt
line_goes p now p' room room' left left' (Err error) line e t s = tt

-- the shelf failed
pub failed_at : (p now : List ℕ) (room : ℕ) (left left' : Option (List ℕ)) → with_read now left' ≡ with_read p left → position is_line_end now ≡ None → length now ≤ min room longest_line
    → (all : ℕ) (text : List ℕ) (lines : List (List ℕ)) → AreBefore all text lines room p left → IsReadWithLines all text lines left'
failed_at p now room None left' e none few all text lines g = absurd g
failed_at p now room (Some l) None e none few all text lines g = cc
failed_at p now room (Some l) (Some l') e none few all text lines g =
    let is : p ++ l ≡ now ++ l' = cc in
    failed_behind all text (p ++ l) now l' lines room g is none few
