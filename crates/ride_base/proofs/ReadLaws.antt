use Rattle.std.proofs.Common.{◌≡◌, ℕ, suc, zero, ◌+◌, ◌-◌, ◌<◌, ◌≤◌, min, Bool, true, false, cond, List, [], ◌∷◌, ◌++◌, drop, length, position, Option, Some, None, refl, sym, ap, ◌∙◌, arith, append_assoc, length-append, length-drop}
use Rattle.std.specs.Prelude.{nat_lt, not}
use Rattle.std.specs.List.{All, position_or_len}
use Rattle.ride_base.specs.Buffers.{IsWithinARead, with_read}
use Rattle.ride_base.specs.Pieces.{after_line, is_ended, is_line_end, longest_line}
use Rattle.ride_base.specs.Prefixes.{AreFirstLines, AreBefore, AreUnended, IsReadNear, all_ended, size_of_lines}
use Rattle.ride_base.specs.Reader.{longest_read}
use Rattle.ride_base.proofs.Positions.{found_is, less, not_less}
use Rattle.ride_base.proofs.Prefixes.{before_still as still_before, length_map, some_ended}

-- Laws of how far a text is read.

place_step : (b : Bool) (m n : ℕ) → b ≡ false → m ≡ n → cond (not b) (1 + m) 0 ≡ suc n
place_step true m n h e = absurd (let f : true ≡ false = h in cc)
place_step false m n h e = omega (arith, e)

-- the first line end stands behind a part that has none
end_behind : (part more : List ℕ) → All (λ b. is_line_end b ≡ false) part → position_or_len is_line_end (part ++ 10 ∷ more) ≡ length part
end_behind [] more h = refl
end_behind (x ∷ xs) more h = place_step (is_line_end x) (position_or_len is_line_end (xs ++ 10 ∷ more)) (length xs) (h 0 x (omega arith)) (end_behind xs more (λ k d lt. h (suc k) d (omega arith)))

drop_part : (part more : List ℕ) → drop (length part + 1) (part ++ 10 ∷ more) ≡ more
drop_part [] more = refl
drop_part (x ∷ xs) more = let e : length (x ∷ xs) + 1 ≡ suc (length xs + 1) = omega arith in ap (λ (n : ℕ). drop n (x ∷ (xs ++ 10 ∷ more))) e ∙ drop_part xs more

-- the line behind lines that are ended
size_step : (all n place : ℕ) (text rest : List ℕ) → position_or_len is_line_end text ≡ place → after_line text ≡ rest → size_of_lines (suc (suc n)) all text ≡ place + 1 + size_of_lines (suc n) (all - (place + 1)) rest
size_step all n place text rest e a =
    ap (λ (k : ℕ). k + 1 + size_of_lines (suc n) (all - (k + 1)) (after_line text)) e ∙ ap (λ (x : List ℕ). place + 1 + size_of_lines (suc n) (all - (place + 1)) x) a

size_parts : (parts : List (List ℕ)) (rest : List ℕ) (all room : ℕ) → AreUnended parts → length (all_ended parts) + room ≡ all
    → size_of_lines (suc (length parts)) all (all_ended parts ++ rest) ≡ length (all_ended parts) + (min (min room longest_line) (position_or_len is_line_end rest) + 1)
size_parts [] rest all room u spent = let e : room ≡ all = omega (arith, spent) in ap (λ (n : ℕ). min (min n longest_line) (position_or_len is_line_end rest) + 1) (sym e) ∙ omega arith
size_parts (part ∷ parts) rest all room u spent =
    let more = all_ended parts ++ rest in
    let text : (part ++ 10 ∷ all_ended parts) ++ rest ≡ part ++ 10 ∷ more = append_assoc part (10 ∷ all_ended parts) rest in
    let place : position_or_len is_line_end ((part ++ 10 ∷ all_ended parts) ++ rest) ≡ length part = ap (position_or_len is_line_end) text ∙ end_behind part more u.0 in
    let behind : after_line ((part ++ 10 ∷ all_ended parts) ++ rest) ≡ more = ap after_line text ∙ ap (λ (n : ℕ). drop (n + 1) (part ++ 10 ∷ more)) (end_behind part more u.0) ∙ drop_part part more in
    let size : length (part ++ 10 ∷ all_ended parts) ≡ length part + suc (length (all_ended parts)) = length-append part (10 ∷ all_ended parts) in
    let step = size_step all (length parts) (length part) ((part ++ 10 ∷ all_ended parts) ++ rest) more place behind in
    let rest_is = size_parts parts rest (all - (length part + 1)) room u.1 (omega (arith, spent, size)) in
    omega (arith, step, rest_is, size)

-- one line more brings the end no nearer
size_grows : (n room : ℕ) (text : List ℕ) → size_of_lines n room text ≤ size_of_lines (suc n) room text
size_grows zero room text = omega arith
size_grows (suc zero) room text = let place = position_or_len is_line_end text in omega arith
size_grows (suc (suc n)) room text =
    let place = position_or_len is_line_end text in
    let more = size_grows (suc n) (room - (place + 1)) (after_line text) in
    omega (arith, more)

pub near_grows : (n room : ℕ) (text : List ℕ) (left : Option (List ℕ)) → IsReadNear n room text left → IsReadNear (n + 1) room text left
near_grows n room text None near = near
near_grows n room text (Some left) near =
    let e : n + 1 ≡ suc n = omega arith in
    let same : size_of_lines (n + 1) room text ≡ size_of_lines (suc n) room text = ap (λ (k : ℕ). size_of_lines k room text) e in
    omega (arith, near, same, size_grows n room text)

-- the size of a text of which these are the first lines
size_of_text : (all room : ℕ) (text : List ℕ) (lines : List (List ℕ)) (rest : List ℕ) → AreFirstLines all text lines room rest
    → (length text + (min (min room longest_line) (position_or_len is_line_end rest) + 1) ≡ size_of_lines (length lines + 1) all text + length rest)
size_of_text all room text lines rest f =
    let count : length lines ≡ length f.parts = ap length f.are_lines ∙ length_map _ f.parts in
    let size : length text ≡ length (all_ended f.parts) + length rest = ap length f.is_text ∙ length-append (all_ended f.parts) rest in
    let same : size_of_lines (length lines + 1) all text ≡ size_of_lines (suc (length f.parts)) all (all_ended f.parts ++ rest) = (let e : length lines + 1 ≡ suc (length f.parts) = omega (arith, count) in ap (λ (n : ℕ). size_of_lines n all text) e) ∙ ap (size_of_lines (suc (length f.parts)) all) f.is_text in
    let parts = size_parts f.parts rest all room f.unended_parts f.spent in
    omega (arith, size, same, parts)

-- What a call reads that goes at most one read past the next line is near it, where no more was held than one read brings.
pub near_next : (all room : ℕ) (text : List ℕ) (lines : List (List ℕ)) (pending : List ℕ) (left left' : Option (List ℕ)) → AreBefore all text lines room pending left → length pending ≤ longest_read
    → IsWithinARead (min room longest_line) pending left left' → IsReadNear (length lines + 1) all text left'
near_next all room text lines pending None left' f few within = absurd f
near_next all room text lines pending (Some l) None f few within = absurd within
near_next all room text lines pending (Some l) (Some l') f few within =
    let size = size_of_text all room text lines (pending ++ l) f in
    let parts = length-append pending l in
    on (nat_lt (length l') (length l)) refl
  where
    on : (b : Bool) → nat_lt (length l') (length l) ≡ b → length text ≤ length l' + size_of_lines (length lines + 1) all text + longest_read
    on true e =
        let size = size_of_text all room text lines (pending ++ l) f in
        let parts = length-append pending l in
        let near = within (less (length l') (length l) e) in
        omega (arith, size, parts, near)
    on false e =
        let size = size_of_text all room text lines (pending ++ l) f in
        let parts = length-append pending l in
        omega (arith, size, parts, few, not_less (length l') (length l) e)

-- Behind an ended line no more is held than one read brings.
pub few_next : (most : ℕ) (pending pending' l l' : List ℕ) → length pending ≤ longest_read → IsWithinARead most pending (Some l) (Some l') → is_ended (pending ++ l) ≡ true
    → pending' ++ l' ≡ after_line (pending ++ l) → length pending' ≤ longest_read
few_next most pending pending' l l' few within ended is = on (nat_lt (length l') (length l)) refl
  where
    place : ℕ
    place = position_or_len is_line_end (pending ++ l)

    inside : place < length (pending ++ l)
    inside = let f = some_ended (position is_line_end (pending ++ l)) ended in let h = found_is is_line_end (pending ++ l) f.0 f.1 in let h0 = h.0 in let h1 = h.1 in omega (arith, h0, h1)

    sizes : length pending' + length l' + (place + 1) ≡ length pending + length l
    sizes = let after : length (pending' ++ l') ≡ length (drop (place + 1) (pending ++ l)) = ap length is in omega (arith, after, inside, length-append pending' l', length-append pending l, length-drop (place + 1) (pending ++ l))

    on : (b : Bool) → nat_lt (length l') (length l) ≡ b → length pending' ≤ longest_read
    on true e = let near = within (less (length l') (length l) e) in omega (arith, sizes, near)
    on false e = omega (arith, sizes, few, not_less (length l') (length l) e)

-- more was read, and no line given
pub before_still : (p p' : List ℕ) (room : ℕ) (left left' : Option (List ℕ)) → with_read p' left' ≡ with_read p left
    → (all : ℕ) (text : List ℕ) (lines : List (List ℕ)) → AreBefore all text lines room p left → AreBefore all text lines room p' left'
before_still p p' room left left' e all text lines before = still_before p p' room left left' e all text lines before
