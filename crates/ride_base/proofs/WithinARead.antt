use Rattle.std.proofs.Common.{◌≡◌, ℕ, ◌≤◌, List, ◌++◌, take, length, position, Option, Some, None, refl, sym, ap, ◌∙◌, arith, append_assoc, length-take, length-append}
use Rattle.std.specs.List.{position_or_len}
use Rattle.ride_base.specs.Buffers.{Gains, IsWithinARead, with_read}
use Rattle.ride_base.specs.Reader.{longest_read}
use Rattle.ride_base.specs.Pieces.{is_line_end}
use Rattle.ride_base.proofs.Positions.{first_append, none_found_is}

-- nothing came
pub within_start : (most : ℕ) (held : List ℕ) (left : Option (List ℕ)) → IsWithinARead most held left left
within_start most held None = tt
within_start most held (Some left) = λ more. absurd (omega arith)

same_text : (x y : List ℕ) → Some x ≡ Some y → x ≡ y
same_text x y h = cc

-- one read, where no line end was read before
pub within_more : (most : ℕ) (held read read' : List ℕ) (left before after : Option (List ℕ)) (k : ℕ) → with_read read before ≡ with_read held left → position is_line_end read ≡ None
    → length read ≤ most → k ≤ longest_read → Gains read read' before after k → IsWithinARead most held left after
within_more most held read read' None before after k same none few small gains = tt
within_more most held read read' (Some left) None after k same none few small gains = cc
within_more most held read read' (Some left) (Some before) None k same none few small gains = gains.moved
within_more most held read read' (Some left) (Some before) (Some after) k same none few small gains = λ more.
    let text : read ++ before ≡ held ++ left = same_text (read ++ before) (held ++ left) same in
    let place : position_or_len is_line_end (read ++ before) ≡ position_or_len is_line_end (held ++ left) = ap (position_or_len is_line_end) text in
    let size : length (read ++ before) ≡ length (held ++ left) = ap length text in
    let came : length before ≡ length (take k gains.piece ++ after) = ap length gains.moved.0 in
    omega (arith, few, place, size, came, none_found_is is_line_end read none, first_append is_line_end read before, length-append read before, length-append held left, length-append (take k gains.piece) after, length-take k gains.piece)

-- a read takes nothing from what was read and what is left together
pub unread_more : (read read' : List ℕ) (before after : Option (List ℕ)) (k : ℕ) → Gains read read' before after k → with_read read' after ≡ with_read read before
unread_more read read' None None k gains = refl
unread_more read read' None (Some after) k gains = absurd gains.moved
unread_more read read' (Some before) None k gains = absurd gains.moved
unread_more read read' (Some before) (Some after) k gains =
    ap Some (ap (λ (x : List ℕ). x ++ after) gains.added ∙ append_assoc read (take k gains.piece) after ∙ ap (λ (x : List ℕ). read ++ x) (sym gains.moved.0))
