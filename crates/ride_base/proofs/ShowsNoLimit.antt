use Rattle.std.proofs.Common.{◌≡◌, ℕ, ◌+◌, ◌-◌, ◌<◌, ◌≤◌, min, List, [], ◌∷◌, ◌++◌, take, drop, length, position, Option, Some, None, refl, sym, ap, subst, ◌∙◌, arith, append-nil, inl, inr}
use Rattle.std.specs.Prelude.{nat_lt, nat_le, cond, ◌&&◌, Bool}
use Rattle.std.specs.Str.Lines.{strip_carriage_return}
use Rattle.ride_base.specs.Buffers.{limit_at}
use Rattle.ride_base.specs.Pieces.{Piece, Whole, IsRefused, pieces, is_line_end, longest_line}
use Rattle.ride_base.specs.Reader.{Limit, Long, Large}
use Rattle.ride_base.proofs.Positions.{is_not_less}
use Rattle.ride_base.proofs.TellsLine.{pieces_at_limit, pieces_at, pieces_last, plain}

-- What was read and not given shows no limit.

whole_shows_none : (line : List ℕ) (rest : List Piece) → IsRefused (Whole line ∷ rest) → ⊥
whole_shows_none line rest (inl e) = cc
whole_shows_none line rest (inr e) = cc

nothing_shows_none : (ps : List Piece) → ps ≡ [] → IsRefused ps → ⊥
nothing_shows_none ps is (inl e) = cc
nothing_shows_none ps is (inr e) = cc

-- a line whose end was read
pub ended_shows_none : (p : List ℕ) (room at : ℕ) → position is_line_end p ≡ Some at → limit_at at (at + 1) room ≡ None → IsRefused (pieces room p) → ⊥
ended_shows_none p room at found none refused =
    let line = strip_carriage_return (take at p) in
    let rest = pieces (room - (at + 1)) (drop (at + 1) p ++ []) in
    let is : pieces room p ≡ Whole line ∷ rest =
    ap (pieces room) (sym (append-nil p)) ∙ pieces_at room p [] at found ∙ ap (λ (s : Option Limit). pieces_at_limit s line rest) none in
    whole_shows_none line rest (subst (λ (ps : List Piece). IsRefused ps) is refused)

unended_shows_none : (p : List ℕ) (room : ℕ) → 0 < length p → position is_line_end p ≡ None → limit_at (length p) (length p) room ≡ None → IsRefused (pieces room p) → ⊥
unended_shows_none p room some none goes refused =
    let is : pieces room p ≡ Whole p ∷ [] = pieces_last room p some none ∙ ap (λ (s : Option Limit). pieces_at_limit s p []) goes in
    whole_shows_none p [] (subst (λ (ps : List Piece). IsRefused ps) is refused)

-- a last line
pub last_shows_none : (p : List ℕ) (room n : ℕ) → n ≡ length p → (n ≡ 0 → ⊥) → position is_line_end p ≡ None → limit_at n (n + 0) room ≡ None → IsRefused (pieces room p) → ⊥
last_shows_none p room n size some none goes = unended_shows_none p room (grind arith) none (sym (plain n room p size) ∙ goes)

no_limit : (n room : ℕ) → n ≤ min room longest_line → limit_at n n room ≡ None
no_limit n room few =
    ap (λ (b : Bool). cond (b && nat_le longest_line room) (Some Long) (cond (nat_lt room n) (Some Large) None)) (is_not_less longest_line n (omega arith))
    ∙ ap (λ (b : Bool). cond b (Some Large) None) (is_not_less room n (omega arith))

-- no more bytes than a line may have, none of which is a line end
pub short_shows_none : (p : List ℕ) (room : ℕ) → position is_line_end p ≡ None → length p ≤ min room longest_line → IsRefused (pieces room p) → ⊥
short_shows_none [] room none few = nothing_shows_none (pieces room []) refl
short_shows_none (b ∷ bs) room none few = unended_shows_none (b ∷ bs) room (omega arith) none (no_limit (length (b ∷ bs)) room few)
