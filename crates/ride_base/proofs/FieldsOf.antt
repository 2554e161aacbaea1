use Rattle.std.proofs.Common.{◌≡◌, ℕ, suc, ◌+◌, ◌-◌, ◌<◌, Bool, true, false, cond, List, [], ◌∷◌, ◌++◌, take, drop, length, position, get_or, Some, None, refl, sym, ap, ◌∙◌, subst, arith, length-drop, length-take, append-nil, filter}
use Rattle.std.specs.Prelude.{not}
use Rattle.std.specs.List.{slice_split, position_or_len, All}
use Rattle.std.proofs.Math.Dec.{eqb-suc-zero}
use Rattle.std.proofs.lemmas.List.{drop_more, take-append-drop, take_rest, get_or-take}
use Rattle.std.proofs.lemmas.List.Splits.{slice_split_at, slice_split_none}
use Rattle.std.proofs.lemmas.List.Sums.{fails_before_first, passes_at_first}
use Rattle.ride_base.specs.Fields.{fields_of, is_blank, is_unblank, has_bytes}
use Rattle.ride_base.proofs.Positions.{found_is, none_found_is, first_within}

not_false : (b : Bool) → not b ≡ false → b ≡ true
not_false true h = refl
not_false false h = cc

not_true : (b : Bool) → not b ≡ true → b ≡ false
not_true true h = cc
not_true false h = refl

-- blanks at the start count for nothing
skip : (xs rest : List ℕ) → All (λ b. is_blank b ≡ true) xs → fields_of (xs ++ rest) ≡ fields_of rest
skip [] rest h = refl
skip (x ∷ xs) rest h = ap (filter has_bytes) (slice_split_at is_blank [] x (xs ++ rest) (λ k d lt. absurd (omega arith)) (h 0 x (omega arith))) ∙ skip xs rest (λ k d lt. h (suc k) d (omega arith))

-- a part with a byte is a field
keeps_part : (word : List ℕ) (parts : List (List ℕ)) → 0 < length word → filter has_bytes (word ∷ parts) ≡ word ∷ filter has_bytes parts
keeps_part [] parts h = absurd (omega arith)
keeps_part (x ∷ xs) parts h = ap (λ (t : Bool). cond (not t) ((x ∷ xs) ∷ filter has_bytes parts) (filter has_bytes parts)) (eqb-suc-zero (length xs))

-- the bytes before the first blank are the first field
front_by : (word rest : List ℕ) → 0 < length word → All (λ b. is_blank b ≡ false) word → (0 < length rest → is_blank (get_or rest 0 0) ≡ true) → fields_of (word ++ rest) ≡ word ∷ fields_of rest
front_by word [] some unblank blank = ap fields_of (append-nil word) ∙ ap (filter has_bytes) (slice_split_none is_blank word unblank) ∙ keeps_part word [] some
front_by word (b ∷ more) some unblank blank =
    let is : is_blank b ≡ true = blank (omega arith) in
    ap (filter has_bytes) (slice_split_at is_blank word b more unblank is) ∙ keeps_part word (slice_split is_blank more) some
    ∙ ap (λ (f : List (List ℕ)). word ∷ f) (sym (skip (b ∷ []) more (λ k d lt. let P : ℕ → Type 0 = λ n. is_blank (get_or (b ∷ []) n d) ≡ true in let e : 0 ≡ k = omega arith in subst P e is)))

front : (from : List ℕ) (end : ℕ) → end ≡ position_or_len is_blank from → 0 < end → fields_of from ≡ take end from ∷ fields_of (drop end from)
front from end is some =
    let within = first_within is_blank from in
    let size : length (take end from) ≡ end = omega (arith, length-take end from) in
    ap fields_of (sym (take-append-drop end from))
    ∙ front_by (take end from) (drop end from) (omega arith)
    (λ k d lt. let below : k < end = omega arith in rw (get_or-take end from k d below) (fails_before_first is_blank from k d (omega arith)))
    (λ more. let inside : position_or_len is_blank from < length from = omega (arith, length-drop end from) in
    let passes : is_blank (get_or from end 0) ≡ true = rw is (passes_at_first is_blank from 0 inside) in
    let lt : end < length from = omega arith in
    rw (drop_more from end 0 lt) passes)

begins_unblank : (x : ℕ) (xs : List ℕ) → is_blank x ≡ false → 0 < position_or_len is_blank (x ∷ xs)
begins_unblank x xs h = let e : position_or_len is_blank (x ∷ xs) ≡ 1 + position_or_len is_blank xs = ap (λ (t : Bool). cond (not t) (1 + position_or_len is_blank xs) 0) h in omega arith

unblank_from : (line : List ℕ) (start : ℕ) → position is_unblank line ≡ Some start → 0 < position_or_len is_blank (drop start line)
unblank_from line start h =
    let f = found_is is_unblank line start h in
    let f0 = f.0 in
    let f1 = f.1 in
    let passes : is_unblank (get_or line (position_or_len is_unblank line) 0) ≡ true = passes_at_first is_unblank line 0 (omega arith) in
    let is : is_blank (get_or line start 0) ≡ false = not_true (is_blank (get_or line start 0)) (rw f0 at passes) in
    rw (drop_more line start 0 f1) (begins_unblank (get_or line start 0) (drop (start + 1) line) is)

-- the rest of a line from its first byte that is no blank on has its fields
pub behind_blanks : (line : List ℕ) (start : ℕ) → position is_unblank line ≡ Some start → fields_of line ≡ fields_of (drop start line)
behind_blanks line start h =
    let f0 = (found_is is_unblank line start h).0 in
    let f1 = (found_is is_unblank line start h).1 in
    ap fields_of (sym (take-append-drop start line))
    ∙ skip (take start line) (drop start line) (λ k d lt. let below : k < start = omega (arith, length-take start line) in
    rw (get_or-take start line k d below) (not_false (is_blank (get_or line k d)) (fails_before_first is_unblank line k d (omega arith))))

-- the first field of a line, and the rest, as they are cut
pub cut_field : (line : List ℕ) (start end : ℕ) → position is_unblank line ≡ Some start → end ≡ position_or_len is_blank (take (length line - start) (drop start line))
    → fields_of line ≡ take end (take (length line - start) (drop start line)) ∷ fields_of (take (length (take (length line - start) (drop start line)) - end) (drop end (take (length line - start) (drop start line))))
cut_field line start end h is =
    let from : take (length line - start) (drop start line) ≡ drop start line = take_rest line start in
    let at : end ≡ position_or_len is_blank (drop start line) = is ∙ ap (position_or_len is_blank) from in
    let some = unblank_from line start h in
    rw (from, take_rest (drop start line) end) (behind_blanks line start h ∙ front (drop start line) end at (omega arith))

pub some_bytes : (line : List ℕ) (start end : ℕ) → position is_unblank line ≡ Some start → end ≡ position_or_len is_blank (take (length line - start) (drop start line))
    → 0 < length (take end (take (length line - start) (drop start line)))
some_bytes line start end h is =
    let from : take (length line - start) (drop start line) ≡ drop start line = take_rest line start in
    let at : end ≡ position_or_len is_blank (drop start line) = is ∙ ap (position_or_len is_blank) from in
    let some = unblank_from line start h in
    let within = first_within is_blank (drop start line) in
    rw from (omega (arith, length-take end (drop start line)))

-- a line with no byte but blanks has no field
pub no_fields : (line : List ℕ) → position is_unblank line ≡ None → fields_of line ≡ []
no_fields line h = ap fields_of (sym (append-nil line)) ∙ skip line [] (λ k d lt. not_false (is_blank (get_or line k d)) (fails_before_first is_unblank line k d (let e = none_found_is is_unblank line h in omega arith)))

pub ends_at_length : (bytes : List ℕ) → None ≡ position is_blank bytes → length bytes ≡ position_or_len is_blank bytes
ends_at_length bytes h = sym (none_found_is is_blank bytes (sym h))

pub ends_at : (bytes : List ℕ) (end : ℕ) → Some end ≡ position is_blank bytes → end ≡ position_or_len is_blank bytes
ends_at bytes end h = sym ((found_is is_blank bytes end (sym h)).0)
