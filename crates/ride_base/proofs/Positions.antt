use Rattle.std.proofs.Common.{◌≡◌, ℕ, suc, zero, ◌+◌, ◌-◌, ◌<◌, ◌≤◌, Bool, true, false, not, cond, List, [], ◌∷◌, ◌++◌, take, drop, length, position, Option, Some, None, Result, Ok, Err, refl, sym, ap, ◌∙◌, arith, length-drop, length-take}
use Rattle.std.specs.Prelude.{nat_lt, IfOk, OnErr}
use Rattle.ride_base.specs.Buffers.{Gains}
use Rattle.std.specs.List.{position_or_len, All}
use Rattle.std.proofs.lemmas.Bool.Decides.{nat_tests}
use Rattle.std.proofs.lemmas.List.{get_or-take, take_rest}
use Rattle.std.proofs.lemmas.List.Sums.{fails_before_first}
use Rattle.ride_base.specs.Pieces.{is_line_end}

within_step : (b : Bool) (m n : ℕ) → m ≤ n → cond (not b) (1 + m) 0 ≤ n + 1
within_step true m n h = omega arith
within_step false m n h = omega arith

-- the first place that passes is within the list, or its length
pub first_within : (p : ℕ → Bool) (xs : List ℕ) → position_or_len p xs ≤ length xs
first_within p [] = omega arith
first_within p (x ∷ xs) = let h = within_step (p x) (position_or_len p xs) (length xs) (first_within p xs) in omega arith

searched_step : (b : Bool) (m r d : ℕ) → m + 1 ≤ cond (not b) (1 + r) 0 → (m ≤ r → r ≡ m + d) → cond (not b) (1 + r) 0 ≡ m + 1 + d
searched_step true m r d h f = absurd (omega arith)
searched_step false m r d h f = let e = f (omega arith) in omega arith

-- the first place that passes, sought behind some that don't
pub first_behind : (p : ℕ → Bool) (xs : List ℕ) (n : ℕ) → n ≤ position_or_len p xs → position_or_len p xs ≡ n + position_or_len p (drop n xs)
first_behind p xs zero h = omega arith
first_behind p [] (suc m) h = absurd (omega arith)
first_behind p (x ∷ xs) (suc m) h =
    let e = searched_step (p x) m (position_or_len p xs) (position_or_len p (drop m xs)) (omega arith) (first_behind p xs m) in omega arith

append_step : (b : Bool) (m n : ℕ) → m ≤ n → cond (not b) (1 + m) 0 ≤ cond (not b) (1 + n) 0
append_step true m n h = omega arith
append_step false m n h = omega arith

-- further elements bring the first place that passes no nearer
pub first_append : (p : ℕ → Bool) (xs ys : List ℕ) → position_or_len p xs ≤ position_or_len p (xs ++ ys)
first_append p [] ys = omega arith
first_append p (x ∷ xs) ys = append_step (p x) (position_or_len p xs) (position_or_len p (xs ++ ys)) (first_append p xs ys)

kept_step : (b : Bool) (m n l : ℕ) → cond (not b) (1 + m) 0 < l + 1 → (m < l → n ≡ m) → cond (not b) (1 + n) 0 ≡ cond (not b) (1 + m) 0
kept_step true m n l h f = refl
kept_step false m n l h f = let e = f (omega arith) in omega arith

-- the first place that passes stays so before further elements
pub first_kept : (p : ℕ → Bool) (xs ys : List ℕ) → position_or_len p xs < length xs → position_or_len p (xs ++ ys) ≡ position_or_len p xs
first_kept p [] ys h = absurd (omega arith)
first_kept p (x ∷ xs) ys h = kept_step (p x) (position_or_len p xs) (position_or_len p (xs ++ ys)) (length xs) (omega arith) (first_kept p xs ys)

some_is : (b : Bool) (n k : ℕ) → cond b (Some n) None ≡ Some k → (b ≡ true) × (n ≡ k)
some_is true n k h = (refl, cc)
some_is false n k h = (cc, cc)

none_is : (b : Bool) (n : ℕ) → cond b (Some n) None ≡ None → b ≡ false
none_is true n h = cc
none_is false n h = refl

pub less : (a b : ℕ) → nat_lt a b ≡ true → a < b
less a b h = grind (arith, nat_tests)

pub not_less : (a b : ℕ) → nat_lt a b ≡ false → b ≤ a
not_less a b h = grind (arith, nat_tests)

pub is_less : (a b : ℕ) → a < b → nat_lt a b ≡ true
is_less a b h = grind (arith, nat_tests)

pub is_not_less : (a b : ℕ) → b ≤ a → nat_lt a b ≡ false
is_not_less a b h = grind (arith, nat_tests)

-- a place that was found
pub found_is : (p : ℕ → Bool) (xs : List ℕ) (k : ℕ) → position p xs ≡ Some k → (position_or_len p xs ≡ k) × (k < length xs)
found_is p xs k h =
    let s = some_is (nat_lt (position_or_len p xs) (length xs)) (position_or_len p xs) k h in
    let lt = less (position_or_len p xs) (length xs) s.0 in
    let e = s.1 in
    (e, omega arith)

-- none was found
pub none_found_is : (p : ℕ → Bool) (xs : List ℕ) → position p xs ≡ None → position_or_len p xs ≡ length xs
none_found_is p xs h =
    let lt = not_less (position_or_len p xs) (length xs) (none_is (nat_lt (position_or_len p xs) (length xs)) (position_or_len p xs) h) in
    let w = first_within p xs in omega arith

pub finds : (p : ℕ → Bool) (xs : List ℕ) (k : ℕ) → position_or_len p xs ≡ k → k < length xs → Some k ≡ position p xs
finds p xs k e lt = sym (ap (λ b. cond b (Some (position_or_len p xs)) None) (is_less (position_or_len p xs) (length xs) (omega arith)) ∙ ap Some e)

pub finds_none : (p : ℕ → Bool) (xs : List ℕ) → length xs ≤ position_or_len p xs → None ≡ position p xs
finds_none p xs le = sym (ap (λ b. cond b (Some (position_or_len p xs)) None) (is_not_less (position_or_len p xs) (length xs) le))

-- what is found behind some that don't pass is what is found in all
pub finds_behind : (p : ℕ → Bool) (xs : List ℕ) (n k : ℕ) → n ≤ position_or_len p xs → Some k ≡ position p (take (length xs - n) (drop n xs)) → Some (n + k) ≡ position p xs
finds_behind p xs n k h found =
    let f = found_is p (drop n xs) k (sym (rw take_rest at found)) in
    let e = first_behind p xs n h in
    let l = length-drop n xs in
    let f0 = f.0 in
    let f1 = f.1 in
    finds p xs (n + k) (omega arith) (omega arith)

pub finds_none_behind : (p : ℕ → Bool) (xs : List ℕ) (n : ℕ) → n ≤ position_or_len p xs → None ≡ position p (take (length xs - n) (drop n xs)) → None ≡ position p xs
finds_none_behind p xs n h found =
    let f = none_found_is p (drop n xs) (sym (rw take_rest at found)) in
    let e = first_behind p xs n h in
    let l = length-drop n xs in
    finds_none p xs (omega arith)

-- no line end stands before the first
pub unended_before : (p : List ℕ) (at : ℕ) → position is_line_end p ≡ Some at → All (λ b. is_line_end b ≡ false) (take at p)
unended_before p at h = λ k d lt.
    let f = (found_is is_line_end p at h).0 in
    let below : k < at = omega (arith, length-take at p) in
    rw (get_or-take at p k d below) (fails_before_first is_line_end p k d (omega arith))

-- where none was found no byte is a line end
pub unended : (p : List ℕ) → position is_line_end p ≡ None → All (λ b. is_line_end b ≡ false) p
unended p h = λ k d lt. fails_before_first is_line_end p k d (let e = none_found_is is_line_end p h in omega arith)

-- what was searched stays so where bytes are read behind it, or none are
pub searched_more : {E : Type 0} (answer : Result ℕ E) (old new : List ℕ) (left left' : Option (List ℕ)) (n : ℕ) → n ≤ position_or_len is_line_end old
    → IfOk answer (λ k. Gains old new left left' k) → OnErr answer (new ≡ old) → n ≤ position_or_len is_line_end new
searched_more (Ok k) old new left left' n h ok err =
    let e : position_or_len is_line_end new ≡ position_or_len is_line_end (old ++ take k ok.piece) = ap (position_or_len is_line_end) ok.added in
    omega (arith, first_append is_line_end old (take k ok.piece), e)
searched_more (Err e) old new left left' n h ok err =
    let e : position_or_len is_line_end new ≡ position_or_len is_line_end old = ap (position_or_len is_line_end) err in
    omega arith
