use Rattle.std.proofs.Common.{◌≡◌, ℕ, ◌+◌, ◌≤◌, Bool, true, false, cond, List, [], ◌∷◌, ◌++◌, take, length, Option, Result, Ok, Err, ap, ◌∙◌, append_assoc, arith, length-append, length-take, add-one}
use Rattle.std.specs.Prelude.{IfOk, OnErr}
use Rattle.std.proofs.Math.Seq.{take-length}
use Rattle.std.proofs.lemmas.List.{take-take, take-append-le}
use Rattle.ride_base.specs.Buffers.{Gains}
use Rattle.ride_base.specs.Pieces.{longest_line}
use Rattle.ride_base.specs.Reader.{longest_read, most_held}

-- the first elements of two lists, past the first of them
take_past : (xs ys : List ℕ) (k : ℕ) → take (length xs + k) (xs ++ ys) ≡ xs ++ take k ys
take_past [] ys k = let e : 0 + k ≡ k = omega arith in ap (λ (n : ℕ). take n ys) e
take_past (x ∷ xs) ys k = let e : length (x ∷ xs) + k ≡ length xs + k + 1 = omega arith in rw e (rw add-one (ap (λ (r : List ℕ). x ∷ r) (take_past xs ys k)))

-- the front of a list that was filled up is the list
pub front_kept : (b : Bool) (d new old fill : List ℕ) (f m : ℕ) → new ≡ cond b (take m old ++ fill) old → d ≡ new → f ≡ length old → f ≤ m → take f d ≡ old
front_kept true d new old fill f m is same size le =
    ap (take f) (same ∙ is) ∙ take-append-le f (take m old) fill (omega (arith, length-take m old)) ∙ take-take f m old le ∙ ap (λ (n : ℕ). take n old) size ∙ take-length old
front_kept false d new old fill f m is same size le = ap (take f) (same ∙ is) ∙ ap (λ (n : ℕ). take n old) size ∙ take-length old

-- what was read into the place behind the old elements, cut to what came
pub filled : (d piece post rest old : List ℕ) (f k n : ℕ) → take f d ≡ old → f ≡ length old → k ≤ length piece → f + k ≤ n
    → take (f + k) (take n ((take f d ++ (piece ++ post)) ++ rest)) ≡ old ++ take k piece
filled d piece post rest old f k n front size within le =
    let parts : (take f d ++ (piece ++ post)) ++ rest ≡ old ++ (piece ++ (post ++ rest)) =
    ap (λ (z : List ℕ). (z ++ (piece ++ post)) ++ rest) front ∙ append_assoc old (piece ++ post) rest ∙ ap (λ (z : List ℕ). old ++ z) (append_assoc piece post rest) in
    take-take (f + k) n ((take f d ++ (piece ++ post)) ++ rest) le ∙ ap (take (f + k)) parts
    ∙ ap (λ (m : ℕ). take (m + k) (old ++ (piece ++ (post ++ rest)))) size ∙ take_past old (piece ++ (post ++ rest)) k
    ∙ ap (λ (z : List ℕ). old ++ z) (take-append-le k piece (post ++ rest) within)

-- one read behind no more bytes than a line may have leaves no more than a reader holds
pub held_after : {E : Type 0} (answer : Result ℕ E) (old new : List ℕ) (left left' : Option (List ℕ)) → length old ≤ longest_line → IfOk answer (λ k. Gains old new left left' k)
    → IfOk answer (λ k. k ≤ longest_read) → OnErr answer (new ≡ old) → length new ≤ most_held
held_after (Ok k) old new left left' few gains small kept =
    let size : length new ≡ length (old ++ take k gains.piece) = ap length gains.added in omega (arith, few, small, size, length-append old (take k gains.piece), length-take k gains.piece)
held_after (Err e) old new left left' few gains small kept =
    let size : length new ≡ length old = ap length kept in omega (arith, few, size)
