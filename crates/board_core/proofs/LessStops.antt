use Rattle.std.proofs.Common.{◌≡◌, ℕ, zero, suc, ◌+◌, ◌-◌, ◌<◌, ◌≤◌, ◌⊎◌, inl, inr, cond, List, [], ◌∷◌, ◌++◌, take, drop, length, length-append, Some, sym, refl, ap, ◌∙◌, arith}
use Rattle.std.specs.Prelude.{slice_get, nat_lt}
use Rattle.std.proofs.lemmas.Bool.{cases_lt}
use Rattle.std.proofs.lemmas.Bool.Decides.{nat_tests}
use Rattle.std.proofs.lemmas.List.{length-drop, length-take-le}
use Rattle.stop_schedule.specs.declared.stop.Stop.{Stop}
use Rattle.stop_removal.specs.Removals.{without_both}
use Rattle.board_core.proofs.Advances.{slice_get-drop}
use Rattle.board_core.proofs.Riders.{get_left, get_right}

-- an element of the first elements of a list
pub get_take : {X : Type 0} (xs : List X) (n k : ℕ) (x : X) → slice_get (take n xs) k ≡ Some x → (k < n) × (slice_get xs k ≡ Some x)
get_take xs zero k x h = cc
get_take [] (suc n) k x h = cc
get_take (y ∷ xs) (suc n) zero x h = (omega arith, h)
get_take (y ∷ xs) (suc n) (suc k) x h = let r = get_take xs n k x h in (let l = r.0 in omega arith, r.1)

-- and the other way round
pub take_get : {X : Type 0} (xs : List X) (n k : ℕ) → k < n → slice_get (take n xs) k ≡ slice_get xs k
take_get xs zero k h = absurd (omega arith)
take_get [] (suc n) k h = refl
take_get (y ∷ xs) (suc n) zero h = refl
take_get (y ∷ xs) (suc n) (suc k) h = take_get xs n k (omega arith)

-- an element of two lists joined stands in one of them
pub either : {X : Type 0} (xs ys : List X) (k : ℕ) (x : X) → slice_get (xs ++ ys) k ≡ Some x → ((m : ℕ) × (slice_get xs m ≡ Some x)) ⊎ ((m : ℕ) × (slice_get ys m ≡ Some x))
either [] ys k x h = inr (k, h)
either (y ∷ xs) ys zero x h = inl (0, h)
either {X = X} (y ∷ xs) ys (suc k) x h = on (either xs ys k x h)
  where
    on : ((m : ℕ) × (slice_get xs m ≡ Some x)) ⊎ ((m : ℕ) × (slice_get ys m ≡ Some x)) → ((m : ℕ) × (slice_get (y ∷ xs) m ≡ Some x)) ⊎ ((m : ℕ) × (slice_get ys m ≡ Some x))
    on (inl p) = inl (suc p.0, p.1)
    on (inr p) = inr p

-- each stop that stays stood in the list
pub from_both : (stops : List Stop) (a b k : ℕ) (s : Stop) → slice_get (without_both stops a b) k ≡ Some s → (m : ℕ) × (slice_get stops m ≡ Some s)
from_both stops a b k s h = on (either (take (a - 1) stops ++ take (b - a - 1) (drop a stops)) (drop b stops) k s h)
  where
    dropped : (n m : ℕ) → slice_get (drop n stops) m ≡ Some s → (m : ℕ) × (slice_get stops m ≡ Some s)
    dropped n m e = (n + m, sym (slice_get-drop n stops m) ∙ e)

    first : ((m : ℕ) × (slice_get (take (a - 1) stops) m ≡ Some s)) ⊎ ((m : ℕ) × (slice_get (take (b - a - 1) (drop a stops)) m ≡ Some s)) → (m : ℕ) × (slice_get stops m ≡ Some s)
    first (inl x) = (x.0, (get_take stops (a - 1) x.0 s x.1).1)
    first (inr x) = dropped a x.0 (get_take (drop a stops) (b - a - 1) x.0 s x.1).1

    on : ((m : ℕ) × (slice_get (take (a - 1) stops ++ take (b - a - 1) (drop a stops)) m ≡ Some s)) ⊎ ((m : ℕ) × (slice_get (drop b stops) m ≡ Some s)) → (m : ℕ) × (slice_get stops m ≡ Some s)
    on (inl x) = first (either (take (a - 1) stops) (take (b - a - 1) (drop a stops)) x.0 s x.1)
    on (inr x) = dropped b x.0 x.1

-- where a stop that isn't at either position stands when both are gone
abbrev pub left_at : (a b m : ℕ) → ℕ
left_at a b m = cond (nat_lt m (a - 1)) m (cond (nat_lt m (b - 1)) (m - 1) (m - 2))

left_first : (a b m : ℕ) → m < a - 1 → left_at a b m ≡ m
left_first a b m h = grind (arith, nat_tests)

left_between : (a b m : ℕ) → a ≤ m → m < b - 1 → left_at a b m ≡ m - 1
left_between a b m h l = grind (arith, nat_tests)

left_behind : (a b m : ℕ) → a < b → b ≤ m → left_at a b m ≡ m - 2
left_behind a b m h l = grind (arith, nat_tests)

-- the order stays
pub left_at-lt : (a b m n : ℕ) → 1 ≤ a → a < b → m < n → (m ≡ a - 1 → ⊥) → (m ≡ b - 1 → ⊥) → (n ≡ a - 1 → ⊥) → (n ≡ b - 1 → ⊥) → left_at a b m < left_at a b n
left_at-lt a b m n one h l ma mb na nb = on (cases_lt m (a - 1)) (cases_lt m (b - 1)) (cases_lt n (a - 1)) (cases_lt n (b - 1))
  where
    past_a : (k : ℕ) → (k ≡ a - 1 → ⊥) → a - 1 ≤ k → a ≤ k
    past_a k d l = on (cases_lt k a)
      where
        on : (k < a) ⊎ (a ≤ k) → a ≤ k
        on (inl x) = absurd (d (omega arith))
        on (inr x) = x

    past_b : (k : ℕ) → (k ≡ b - 1 → ⊥) → b - 1 ≤ k → b ≤ k
    past_b k d l = on (cases_lt k b)
      where
        on : (k < b) ⊎ (b ≤ k) → b ≤ k
        on (inl x) = absurd (d (omega arith))
        on (inr x) = x

    on : (m < a - 1) ⊎ (a - 1 ≤ m) → (m < b - 1) ⊎ (b - 1 ≤ m) → (n < a - 1) ⊎ (a - 1 ≤ n) → (n < b - 1) ⊎ (b - 1 ≤ n) → left_at a b m < left_at a b n
    on (inl p) q (inl r) s = let x = left_first a b m p in let y = left_first a b n r in omega arith
    on (inl p) q (inr r) (inl s) = let x = left_first a b m p in let z = past_a n na r in let y = left_between a b n z s in omega arith
    on (inl p) q (inr r) (inr s) = let x = left_first a b m p in let z = past_b n nb s in let y = left_behind a b n h z in omega arith
    on (inr p) q (inl r) s = absurd (omega arith)
    on (inr p) (inl q) (inr r) (inl s) = let w = past_a m ma p in let x = left_between a b m w q in let z = past_a n na r in let y = left_between a b n z s in omega arith
    on (inr p) (inl q) (inr r) (inr s) = let w = past_a m ma p in let x = left_between a b m w q in let z = past_b n nb s in let y = left_behind a b n h z in omega arith
    on (inr p) (inr q) (inr r) (inl s) = absurd (omega arith)
    on (inr p) (inr q) (inr r) (inr s) = let w = past_b m mb q in let x = left_behind a b m h w in let z = past_b n nb s in let y = left_behind a b n h z in omega arith

-- each stop that isn't at either position is still there
pub other_stays : (stops : List Stop) (a b m : ℕ) (s : Stop) → 1 ≤ a → a < b → b ≤ length stops → (m ≡ a - 1 → ⊥) → (m ≡ b - 1 → ⊥) → slice_get stops m ≡ Some s → slice_get (without_both stops a b) (left_at a b m) ≡ Some s
other_stays stops a b m s one h many ma mb e = on (cases_lt m (a - 1)) (cases_lt m (b - 1))
  where
    long : length (take (a - 1) stops) ≡ a - 1
    long = length-take-le (a - 1) stops (omega arith)

    middle : length (take (b - a - 1) (drop a stops)) ≡ b - a - 1
    middle = let d = length-drop a stops in length-take-le (b - a - 1) (drop a stops) (omega arith)

    both : length (take (a - 1) stops ++ take (b - a - 1) (drop a stops)) ≡ (a - 1) + (b - a - 1)
    both = length-append (take (a - 1) stops) (take (b - a - 1) (drop a stops)) ∙ (let x = long in let y = middle in omega arith)

    not_at : (c : ℕ) → (m ≡ c - 1 → ⊥) → c - 1 ≤ m → c ≤ m
    not_at c d l = by (cases_lt m c)
      where
        by : (m < c) ⊎ (c ≤ m) → c ≤ m
        by (inl x) = absurd (d (omega arith))
        by (inr x) = x

    dropped : (c : ℕ) → c ≤ m → slice_get (drop c stops) (m - c) ≡ Some s
    dropped c l = slice_get-drop c stops (m - c) ∙ (let i : c + (m - c) ≡ m = omega arith in ap (slice_get stops) i) ∙ e

    on : (m < a - 1) ⊎ (a - 1 ≤ m) → (m < b - 1) ⊎ (b - 1 ≤ m) → slice_get (without_both stops a b) (left_at a b m) ≡ Some s
    on (inl p) q = ap (slice_get (without_both stops a b)) (left_first a b m p)
        ∙ get_left (take (a - 1) stops ++ take (b - a - 1) (drop a stops)) (drop b stops) m s (get_left (take (a - 1) stops) (take (b - a - 1) (drop a stops)) m s (take_get stops (a - 1) m p ∙ e))
    on (inr p) (inl q) = let past = not_at a ma p in let x = long in let i : left_at a b m ≡ length (take (a - 1) stops) + (m - a) = left_between a b m past q ∙ omega arith in
        ap (slice_get (without_both stops a b)) i
        ∙ get_left (take (a - 1) stops ++ take (b - a - 1) (drop a stops)) (drop b stops) (length (take (a - 1) stops) + (m - a)) s
        (get_right (take (a - 1) stops) (take (b - a - 1) (drop a stops)) (m - a) ∙ take_get (drop a stops) (b - a - 1) (m - a) (omega arith) ∙ dropped a past)
    on (inr p) (inr q) = let past = not_at b mb q in let x = both in let i : left_at a b m ≡ length (take (a - 1) stops ++ take (b - a - 1) (drop a stops)) + (m - b) = left_behind a b m h past ∙ omega arith in
        ap (slice_get (without_both stops a b)) i ∙ get_right (take (a - 1) stops ++ take (b - a - 1) (drop a stops)) (drop b stops) (m - b) ∙ dropped b past
