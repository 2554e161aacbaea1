use Rattle.std.proofs.Common.{◌≡◌, ℕ, ◌+◌, ◌≤◌, arith, Bool, true, false, cond, not, List, [], ◌∷◌, ◌++◌, Option, Some, None, is_some, refl, ap, ◌∙◌, subst}
use Rattle.ride_base.specs.declared.numbers.RequestNo.{RequestNo}
use Rattle.stop_schedule.specs.declared.request.Request.{Request}
use Rattle.std.proofs.lemmas.Bool.{eqb-true}
use Rattle.board_core.specs.declared.waiting.Waiting.{Waiting}
use Rattle.board_core.specs.Boards.{is_number, waiting_in, with_holder, without}
use Rattle.board_core.specs.WaitingLaws.{HaveOwnNumbers}
use Rattle.fleet_board.specs.Journals.{held_in}

-- How many requests desks hold, as the list changes.

pub held_appended : (xs : List Waiting) (r : Request) → held_in (xs ++ record { request = r; holder = None } ∷ []) ≡ held_in xs
held_appended [] r = refl
held_appended (x ∷ xs) r = ap (λ (n : ℕ). cond (is_some x.holder) 1 0 + n) (held_appended xs r)

same_without_one : (xs : List Waiting) (n : RequestNo) (holder : Option ℕ) → waiting_in xs n ≡ None → with_holder n holder xs ≡ xs
same_without_one [] n holder h = refl
same_without_one (x ∷ xs) n holder h = on (is_number x.request.no n) h (same_without_one xs n holder)
  where
    on : (b : Bool) → cond b (Some x) (waiting_in xs n) ≡ None → (waiting_in xs n ≡ None → with_holder n holder xs ≡ xs)
        → cond b (record x { holder = holder }) x ∷ with_holder n holder xs ≡ x ∷ xs
    on true h rest = cc
    on false h rest = ap (λ (l : List Waiting). x ∷ l) (rest h)

at_most_one : (o : Option ℕ) → cond (is_some o) 1 0 ≤ 1
at_most_one None = omega arith
at_most_one (Some d) = omega arith

-- a claim adds one at most
pub held_claimed : (xs : List Waiting) (n : RequestNo) (desk : ℕ) → HaveOwnNumbers xs → held_in (with_holder n (Some desk) xs) ≤ held_in xs + 1
held_claimed [] n desk own = omega arith
held_claimed (x ∷ xs) n desk own = on (is_number x.request.no n) refl (held_claimed xs n desk own.1)
  where
    same : is_number x.request.no n ≡ true → x.request.no ≡ n
    same e = ap (λ (k : ℕ). let r : RequestNo = record { 0 = k } in r) (eqb-true x.request.no.0 n.0 e)

    on : (b : Bool) → is_number x.request.no n ≡ b → held_in (with_holder n (Some desk) xs) ≤ held_in xs + 1
        → cond (is_some (cond b (record x { holder = Some desk }) x).holder) 1 0 + held_in (with_holder n (Some desk) xs) ≤ cond (is_some x.holder) 1 0 + held_in xs + 1
    on true e rest =
        let kept : with_holder n (Some desk) xs ≡ xs = same_without_one xs n (Some desk) (subst (λ (m : RequestNo). waiting_in xs m ≡ None) (same e) own.0) in
        let h : held_in (with_holder n (Some desk) xs) ≡ held_in xs = ap held_in kept in
        omega (arith, h)
    on false e rest = omega (arith, rest)

held_less : (xs : List Waiting) (n : RequestNo) → held_in (with_holder n None xs) ≤ held_in xs
held_less [] n = omega arith
held_less (x ∷ xs) n = on (is_number x.request.no n) (held_less xs n)
  where
    on : (b : Bool) → held_in (with_holder n None xs) ≤ held_in xs
        → cond (is_some (cond b (record x { holder = None }) x).holder) 1 0 + held_in (with_holder n None xs) ≤ cond (is_some x.holder) 1 0 + held_in xs
    on true rest = omega (arith, rest)
    on false rest = omega (arith, rest)

-- a request that is given back is one less
pub held_given : (xs : List Waiting) (n : RequestNo) (w : Waiting) → waiting_in xs n ≡ Some w → is_some w.holder ≡ true → held_in (with_holder n None xs) + 1 ≤ held_in xs
held_given [] n w h held = cc
held_given (x ∷ xs) n w h held = on (is_number x.request.no n) h (held_less xs n) (λ h. held_given xs n w h held)
  where
    on : (b : Bool) → cond b (Some x) (waiting_in xs n) ≡ Some w → held_in (with_holder n None xs) ≤ held_in xs → (waiting_in xs n ≡ Some w → held_in (with_holder n None xs) + 1 ≤ held_in xs)
        → cond (is_some (cond b (record x { holder = None }) x).holder) 1 0 + held_in (with_holder n None xs) + 1 ≤ cond (is_some x.holder) 1 0 + held_in xs
    on true h less rest =
        let q : x ≡ w = cc in
        let one : is_some x.holder ≡ true = ap (λ (v : Waiting). is_some v.holder) q ∙ held in
        rw one (omega (arith, less))
    on false h less rest = let r = rest h in omega (arith, r)

left_less : (xs : List Waiting) (n : RequestNo) → held_in (without n xs) ≤ held_in xs
left_less [] n = omega arith
left_less (x ∷ xs) n = on (is_number x.request.no n) (left_less xs n)
  where
    on : (b : Bool) → held_in (without n xs) ≤ held_in xs → held_in (cond (not b) (x ∷ without n xs) (without n xs)) ≤ cond (is_some x.holder) 1 0 + held_in xs
    on true rest = omega (arith, rest)
    on false rest = omega (arith, rest)

-- one that is answered, too
pub held_left : (xs : List Waiting) (n : RequestNo) (w : Waiting) → waiting_in xs n ≡ Some w → is_some w.holder ≡ true → held_in (without n xs) + 1 ≤ held_in xs
held_left [] n w h held = cc
held_left (x ∷ xs) n w h held = on (is_number x.request.no n) h (left_less xs n) (λ h. held_left xs n w h held)
  where
    on : (b : Bool) → cond b (Some x) (waiting_in xs n) ≡ Some w → held_in (without n xs) ≤ held_in xs → (waiting_in xs n ≡ Some w → held_in (without n xs) + 1 ≤ held_in xs)
        → held_in (cond (not b) (x ∷ without n xs) (without n xs)) + 1 ≤ cond (is_some x.holder) 1 0 + held_in xs
    on true h less rest =
        let q : x ≡ w = cc in
        let one : is_some x.holder ≡ true = ap (λ (v : Waiting). is_some v.holder) q ∙ held in
        rw one (omega (arith, less))
    on false h less rest = let r = rest h in omega (arith, r)
