use Rattle.std.proofs.Common.{◌≡◌, ℕ, suc, Bool, true, false, cond, not, List, [], ◌∷◌, ◌++◌, Option, Some, sym, refl, ap, ◌∙◌, subst}
use Rattle.std.specs.Prelude.{slice_get, find}
use Rattle.std.proofs.lemmas.Bool.{eq-eqb, eqb-true, ne_eqb}
use Rattle.ride_base.specs.declared.numbers.RequestNo.{RequestNo}
use Rattle.board_core.specs.declared.waiting.Waiting.{Waiting}
use Rattle.board_core.specs.Boards.{is_number, waiting_in, with_holder, without}

-- Which requests wait, as entries change the list.

-- what is found stands in the list and passes
pub found : {X : Type 0} (test : X → Bool) (xs : List X) (x : X) → find test xs ≡ Some x → (k : ℕ) × (slice_get xs k ≡ Some x) × (test x ≡ true)
found test [] x h = cc
found {X = X} test (y ∷ xs) x h = on (test y) refl h (found test xs x)
  where
    on : (b : Bool) → test y ≡ b → cond b (Some y) (find test xs) ≡ Some x → (find test xs ≡ Some x → (k : ℕ) × (slice_get xs k ≡ Some x) × (test x ≡ true))
        → (k : ℕ) × (slice_get (y ∷ xs) k ≡ Some x) × (test x ≡ true)
    on true e h rest = let q : y ≡ x = cc in (0, h, subst (λ (z : X). test z ≡ true) q e)
    on false e h rest = let r = rest h in (suc r.0, r.1, r.2)

pub same_number : (a b : RequestNo) → is_number a b ≡ true → a ≡ b
same_number a b h = ap (λ (n : ℕ). let r : RequestNo = record { 0 = n } in r) (eqb-true a.0 b.0 h)

pub is_itself : (a : RequestNo) → is_number a a ≡ true
is_itself a = eq-eqb a.0 a.0 refl

-- a number that is the one isn't the other
pub apart_number : (a n m : RequestNo) → is_number a n ≡ true → (m ≡ n → ⊥) → is_number a m ≡ false
apart_number a n m h apart = ne_eqb a.0 m.0 (λ e. apart (ap (λ (k : ℕ). let r : RequestNo = record { 0 = k } in r) (sym e) ∙ same_number a n h))

pub appended : (xs : List Waiting) (y w : Waiting) (n : RequestNo) → waiting_in xs n ≡ Some w → waiting_in (xs ++ y ∷ []) n ≡ Some w
appended [] y w n h = cc
appended (x ∷ xs) y w n h = on (is_number x.request.no n) h (appended xs y w n)
  where
    on : (b : Bool) → cond b (Some x) (waiting_in xs n) ≡ Some w → (waiting_in xs n ≡ Some w → waiting_in (xs ++ y ∷ []) n ≡ Some w)
        → cond b (Some x) (waiting_in (xs ++ y ∷ []) n) ≡ Some w
    on true h rest = h
    on false h rest = rest h

-- another number's request keeps its holder
pub held_other : (xs : List Waiting) (n m : RequestNo) (holder : Option ℕ) → (m ≡ n → ⊥) → waiting_in (with_holder n holder xs) m ≡ waiting_in xs m
held_other [] n m holder apart = refl
held_other (x ∷ xs) n m holder apart = on (is_number x.request.no n) refl (held_other xs n m holder apart)
  where
    on : (b : Bool) → is_number x.request.no n ≡ b → waiting_in (with_holder n holder xs) m ≡ waiting_in xs m
        → cond (is_number (cond b (record x { holder = holder }) x).request.no m) (Some (cond b (record x { holder = holder }) x)) (waiting_in (with_holder n holder xs) m)
        ≡ cond (is_number x.request.no m) (Some x) (waiting_in xs m)
    on true e rest = rw (apart_number x.request.no n m e apart) rest
    on false e rest = ap (λ (o : Option Waiting). cond (is_number x.request.no m) (Some x) o) rest

-- that of the number itself has the new one
pub held_now : (xs : List Waiting) (n : RequestNo) (holder : Option ℕ) (w : Waiting) → waiting_in xs n ≡ Some w → waiting_in (with_holder n holder xs) n ≡ Some (record w { holder = holder })
held_now [] n holder w h = cc
held_now (x ∷ xs) n holder w h = on (is_number x.request.no n) refl h (held_now xs n holder w)
  where
    on : (b : Bool) → is_number x.request.no n ≡ b → cond b (Some x) (waiting_in xs n) ≡ Some w
        → (waiting_in xs n ≡ Some w → waiting_in (with_holder n holder xs) n ≡ Some (record w { holder = holder }))
        → cond (is_number (cond b (record x { holder = holder }) x).request.no n) (Some (cond b (record x { holder = holder }) x)) (waiting_in (with_holder n holder xs) n)
        ≡ Some (record w { holder = holder })
    on true e h rest = let q : x ≡ w = cc in rw e (ap (λ (v : Waiting). let u : Waiting = record v { holder = holder } in Some u) q)
    on false e h rest = rw e (rest h)

-- another number still waits
pub left_other : (xs : List Waiting) (n m : RequestNo) → (m ≡ n → ⊥) → waiting_in (without n xs) m ≡ waiting_in xs m
left_other [] n m apart = refl
left_other (x ∷ xs) n m apart = on (is_number x.request.no n) refl (left_other xs n m apart)
  where
    on : (b : Bool) → is_number x.request.no n ≡ b → waiting_in (without n xs) m ≡ waiting_in xs m
        → waiting_in (cond (not b) (x ∷ without n xs) (without n xs)) m ≡ cond (is_number x.request.no m) (Some x) (waiting_in xs m)
    on true e rest = rw (apart_number x.request.no n m e apart) rest
    on false e rest = ap (λ (o : Option Waiting). cond (is_number x.request.no m) (Some x) o) rest
