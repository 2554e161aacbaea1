use Rattle.std.proofs.Common.{◌≡◌, ℕ, zero, suc, ◌==◌, Bool, true, false, cond, List, [], ◌∷◌, ◌++◌, map, Option, Some, None, is_some, sym, refl, ap, ◌∙◌, subst, arith}
use Rattle.std.specs.Prelude.{slice_get, slice_set, find, filter, flat_map}
use Rattle.std.proofs.lemmas.Bool.{eq-eqb, ne_eqb}
use Rattle.std.proofs.lemmas.Bool.Decides.{nat_tests}
use Rattle.std.specs.BTreeMap.{is_at, insert_entry}
use Rattle.std.specs.Map.{lookup}
use Rattle.std.specs.Ordering.{nat_cmp, is_eq, match_ordering}
use Rattle.std.specs.declared.cmp.Ordering.{Ordering}
use Rattle.std.specs.declared.cmp.Ordering.TheVariants.{Less, Equal, Greater}
use mathlib.Core.Bool.{true≢false}
use Rattle.std.proofs.lemmas.List.{append-nil}
use Rattle.ride_base.specs.declared.numbers.RequestNo.{RequestNo}
use Rattle.ride_base.specs.declared.numbers.VehicleNo.{VehicleNo}
use Rattle.insertion_cost.specs.declared.decision.Decision.{Decision}
use Rattle.stop_schedule.specs.Fleets.{Car}
use Rattle.stop_advance.specs.declared.served.Served.{Served}
use Rattle.board_core.specs.Boards.{is_number, by_number}
use Rattle.board_core.specs.Promises.{served_by_vehicle}
use Rattle.board_core.specs.Steps.{served_with}

-- what is found stands in the list and passes
pub found : {X : Type 0} (test : X → Bool) (xs : List X) (x : X) → find test xs ≡ Some x → (k : ℕ) × (slice_get xs k ≡ Some x) × (test x ≡ true)
found test [] x h = cc
found {X = X} test (y ∷ xs) x h = on (test y) refl h (found test xs x)
  where
    on : (b : Bool) → test y ≡ b → cond b (Some y) (find test xs) ≡ Some x → (find test xs ≡ Some x → (k : ℕ) × (slice_get xs k ≡ Some x) × (test x ≡ true))
        → (k : ℕ) × (slice_get (y ∷ xs) k ≡ Some x) × (test x ≡ true)
    on true e h rest = let q : y ≡ x = cc in (0, h, subst (λ (z : X). test z ≡ true) q e)
    on false e h rest = let r = rest h in (suc r.0, r.1, r.2)

-- what a filter keeps stood in the list and passes
pub kept_by : {X : Type 0} (test : X → Bool) (xs : List X) (k : ℕ) (x : X) → slice_get (filter test xs) k ≡ Some x → (m : ℕ) × (slice_get xs m ≡ Some x) × (test x ≡ true)
kept_by test [] k x h = cc
kept_by {X = X} test (y ∷ xs) k x h = on (test y) refl k h (λ k h. kept_by test xs k x h)
  where
    on : (b : Bool) → test y ≡ b → (k : ℕ) → slice_get (cond b (y ∷ filter test xs) (filter test xs)) k ≡ Some x
        → ((k : ℕ) → slice_get (filter test xs) k ≡ Some x → (m : ℕ) × (slice_get xs m ≡ Some x) × (test x ≡ true))
        → (m : ℕ) × (slice_get (y ∷ xs) m ≡ Some x) × (test x ≡ true)
    on true e zero h rest = let q : y ≡ x = cc in (0, h, subst (λ (z : X). test z ≡ true) q e)
    on true e (suc k) h rest = let r = rest k h in (suc r.0, r.1, r.2)
    on false e k h rest = let r = rest k h in (suc r.0, r.1, r.2)

-- an element of a mapped list
pub mapped : {X Y : Type 0} (f : X → Y) (xs : List X) (k : ℕ) (y : Y) → slice_get (map f xs) k ≡ Some y → (x : X) × (slice_get xs k ≡ Some x) × (y ≡ f x)
mapped f [] k y h = cc
mapped f (x ∷ xs) zero y h = (x, refl, cc)
mapped f (x ∷ xs) (suc k) y h = mapped f xs k y h

-- a mapped element by its place
pub map_at : {X Y : Type 0} (f : X → Y) (xs : List X) (k : ℕ) (x : X) → slice_get xs k ≡ Some x → slice_get (map f xs) k ≡ Some (f x)
map_at f [] k x h = cc
map_at f (y ∷ xs) zero x h = let e : y ≡ x = cc in ap (λ z. Some (f z)) e
map_at f (y ∷ xs) (suc k) x h = map_at f xs k x h

-- an element after a write
pub set_here : {X : Type 0} (xs : List X) (i : ℕ) (x y : X) → slice_get xs i ≡ Some x → slice_get (slice_set xs i y) i ≡ Some y
set_here [] i x y h = cc
set_here (z ∷ xs) zero x y h = refl
set_here (z ∷ xs) (suc i) x y h = set_here xs i x y h

-- the other elements stay
pub set_other : {X : Type 0} (xs : List X) (i k : ℕ) (y : X) → (k ≡ i → ⊥) → slice_get (slice_set xs i y) k ≡ slice_get xs k
set_other [] i k y h = refl
set_other (z ∷ xs) zero zero y h = absurd (h refl)
set_other (z ∷ xs) zero (suc k) y h = refl
set_other (z ∷ xs) (suc i) zero y h = refl
set_other (z ∷ xs) (suc i) (suc k) y h = set_other xs i k y (λ (e : k ≡ i). h (ap (λ (n : ℕ). suc n) e))

-- a number compares equal to itself alone
pub at_number : (n k : RequestNo) → is_at (by_number n) k ≡ (n.0 == k.0)
at_number n k = is_equal n.0 k.0
  where
    is_equal : (x y : ℕ) → is_eq (nat_cmp x y) ≡ (x == y)
    is_equal x y = grind (arith, nat_tests)

abbrev pub find_answer : RequestNo → List (RequestNo × Decision) → Option Decision
find_answer n answers = lookup (is_at (by_number n)) answers

-- an answer that is put in is found by its number, and each other as before
pub lookup_insert : (n number : RequestNo) (decision : Decision) (answers : List (RequestNo × Decision))
    → find_answer n (insert_entry by_number answers number decision) ≡ cond (is_at (by_number n) number) (Some decision) (find_answer n answers)
lookup_insert n number decision [] = refl
lookup_insert n number decision (e ∷ answers) = by (by_number number e.0) refl (is_at (by_number n) number) refl (is_at (by_number n) e.0) refl (lookup_insert n number decision answers)
  where
    apart : (a b c : ℕ) → is_eq (nat_cmp a b) ≡ true → is_eq (nat_cmp a c) ≡ true → nat_cmp b c ≡ Greater → ⊥
    apart a b c = grind (arith, nat_tests)

    alike : (a b c : ℕ) → nat_cmp b c ≡ Equal → is_eq (nat_cmp a b) ≡ is_eq (nat_cmp a c)
    alike a b c = grind (arith, nat_tests)

    by : (r : Ordering) → by_number number e.0 ≡ r → (x : Bool) → is_at (by_number n) number ≡ x → (y : Bool) → is_at (by_number n) e.0 ≡ y
        → find_answer n (insert_entry by_number answers number decision) ≡ cond x (Some decision) (find_answer n answers)
        → find_answer n (match_ordering r ((number, decision) ∷ e ∷ answers) ((e.0, decision) ∷ answers) (e ∷ insert_entry by_number answers number decision))
        ≡ cond x (Some decision) (cond y (Some e.1) (find_answer n answers))
    by Less c x p y q rest = rw (p, q) refl
    by Equal c true p true q rest = rw q refl
    by Equal c false p false q rest = rw q refl
    by Equal c true p false q rest = absurd (let a = alike n.0 number.0 e.0.0 c in true≢false (sym p ∙ a ∙ q))
    by Equal c false p true q rest = absurd (let a = alike n.0 number.0 e.0.0 c in true≢false (sym q ∙ sym a ∙ p))
    by Greater c true p true q rest = absurd (apart n.0 number.0 e.0.0 p q c)
    by Greater c true p false q rest = rw q rest
    by Greater c false p true q rest = rw q refl
    by Greater c false p false q rest = rw q rest

-- a new answer is found
pub answered_now : (answers : List (RequestNo × Decision)) (number n : RequestNo) (decision : Decision) → n.0 ≡ number.0 → is_some (find_answer n (insert_entry by_number answers number decision)) ≡ true
answered_now answers number n decision h =
    ap is_some (lookup_insert n number decision answers ∙ ap (λ (b : Bool). cond b (Some decision) (find_answer n answers)) (at_number n number ∙ eq-eqb n.0 number.0 h))

-- an older answer is still found
pub answered_still : (answers : List (RequestNo × Decision)) (number n : RequestNo) (decision : Decision) → is_some (find_answer n answers) ≡ true → is_some (find_answer n (insert_entry by_number answers number decision)) ≡ true
answered_still answers number n decision h = ap is_some (lookup_insert n number decision answers) ∙ on (is_at (by_number n) number)
  where
    on : (b : Bool) → is_some (cond b (Some decision) (find_answer n answers)) ≡ true
    on true = refl
    on false = h

-- another number's answer makes none
pub unanswered_still : (answers : List (RequestNo × Decision)) (number n : RequestNo) (decision : Decision) → is_number n number ≡ false → find_answer n answers ≡ None → find_answer n (insert_entry by_number answers number decision) ≡ None
unanswered_still answers number n decision apart h =
    lookup_insert n number decision answers ∙ ap (λ (b : Bool). cond b (Some decision) (find_answer n answers)) (at_number n number ∙ apart) ∙ h

-- no two vehicles of a fleet have one number
abbrev pub AreDistinct : List Car → Type 0
AreDistinct cars = (p q : ℕ) (c d : Car) → slice_get cars p ≡ Some c → slice_get cars q ≡ Some d → c.no.0 ≡ d.no.0 → p ≡ q

-- the stops of one vehicle among those of a fleet
by_vehicle-append : (n : VehicleNo) (xs ys : List (VehicleNo × Served)) → served_by_vehicle n (xs ++ ys) ≡ served_by_vehicle n xs ++ served_by_vehicle n ys
by_vehicle-append n [] ys = refl
by_vehicle-append n (x ∷ xs) ys = on (x.0.0 == n.0) (by_vehicle-append n xs ys)
  where
    on : (b : Bool) → served_by_vehicle n (xs ++ ys) ≡ served_by_vehicle n xs ++ served_by_vehicle n ys
        → cond b (x.1 ∷ served_by_vehicle n (xs ++ ys)) (served_by_vehicle n (xs ++ ys)) ≡ cond b (x.1 ∷ served_by_vehicle n xs) (served_by_vehicle n xs) ++ served_by_vehicle n ys
    on true h = ap (λ (l : List Served). x.1 ∷ l) h
    on false h = h

-- stops under its own number are all its own
by_vehicle_own : (n m : VehicleNo) (xs : List Served) → m.0 ≡ n.0 → served_by_vehicle n (served_with m xs) ≡ xs
by_vehicle_own n m [] h = refl
by_vehicle_own n m (x ∷ xs) h = ap (λ (b : Bool). cond b (x ∷ served_by_vehicle n (served_with m xs)) (served_by_vehicle n (served_with m xs))) (eq-eqb m.0 n.0 h) ∙ ap (λ (l : List Served). x ∷ l) (by_vehicle_own n m xs h)

-- stops under another number are none of its
by_vehicle_other : (n m : VehicleNo) (xs : List Served) → (m.0 ≡ n.0 → ⊥) → served_by_vehicle n (served_with m xs) ≡ []
by_vehicle_other n m [] h = refl
by_vehicle_other n m (x ∷ xs) h = ap (λ (b : Bool). cond b (x ∷ served_by_vehicle n (served_with m xs)) (served_by_vehicle n (served_with m xs))) (ne_eqb m.0 n.0 h) ∙ by_vehicle_other n m xs h

-- no vehicle of the number, no stop
by_vehicle_none : (f : Car → List Served) (n : VehicleNo) (cars : List Car) → ((k : ℕ) (c : Car) → slice_get cars k ≡ Some c → c.no.0 ≡ n.0 → ⊥)
    → served_by_vehicle n (flat_map (λ (c : Car). served_with c.no (f c)) cars) ≡ []
by_vehicle_none f n [] h = refl
by_vehicle_none f n (c ∷ cars) h = by_vehicle-append n (served_with c.no (f c)) (flat_map (λ (c : Car). served_with c.no (f c)) cars)
    ∙ ap (λ (l : List Served). l ++ served_by_vehicle n (flat_map (λ (c : Car). served_with c.no (f c)) cars)) (by_vehicle_other n c.no (f c) (h 0 c refl)) ∙ by_vehicle_none f n cars (λ k d e. h (suc k) d e)

-- a vehicle of a fleet finds just what it served
pub by_vehicle : (f : Car → List Served) (cars : List Car) (place : ℕ) (car : Car) → AreDistinct cars → slice_get cars place ≡ Some car
    → served_by_vehicle car.no (flat_map (λ (c : Car). served_with c.no (f c)) cars) ≡ f car
by_vehicle f [] place car d h = cc
by_vehicle f (c ∷ cars) zero car d h = subst (λ (k : Car). served_by_vehicle k.no (flat_map (λ (x : Car). served_with x.no (f x)) (c ∷ cars)) ≡ f k) same
    (by_vehicle-append c.no (served_with c.no (f c)) (flat_map (λ (x : Car). served_with x.no (f x)) cars) ∙ both (by_vehicle_own c.no c.no (f c) refl) (by_vehicle_none f c.no cars (λ k o e n. absurd (let q = d (suc k) 0 o c e refl n in omega arith))) ∙ append-nil (f c))
  where
    same : c ≡ car
    same = cc

    both : {a b x y : List Served} → a ≡ b → x ≡ y → a ++ x ≡ b ++ y
    both p q = cc
by_vehicle f (c ∷ cars) (suc place) car d h = by_vehicle-append car.no (served_with c.no (f c)) (flat_map (λ (x : Car). served_with x.no (f x)) cars)
    ∙ ap (λ (l : List Served). l ++ served_by_vehicle car.no (flat_map (λ (x : Car). served_with x.no (f x)) cars)) (by_vehicle_other car.no c.no (f c) (λ e. absurd (let q = d 0 (suc place) c car refl h e in omega arith)))
    ∙ by_vehicle f cars place car (λ p q a b s t e. (let m = d (suc p) (suc q) a b s t e in omega arith)) h
