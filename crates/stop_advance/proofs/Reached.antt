use Rattle.std.proofs.Common.{◌≡◌, ℕ, zero, suc, ◌+◌, ◌-◌, ◌<◌, ◌≤◌, ◌==◌, ◌&&◌, nat_le, Bool, true, false, not, cond, List, [], ◌∷◌, ◌++◌, take, drop, length, Option, Some, refl, sym, ap, ◌∙◌, arith, subst, add-one, length-append, ⊎_elim}
use Rattle.std.specs.Prelude.{slice_get, slice_index}
use Rattle.std.proofs.lemmas.Bool.{and_parts, or_cases, leb-true, leb-false, le-leb, lt-leb, eq-eqb, eqb-true, ne_eqb, and_right, cases_lt}
use Rattle.std.proofs.lemmas.Option.{none-some}
use Rattle.stop_schedule.specs.declared.stop.Start.{Start}
use Rattle.stop_schedule.specs.declared.stop.Stop.{Stop}
use Rattle.stop_schedule.specs.Keeping.{keeps, is_over_by, is_seated, are_in_time, most_stops}
use Rattle.stop_schedule.specs.Limits.{latest_front, latest_moment}
use Rattle.stop_schedule.specs.Plans.{Plan, Course, course_of}
use Rattle.stop_schedule.specs.Rates.{Rates}
use Rattle.stop_schedule.specs.Times.{departs, arrives}
use Rattle.stop_advance.specs.declared.served.Served.{Served}
use Rattle.stop_advance.specs.Advance.{reached_of, reached_by, served_of, served_as, served_by, from_stop, advanced_in}
use Rattle.stop_advance.specs.Starts.{IsStartOf, left_from}

module _ (stop : ℕ) (c : Course) (now : ℕ) where
  -- one stop more is reached
  pub reached_more : (k : ℕ) → reached_of stop c now k ≡ k → arrives stop c (suc k) ≤ now → reached_of stop c now (suc k) ≡ suc k
  reached_more k e l =
      let all : (reached_of stop c now k == k) ≡ true = eq-eqb (reached_of stop c now k) k e in
      let soon : nat_le (arrives stop c (suc k)) now ≡ true = le-leb (arrives stop c (suc k)) now l in
      rw (all, soon) refl

  -- and where one isn't, none after it is
  pub reached_stays : (k m : ℕ) → k ≤ m → reached_of stop c now k ≡ k → now < arrives stop c (suc k) → reached_of stop c now m ≡ k
  reached_stays k zero l e late = let none : zero ≡ k = omega arith in none
  reached_stays k (suc m) l e late = ⊎_elim (λ (h : m < k). let same : k ≡ suc m = omega arith in subst (λ (n : ℕ). reached_of stop c now n ≡ k) same e) (λ (h : k ≤ m). inside h (reached_stays k m h e late)) (cases_lt m k) where
    missed : k ≤ m → reached_of stop c now m ≡ k → (reached_of stop c now m == m) && nat_le (arrives stop c (suc m)) now ≡ false
    missed h before =
        ⊎_elim
        (λ (i : k < m). let apart : (reached_of stop c now m == m) ≡ false = ne_eqb (reached_of stop c now m) m (λ (q : reached_of stop c now m ≡ m). omega arith) in rw apart refl)
        (λ (i : m ≤ k). let same : m ≡ k = omega arith in and_right (reached_of stop c now m == m) (nat_le (arrives stop c (suc m)) now) (rw same (lt-leb (arrives stop c (suc k)) now late)))
        (cases_lt k m)

    inside : k ≤ m → reached_of stop c now m ≡ k → reached_of stop c now (suc m) ≡ k
    inside h before = rw (missed h before) before

  pub reached_at_most : (n : ℕ) → reached_of stop c now n ≤ n
  reached_at_most zero = omega arith
  reached_at_most (suc n) = either ((reached_of stop c now n == n) && nat_le (arrives stop c (suc n)) now) (reached_at_most n) where
    either : (b : Bool) → reached_of stop c now n ≤ n → cond b (suc n) (reached_of stop c now n) ≤ suc n
    either true h = omega arith
    either false h = omega arith

  pub reached_grows : (k m : ℕ) → k ≤ m → reached_of stop c now k ≤ reached_of stop c now m
  reached_grows k zero l = let same : k ≡ zero = omega arith in rw same (omega arith)
  reached_grows k (suc m) l = ⊎_elim (λ (h : m < k). let same : k ≡ suc m = omega arith in rw same (omega arith)) (λ (h : k ≤ m). step (reached_grows k m h)) (cases_lt m k) where
    step : reached_of stop c now k ≤ reached_of stop c now m → reached_of stop c now k ≤ reached_of stop c now (suc m)
    step before = either ((reached_of stop c now m == m) && nat_le (arrives stop c (suc m)) now) (reached_at_most m) where
      either : (b : Bool) → reached_of stop c now m ≤ m → reached_of stop c now k ≤ cond b (suc m) (reached_of stop c now m)
      either true h = omega arith
      either false h = before

  -- the stops that are reached, one after another
  pub served_more : (k : ℕ) (s : Stop) → slice_get c.stops k ≡ Some s → served_of stop c (suc k) ≡ served_of stop c k ++ record { kind = s.kind; no = s.no; node = s.node; arr = arrives stop c (suc k); dep = departs stop c (suc k) } ∷ []
  served_more k s e = ap (λ (o : Option Stop). served_of stop c k ++ served_as stop c (suc k) o) e

  pub length-served_of : (k : ℕ) → k ≤ length c.stops → length (served_of stop c k) ≡ k
  length-served_of zero l = refl
  length-served_of (suc k) l = from (length-served_of k (omega arith)) (held c.stops k l) where
    held : (xs : List Stop) (n : ℕ) → n < length xs → (s : Stop) × (slice_get xs n ≡ Some s)
    held [] n h = absurd (omega arith)
    held (x ∷ xs) zero h = (x, refl)
    held (x ∷ xs) (suc n) h = held xs n (omega arith)

    from : length (served_of stop c k) ≡ k → (s : Stop) × (slice_get c.stops k ≡ Some s) → length (served_of stop c (suc k)) ≡ suc k
    from before (s, e) =
        let more = served_more k s e in
        let last : Served = record { kind = s.kind; no = s.no; node = s.node; arr = arrives stop c (suc k); dep = departs stop c (suc k) } in
        let sum = length-append (served_of stop c k) (last ∷ []) in
        ap length more ∙ omega (arith, before, sum)

  -- times don't fall along the stops
  pub departs_rise : (k m : ℕ) → k ≤ m → departs stop c k ≤ departs stop c m
  departs_rise k zero l = let same : k ≡ zero = omega arith in rw same (omega arith)
  departs_rise k (suc m) l = ⊎_elim (λ (h : m < k). let same : k ≡ suc m = omega arith in rw same (omega arith)) (λ (h : k ≤ m). let before = departs_rise k m h in omega arith) (cases_lt m k)

-- what is served by then, and where the vehicle drives on, once it is known how many stops are reached
pub reached_is : (rates : Rates) (p : Plan) (now k : ℕ) → k ≤ length p.stops → reached_of rates.stop (course_of p) now k ≡ k → (k < length p.stops → now < arrives rates.stop (course_of p) (suc k)) → reached_by rates p now ≡ k
reached_is rates p now k l e late = ⊎_elim (λ (h : k < length p.stops). reached_stays rates.stop (course_of p) now k (length p.stops) l e (late h)) (λ (h : length p.stops ≤ k). let same : length p.stops ≡ k = omega arith in rw same e) (cases_lt k (length p.stops))

-- a schedule that keeps leaves each stop in service
pub left_in_service : (rates : Rates) (p : Plan) (k : ℕ) → keeps rates p ≡ true → 0 < k → k ≤ length p.stops → departs rates.stop (course_of p) k ≤ p.until
left_in_service rates p k h some l = ⊎_elim none there (or_cases (length p.stops == 0) (nat_le (departs rates.stop (course_of p) (length p.stops)) p.until) over.1) where
  over : (nat_le (length p.stops) most_stops && is_seated p.seats p.spaces p.stops && are_in_time rates.stop (course_of p) ≡ true) × (is_over_by rates.stop (course_of p) p.until ≡ true)
  over = and_parts (nat_le (length p.stops) most_stops && is_seated p.seats p.spaces p.stops && are_in_time rates.stop (course_of p)) (is_over_by rates.stop (course_of p) p.until) h

  none : (length p.stops == 0) ≡ true → departs rates.stop (course_of p) k ≤ p.until
  none e = let z = eqb-true (length p.stops) 0 e in absurd (omega arith)

  there : nat_le (departs rates.stop (course_of p) (length p.stops)) p.until ≡ true → departs rates.stop (course_of p) k ≤ p.until
  there e =
      let last = leb-true (departs rates.stop (course_of p) (length p.stops)) p.until e in
      let before = departs_rise rates.stop (course_of p) 0 k (length p.stops) l in
      omega (arith, last, before)

-- from where the vehicle drives on behind one stop more
pub start_more : (rates : Rates) (p : Plan) (k : ℕ) (s : Stop) (start : Start) → slice_get p.stops k ≡ Some s → start.node ≡ s.node → start.departure ≡ departs rates.stop (course_of p) (k + 1) → start.halt ≡ true → IsStartOf (from_stop rates p (k + 1)) start
start_more rates p k s start e node departure halt =
    let some : (k + 1 == 0) ≡ false = ne_eqb (k + 1) 0 (λ z. omega arith) in
    let one : k + 1 - 1 ≡ k = omega arith in
    record { node = node ∙ rw (some, one, e) refl; departure = departure; halt = halt ∙ rw some refl }

-- the first stop alone tells whether one is reached
pub reaches_is : (rates : Rates) (p : Plan) (now : ℕ) (soon : Bool) → 0 < length p.stops → soon ≡ nat_le (arrives rates.stop (course_of p) 1) now → soon ≡ not (reached_by rates p now == 0)
reaches_is rates p now true some e = sym (first (length p.stops) some (leb-true (arrives rates.stop (course_of p) 1) now (sym e))) where
  first : (n : ℕ) → 0 < n → arrives rates.stop (course_of p) 1 ≤ now → not (reached_of rates.stop (course_of p) now n == 0) ≡ true
  first n l soon =
      let one = reached_more rates.stop (course_of p) now 0 refl soon in
      let more = reached_grows rates.stop (course_of p) now 1 n l in
      let apart : (reached_of rates.stop (course_of p) now n == 0) ≡ false = ne_eqb (reached_of rates.stop (course_of p) now n) 0 (λ z. omega (arith, one, more, z)) in
      rw apart refl
reaches_is rates p now false some e =
    let none = reached_stays rates.stop (course_of p) now 0 (length p.stops) (omega arith) refl (leb-false (arrives rates.stop (course_of p) 1) now (sym e)) in
    rw none refl

-- an element of a part of a list
pub part_of : {X : Type 0} (xs : List X) (k n i : ℕ) (x : X) → slice_get (take n (drop k xs)) i ≡ Some x → slice_get xs (k + i) ≡ Some x
part_of xs zero zero i x h = absurd (none-some x h)
part_of [] zero (suc n) i x h = absurd (none-some x h)
part_of (y ∷ xs) zero (suc n) zero x h = h
part_of (y ∷ xs) zero (suc n) (suc i) x h = let e : suc i ≡ suc (0 + i) = omega arith in let more = part_of xs 0 n i x h in let q : 0 + suc i ≡ suc i = omega arith in let z : 0 + i ≡ i = omega arith in rw q (rw z at more)
part_of [] (suc k) n i x h = absurd (none-some x (taken n h)) where
  taken : (n : ℕ) → slice_get (take n []) i ≡ Some x → slice_get [] i ≡ Some x
  taken zero e = e
  taken (suc n) e = e
part_of (y ∷ xs) (suc k) n i x h = let e : suc k + i ≡ suc (k + i) = omega arith in rw e (part_of xs k n i x h)

-- by then the vehicle is no further than the latest front
pub start_early : (rates : Rates) (p : Plan) (now departure : ℕ) → keeps rates p ≡ true → p.departure ≤ latest_front → p.until ≤ latest_moment → departure ≡ departs rates.stop (course_of p) (reached_by rates p now) → departure ≤ latest_front
start_early rates p now departure h first service e = ⊎_elim some none (cases_lt 0 (reached_by rates p now)) where
  some : 0 < reached_by rates p now → departure ≤ latest_front
  some l = let before = left_in_service rates p (reached_by rates p now) h l (reached_at_most rates.stop (course_of p) now (length p.stops)) in omega (arith, before, e)

  none : reached_by rates p now ≤ 0 → departure ≤ latest_front
  none l =
      let zero_of : reached_by rates p now ≡ 0 = omega arith in
      let same : departs rates.stop (course_of p) (reached_by rates p now) ≡ p.departure = ap (departs rates.stop (course_of p)) zero_of in
      omega (arith, same, e)

-- what starts as the later schedule does and has its stops is that schedule
pub left_is : (rates : Rates) (p : Plan) (now : ℕ) (start : Start) (k : ℕ) → IsStartOf (advanced_in rates p now) start → k ≡ reached_by rates p now → left_from p start k ≡ advanced_in rates p now
left_is rates p now start k is e = rw (e, is.node, is.departure, is.halt) refl

-- what the loop over the stops keeps, and what it gives at its end
module _ (rates : Rates) (p : Plan) (now : ℕ) where
  pub late_is : (k departure x : ℕ) → departure ≡ departs rates.stop (course_of p) k → x ≡ slice_index (course_of p).lengths k → now < departure + x → now < arrives rates.stop (course_of p) (suc k)
  late_is k departure x e l h = omega (arith, e, l, h)

  pub all_more : (k departure x : ℕ) → reached_of rates.stop (course_of p) now k ≡ k → departure ≡ departs rates.stop (course_of p) k → x ≡ slice_index (course_of p).lengths k → departure + x ≤ now → reached_of rates.stop (course_of p) now (k + 1) ≡ k + 1
  all_more k departure x all e l h = rw (add-one k) (reached_more rates.stop (course_of p) now k all (omega (arith, e, l, h)))

  pub served_next : (k : ℕ) (served new : List Served) (s : Stop) (departure x dep : ℕ) → slice_get p.stops k ≡ Some s → served ≡ served_of rates.stop (course_of p) k → departure ≡ departs rates.stop (course_of p) k
      → x ≡ slice_index (course_of p).lengths k → dep ≡ departs rates.stop (course_of p) (k + 1) → new ≡ served ++ record { kind = s.kind; no = s.no; node = s.node; arr = departure + x; dep = dep } ∷ [] → new ≡ served_of rates.stop (course_of p) (k + 1)
  served_next k served new s departure x dep there are e l left is =
      let one : k + 1 ≡ suc k = add-one k in
      let left_one : dep ≡ departs rates.stop (course_of p) (suc k) = left ∙ ap (departs rates.stop (course_of p)) one in
      is ∙ rw (are, e, l, left_one) (sym (served_more rates.stop (course_of p) now k s there)) ∙ ap (served_of rates.stop (course_of p)) (sym one)

  pub served_all : (k : ℕ) (served : List Served) → served ≡ served_of rates.stop (course_of p) k → reached_by rates p now ≡ k → served ≡ served_by rates p now
  served_all k served e is = e ∙ ap (served_of rates.stop (course_of p)) (sym is)

  pub start_all : (k : ℕ) (start : Start) → IsStartOf (from_stop rates p k) start → reached_by rates p now ≡ k → IsStartOf (advanced_in rates p now) start
  start_all k start s is = subst (λ (n : ℕ). IsStartOf (from_stop rates p n) start) (sym is) s

  pub within_all : (k : ℕ) (served : List Served) → served ≡ served_of rates.stop (course_of p) k → k ≤ length p.stops → length served ≤ length p.stops
  within_all k served e l = let many = length-served_of rates.stop (course_of p) now k l in rw e (omega (arith, many))
