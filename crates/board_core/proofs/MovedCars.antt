use Rattle.std.proofs.Common.{◌≡◌, ℕ, zero, suc, ◌+◌, ◌-◌, ◌<◌, ◌≤◌, ◌^◌, ◌==◌, ◌&&◌, ◌⊎◌, inl, inr, Bool, true, false, cond, List, [], ◌∷◌, ◌++◌, map, length, Some, None, sym, refl, ap, ◌∙◌, subst, arith, append_assoc}
use Rattle.std.specs.Prelude.{slice_get, slice_set, slice_index, nat_le, flat_map}
use Rattle.std.proofs.lemmas.Bool.{cases_lt, ne_eqb, le-leb, lt-leb}
use Rattle.std.proofs.lemmas.List.{append-nil, length-map}
use Rattle.ride_base.specs.declared.numbers.VehicleNo.{VehicleNo}
use Rattle.road_graph.specs.Roads.{Roads}
use Rattle.stop_schedule.specs.declared.stop.Stop.{Stop}
use Rattle.stop_schedule.specs.Fleets.{Car, Cars, Fitting, IsChange, plans_of}
use Rattle.stop_schedule.specs.Limits.{latest_moment}
use Rattle.stop_schedule.specs.Plans.{Course, course_of}
use Rattle.stop_schedule.specs.Rates.{Rates}
use Rattle.stop_schedule.specs.Times.{arrives}
use Rattle.stop_advance.specs.declared.served.Served.{Served}
use Rattle.stop_advance.specs.Advance.{reached_of, reached_by, served_by, served_of, advanced_in}
use Rattle.board_core.specs.Steps.{moved_car, served_with, served_in}
use Rattle.board_core.specs.Arrivals.{IsFirstBy}
use Rattle.board_core.specs.BoardKept.{never, next_arrival, IsAmong, IsKeptFleet}
use Rattle.board_core.specs.Changes.{AreMovedFrom, IsReachedBy}
use Rattle.board_core.proofs.Inserts.{within}
use Rattle.board_core.proofs.KeptFleets.{map_set}
use Rattle.board_core.proofs.KeptPlans.{advanced_kept}
use Rattle.board_core.proofs.Lookups.{map_at, mapped}

-- ---- whether a vehicle reaches a stop

-- no stop is reached where the first one isn't
reached_none : (stop : ℕ) (c : Course) (now n : ℕ) → now < arrives stop c 1 → reached_of stop c now n ≡ 0
reached_none stop c now zero h = refl
reached_none stop c now (suc zero) h = let e = lt-leb (arrives stop c 1) now h in rw e refl
reached_none stop c now (suc (suc n)) h = let e = reached_none stop c now (suc n) h in let f : (0 == suc n) ≡ false = ne_eqb _ _ (λ (q : 0 ≡ suc n). omega arith) in rw (e, f) refl

-- and one is where it is
reached_some : (stop : ℕ) (c : Course) (now n : ℕ) → arrives stop c 1 ≤ now → 1 ≤ reached_of stop c now (suc n)
reached_some stop c now zero h = let e = le-leb (arrives stop c 1) now h in rw e (omega arith)
reached_some stop c now (suc n) h = let before = reached_some stop c now n h in on ((reached_of stop c now (suc n) == suc n) && nat_le (arrives stop c (suc (suc n))) now) before
  where
    on : (b : Bool) → 1 ≤ reached_of stop c now (suc n) → 1 ≤ cond b (suc (suc n)) (reached_of stop c now (suc n))
    on true before = omega arith
    on false before = before

-- a vehicle whose next arrival is later stays as it is
pub stays : (rates : Rates) (version now : ℕ) (car : Car) → now < next_arrival rates car.plan → moved_car rates version now car ≡ car
stays rates version now car h = on car.plan.stops refl h
  where
    none : reached_by rates car.plan now ≡ 0 → moved_car rates version now car ≡ car
    none e = rw e refl

    on : (stops : List Stop) → car.plan.stops ≡ stops → now < cond (length stops == 0) never (arrives rates.stop (course_of car.plan) 1) → moved_car rates version now car ≡ car
    on [] e l = none (ap (λ (xs : List Stop). reached_of rates.stop (course_of car.plan) now (length xs)) e)
    on (s ∷ stops) e l = let f : (suc (length stops) == 0) ≡ false = ne_eqb _ _ (λ (q : suc (length stops) ≡ 0). omega arith) in
        none (reached_none rates.stop (course_of car.plan) now (length car.plan.stops) (subst (λ (b : Bool). now < cond b never (arrives rates.stop (course_of car.plan) 1)) f l))

-- and serves nothing
pub serves_none : (rates : Rates) (now : ℕ) (car : Car) → now < next_arrival rates car.plan → served_with car.no (served_by rates car.plan now) ≡ []
serves_none rates now car h = on car.plan.stops refl h
  where
    none : reached_by rates car.plan now ≡ 0 → served_with car.no (served_by rates car.plan now) ≡ []
    none e = ap (λ (k : ℕ). served_with car.no (served_of rates.stop (course_of car.plan) k)) e

    on : (stops : List Stop) → car.plan.stops ≡ stops → now < cond (length stops == 0) never (arrives rates.stop (course_of car.plan) 1) → served_with car.no (served_by rates car.plan now) ≡ []
    on [] e l = none (ap (λ (xs : List Stop). reached_of rates.stop (course_of car.plan) now (length xs)) e)
    on (s ∷ stops) e l = let f : (suc (length stops) == 0) ≡ false = ne_eqb _ _ (λ (q : suc (length stops) ≡ 0). omega arith) in
        none (reached_none rates.stop (course_of car.plan) now (length car.plan.stops) (subst (λ (b : Bool). now < cond b never (arrives rates.stop (course_of car.plan) 1)) f l))

-- a vehicle whose next arrival has come is moved
pub goes_on : (rates : Rates) (version now : ℕ) (car : Car) → now ≤ latest_moment → next_arrival rates car.plan ≤ now → moved_car rates version now car ≡ record car { plan = advanced_in rates car.plan now; stamp = version }
goes_on rates version now car early h = on car.plan.stops refl h
  where
    some : (n : ℕ) → reached_by rates car.plan now ≡ n → 1 ≤ n → moved_car rates version now car ≡ record car { plan = advanced_in rates car.plan now; stamp = version }
    some n e l = let f : (reached_by rates car.plan now == 0) ≡ false = ne_eqb _ _ (λ (q : reached_by rates car.plan now ≡ 0). omega arith) in rw f refl

    on : (stops : List Stop) → car.plan.stops ≡ stops → cond (length stops == 0) never (arrives rates.stop (course_of car.plan) 1) ≤ now → moved_car rates version now car ≡ record car { plan = advanced_in rates car.plan now; stamp = version }
    on [] e l = let n : 2 ^ 64 - 1 ≤ now = l in let m : now ≤ 2 ^ 40 = early in absurd (omega arith)
    on (s ∷ stops) e l = let f : (suc (length stops) == 0) ≡ false = ne_eqb _ _ (λ (q : suc (length stops) ≡ 0). omega arith) in
        let a : arrives rates.stop (course_of car.plan) 1 ≤ now = subst (λ (b : Bool). cond b never (arrives rates.stop (course_of car.plan) 1) ≤ now) f l in
        some (reached_by rates car.plan now) refl (subst (λ (xs : List Stop). 1 ≤ reached_of rates.stop (course_of car.plan) now (length xs)) (sym e) (reached_some rates.stop (course_of car.plan) now (length stops) a))

-- ---- the first elements of a list, by a function

-- the list with the first n elements mapped
abbrev pub mapped_below : {X : Type 0} → (X → X) → ℕ → List X → List X
mapped_below f zero xs = xs
mapped_below f (suc n) [] = []
mapped_below f (suc n) (x ∷ xs) = f x ∷ mapped_below f n xs

-- all lists of the first n elements, one after another
abbrev pub joined_below : {X Y : Type 0} → (X → List Y) → ℕ → List X → List Y
joined_below g zero xs = []
joined_below g (suc n) [] = []
joined_below g (suc n) (x ∷ xs) = g x ++ joined_below g n xs

-- the next element stays so far
pub below_get : {X : Type 0} (f : X → X) (n k : ℕ) (xs : List X) → n ≤ k → slice_get (mapped_below f n xs) k ≡ slice_get xs k
below_get f zero k xs l = refl
below_get f (suc n) k [] l = refl
below_get f (suc n) zero (x ∷ xs) l = absurd (omega arith)
below_get f (suc n) (suc k) (x ∷ xs) l = below_get f n k xs (omega arith)

pub below_length : {X : Type 0} (f : X → X) (n : ℕ) (xs : List X) → length (mapped_below f n xs) ≡ length xs
below_length f zero xs = refl
below_length f (suc n) [] = refl
below_length f (suc n) (x ∷ xs) = let rest = below_length f n xs in omega arith

-- the next element is mapped
pub below_more : {X : Type 0} (f : X → X) (n : ℕ) (xs : List X) (x : X) → slice_get xs n ≡ Some x → slice_set (mapped_below f n xs) n (f x) ≡ mapped_below f (suc n) xs
below_more f zero [] x h = absurd (let bad = h in cc)
below_more {X = X} f zero (y ∷ xs) x h = let e : y ≡ x = cc in ap (λ (z : X). f z ∷ xs) (sym e)
below_more f (suc n) [] x h = absurd (let bad = h in cc)
below_more {X = X} f (suc n) (y ∷ xs) x h = ap (λ (l : List X). f y ∷ l) (below_more f n xs x h)

pub joined_more : {X Y : Type 0} (g : X → List Y) (n : ℕ) (xs : List X) (x : X) → slice_get xs n ≡ Some x → joined_below g (suc n) xs ≡ joined_below g n xs ++ g x
joined_more g zero [] x h = absurd (let bad = h in cc)
joined_more g zero (y ∷ xs) x h = let e : y ≡ x = cc in append-nil (g y) ∙ ap g e
joined_more g (suc n) [] x h = absurd (let bad = h in cc)
joined_more {Y = Y} g (suc n) (y ∷ xs) x h = ap (λ (l : List Y). g y ++ l) (joined_more g n xs x h) ∙ sym (append_assoc (g y) (joined_below g n xs) (g x))

-- an element that the function leaves as it is
pub below_same : {X : Type 0} (f : X → X) (n : ℕ) (xs : List X) → ((x : X) → slice_get xs n ≡ Some x → f x ≡ x) → mapped_below f (suc n) xs ≡ mapped_below f n xs
below_same f zero [] h = refl
below_same {X = X} f zero (x ∷ xs) h = ap (λ (z : X). z ∷ xs) (h x refl)
below_same f (suc n) [] h = refl
below_same {X = X} f (suc n) (x ∷ xs) h = ap (λ (l : List X). f x ∷ l) (below_same f n xs h)

pub joined_same : {X Y : Type 0} (g : X → List Y) (n : ℕ) (xs : List X) → ((x : X) → slice_get xs n ≡ Some x → g x ≡ []) → joined_below g (suc n) xs ≡ joined_below g n xs
joined_same g zero [] h = refl
joined_same g zero (x ∷ xs) h = append-nil (g x) ∙ h x refl
joined_same g (suc n) [] h = refl
joined_same {Y = Y} g (suc n) (x ∷ xs) h = ap (λ (l : List Y). g x ++ l) (joined_same g n xs h)

-- several of them, one after another
pub below_skip : {X : Type 0} (f : X → X) (n d : ℕ) (xs : List X) → ((k : ℕ) (x : X) → n ≤ k → k < n + d → slice_get xs k ≡ Some x → f x ≡ x) → mapped_below f (n + d) xs ≡ mapped_below f n xs
below_skip {X = X} f n zero xs h = let e : n + 0 ≡ n = omega arith in ap (λ (m : ℕ). mapped_below f m xs) e
below_skip {X = X} f n (suc d) xs h = let e : n + suc d ≡ suc (n + d) = omega arith in ap (λ (m : ℕ). mapped_below f m xs) e
    ∙ below_same f (n + d) xs (λ x q. h (n + d) x (omega arith) (omega arith) q) ∙ below_skip f n d xs (λ k x a b q. h k x a (omega arith) q)

pub joined_skip : {X Y : Type 0} (g : X → List Y) (n d : ℕ) (xs : List X) → ((k : ℕ) (x : X) → n ≤ k → k < n + d → slice_get xs k ≡ Some x → g x ≡ []) → joined_below g (n + d) xs ≡ joined_below g n xs
joined_skip {X = X} g n zero xs h = let e : n + 0 ≡ n = omega arith in ap (λ (m : ℕ). joined_below g m xs) e
joined_skip {X = X} g n (suc d) xs h = let e : n + suc d ≡ suc (n + d) = omega arith in ap (λ (m : ℕ). joined_below g m xs) e
    ∙ joined_same g (n + d) xs (λ x q. h (n + d) x (omega arith) (omega arith) q) ∙ joined_skip g n d xs (λ k x a b q. h k x a (omega arith) q)

-- all of them
pub below_all : {X : Type 0} (f : X → X) (n : ℕ) (xs : List X) → length xs ≤ n → mapped_below f n xs ≡ map f xs
below_all f zero [] l = refl
below_all f zero (x ∷ xs) l = absurd (omega arith)
below_all f (suc n) [] l = refl
below_all {X = X} f (suc n) (x ∷ xs) l = ap (λ (r : List X). f x ∷ r) (below_all f n xs (omega arith))

pub joined_all : {X Y : Type 0} (g : X → List Y) (n : ℕ) (xs : List X) → length xs ≤ n → joined_below g n xs ≡ flat_map g xs
joined_all g zero [] l = refl
joined_all g zero (x ∷ xs) l = absurd (omega arith)
joined_all g (suc n) [] l = refl
joined_all {Y = Y} g (suc n) (x ∷ xs) l = ap (λ (r : List Y). g x ++ r) (joined_all g n xs (omega arith))

-- ---- from one vehicle that reaches a stop to the next one

abbrev pub served_now : Rates → ℕ → Car → List (VehicleNo × Served)
served_now rates now car = served_with car.no (served_by rates car.plan now)

abbrev pub next_of : Rates → Car → ℕ
next_of rates car = next_arrival rates car.plan

-- a number of a mapped list
index_map : {X : Type 0} (h : X → ℕ) (xs : List X) (k : ℕ) (x : X) → slice_get xs k ≡ Some x → slice_index (map h xs) k ≡ h x
index_map h [] k x e = cc
index_map h (y ∷ xs) zero x e = let same : y ≡ x = cc in ap h same
index_map h (y ∷ xs) (suc k) x e = index_map h xs k x e

-- who is passed over up to a place stays, and who is behind the first n elements is as before
abbrev AreLater : Rates → ℕ → List Car → ℕ → ℕ → Type 0
AreLater rates now cars from to = (k : ℕ) (car : Car) → from ≤ k → k < to → slice_get cars k ≡ Some car → now < next_of rates car

later : (rates : Rates) (version now : ℕ) (old : List Car) (from to : ℕ) (arrivals : List ℕ) → arrivals ≡ map (next_of rates) (mapped_below (moved_car rates version now) from old)
    → ((k : ℕ) → from ≤ k → k < to → now < slice_index arrivals k) → AreLater rates now old from to
later rates version now old from to arrivals is h k car l m e =
    let i : slice_index (map (next_of rates) (mapped_below (moved_car rates version now) from old)) k ≡ next_of rates car = index_map (next_of rates) (mapped_below (moved_car rates version now) from old) k car (below_get (moved_car rates version now) from k old l ∙ e) in
    let j : slice_index arrivals k ≡ slice_index (map (next_of rates) (mapped_below (moved_car rates version now) from old)) k = ap (λ (a : List ℕ). slice_index a k) is in
    let n = h k l m in omega arith

skip_cars : (rates : Rates) (version now : ℕ) (old : List Car) (from to : ℕ) → from ≤ to → AreLater rates now old from to → mapped_below (moved_car rates version now) to old ≡ mapped_below (moved_car rates version now) from old
skip_cars rates version now old from to l h = let e : from + (to - from) ≡ to = omega arith in
    subst (λ (n : ℕ). mapped_below (moved_car rates version now) n old ≡ mapped_below (moved_car rates version now) from old) e
    (below_skip (moved_car rates version now) from (to - from) old (λ k car a b q. stays rates version now car (h k car a (omega arith) q)))

skip_served : (rates : Rates) (now : ℕ) (old : List Car) (from to : ℕ) → from ≤ to → AreLater rates now old from to → joined_below (served_now rates now) to old ≡ joined_below (served_now rates now) from old
skip_served rates now old from to l h = let e : from + (to - from) ≡ to = omega arith in
    subst (λ (n : ℕ). joined_below (served_now rates now) n old ≡ joined_below (served_now rates now) from old) e
    (joined_skip (served_now rates now) from (to - from) old (λ k car a b q. serves_none rates now car (h k car a (omega arith) q)))

-- where nobody reaches a stop any more, all are moved
all_cars : (rates : Rates) (version now : ℕ) (old : List Car) (from : ℕ) → AreLater rates now old from (length old) → mapped_below (moved_car rates version now) from old ≡ map (moved_car rates version now) old
all_cars rates version now old from h = on (cases_lt from (length old))
  where
    on : (from < length old) ⊎ (length old ≤ from) → mapped_below (moved_car rates version now) from old ≡ map (moved_car rates version now) old
    on (inl l) = sym (skip_cars rates version now old from (length old) (omega arith) h) ∙ below_all (moved_car rates version now) (length old) old (omega arith)
    on (inr l) = below_all (moved_car rates version now) from old l

all_served : (rates : Rates) (now : ℕ) (old : List Car) (from : ℕ) → AreLater rates now old from (length old) → joined_below (served_now rates now) from old ≡ flat_map (served_now rates now) old
all_served rates now old from h = on (cases_lt from (length old))
  where
    on : (from < length old) ⊎ (length old ≤ from) → joined_below (served_now rates now) from old ≡ flat_map (served_now rates now) old
    on (inl l) = sym (skip_served rates now old from (length old) (omega arith) h) ∙ joined_all (served_now rates now) (length old) old (omega arith)
    on (inr l) = joined_all (served_now rates now) from old l

-- ---- the vehicles

-- The vehicles up to a place are moved, and their stops told.
pub record AreMovedTo (Before After : Fitting) (fleet : Cars) (now from : ℕ) (cars : List Car) (told : List (VehicleNo × Served)) : Type 0 where
  pub cars_are : cars ≡ mapped_below (moved_car fleet.rates (fleet.version + 1) now) from fleet.cars
  pub told_are : told ≡ joined_below (served_now fleet.rates now) from fleet.cars
  pub fits : (g : Roads) → Before g fleet.rates (plans_of fleet) → After g fleet.rates (map (λ (car : Car). car.plan) cars)

-- the next one that reaches a stop stands in its place yet
pub stands_yet : (Before After : Fitting) (fleet : Cars) (now from place : ℕ) (cars : List Car) (told : List (VehicleNo × Served)) (car : Car) → AreMovedTo Before After fleet now from cars told → from ≤ place
    → slice_get cars place ≡ Some car → slice_get fleet.cars place ≡ Some car
stands_yet Before After fleet now from place cars told car m l e = sym (below_get (moved_car fleet.rates (fleet.version + 1) now) from place fleet.cars l) ∙ ap (λ (c : List Car). slice_get c place) (sym m.cars_are) ∙ e

pub as_many : (Before After : Fitting) (fleet : Cars) (now from : ℕ) (cars : List Car) (told : List (VehicleNo × Served)) → AreMovedTo Before After fleet now from cars told → length cars ≡ length fleet.cars
as_many Before After fleet now from cars told m = ap length m.cars_are ∙ below_length (moved_car fleet.rates (fleet.version + 1) now) from fleet.cars

-- its schedule may be moved on
pub may_move : (Before After : Fitting) (nodes : ℕ) (fleet : Cars) (arrivals : List ℕ) (now from place : ℕ) (cars : List Car) (told : List (VehicleNo × Served)) (car : Car) → IsKeptFleet Before nodes fleet arrivals
    → AreMovedTo Before After fleet now from cars told → from ≤ place → slice_get cars place ≡ Some car → IsChange After fleet.rates place car.plan (advanced_in fleet.rates car.plan now)
may_move Before After nodes fleet arrivals now from place cars told car h m l e =
    let stands = stands_yet Before After fleet now from place cars told car m l e in
    let kept = advanced_kept nodes fleet.rates fleet.clock now car.plan (h.plans place car stands) in
    record {
      graph = h.graph;
      plans = map (λ (c : Car). c.plan) cars;
      fits = m.fits h.graph h.fits;
      stands = map_at (λ (c : Car). c.plan) cars place car e;
      kept = (h.plans place car stands).kept;
      keeps_on = kept.kept;
      within = record {
        place = subst (λ (n : ℕ). IsAmong n (advanced_in fleet.rates car.plan now).place) (sym h.many) kept.place;
        stops = λ k s q. subst (λ (n : ℕ). IsAmong n s.node) (sym h.many) (kept.stops k s q);
      };
    }

-- and then it is moved
pub moved_more : (Before Middle After : Fitting) (nodes : ℕ) (fleet : Cars) (arrivals : List ℕ) (now from place : ℕ) (cars cars' : List Car) (told told' : List (VehicleNo × Served)) → IsKeptFleet Before nodes fleet arrivals → now ≤ latest_moment
    → AreMovedTo Before Middle fleet now from cars told → IsFirstBy arrivals from now (Some place)
    → ((car : Car) → slice_get cars place ≡ Some car → IsReachedBy Middle After fleet.rates now (fleet.version + 1) place car cars cars' told told')
    → AreMovedTo Before After fleet now (suc place) cars' told'
moved_more Before Middle After nodes fleet arrivals now from place cars cars' told told' h early m f all = record {
  cars_are = r.cars_are ∙ both at_place (sym (goes_on fleet.rates (fleet.version + 1) now car early due)) ∙ below_more (moved_car fleet.rates (fleet.version + 1) now) place fleet.cars car there;
  told_are = r.told_are ∙ ap (λ (l : List (VehicleNo × Served)). l ++ served_now fleet.rates now car) (m.told_are ∙ sym (skip_served fleet.rates now fleet.cars from place f.0 passed)) ∙ sym (joined_more (served_now fleet.rates now) place fleet.cars car there);
  fits = λ g k. subst (After g fleet.rates) (sym (ap (map (λ (c : Car). c.plan)) r.cars_are ∙ map_set (λ (c : Car). c.plan) cars place (record car { plan = advanced_in fleet.rates car.plan now; stamp = fleet.version + 1 })))
      (r.fits g (map (λ (c : Car). c.plan) cars) (m.fits g k) (map_at (λ (c : Car). c.plan) cars place car stands));
}
  where
    is_next : arrivals ≡ map (next_of fleet.rates) fleet.cars
    is_next = h.next

    inside : (x : Car) × (slice_get fleet.cars place ≡ Some x)
    inside = within fleet.cars place (let l : length arrivals ≡ length fleet.cars = ap length is_next ∙ length-map fleet.cars (next_of fleet.rates) in let p = f.1 in omega arith)

    car : Car
    car = inside.0

    there : slice_get fleet.cars place ≡ Some car
    there = inside.1

    stands : slice_get cars place ≡ Some car
    stands = ap (λ (c : List Car). slice_get c place) m.cars_are ∙ below_get (moved_car fleet.rates (fleet.version + 1) now) from place fleet.cars f.0 ∙ there

    passed : AreLater fleet.rates now fleet.cars from place
    passed k x l b e = let i = index_map (next_of fleet.rates) fleet.cars k x e in let j = ap (λ (a : List ℕ). slice_index a k) is_next in let n = f.3 k l b in omega arith

    due : next_of fleet.rates car ≤ now
    due = let i = index_map (next_of fleet.rates) fleet.cars place car there in let j = ap (λ (a : List ℕ). slice_index a place) is_next in let n = f.2 in omega arith

    r : IsReachedBy Middle After fleet.rates now (fleet.version + 1) place car cars cars' told told'
    r = all car stands

    at_place : cars ≡ mapped_below (moved_car fleet.rates (fleet.version + 1) now) place fleet.cars
    at_place = m.cars_are ∙ sym (skip_cars fleet.rates (fleet.version + 1) now fleet.cars from place f.0 passed)

    both : {xs ys : List Car} {x y : Car} → xs ≡ ys → x ≡ y → slice_set xs place x ≡ slice_set ys place y
    both p q = cc

-- all are moved in the end
pub moved_all : (Before After : Fitting) (nodes : ℕ) (fleet : Cars) (arrivals : List ℕ) (now from : ℕ) (cars : List Car) (told : List (VehicleNo × Served)) → IsKeptFleet Before nodes fleet arrivals → AreMovedTo Before After fleet now from cars told
    → IsFirstBy arrivals from now None → (cars ≡ map (moved_car fleet.rates (fleet.version + 1) now) fleet.cars) × (told ≡ served_in fleet now)
moved_all Before After nodes fleet arrivals now from cars told h m f = (
  m.cars_are ∙ all_cars fleet.rates (fleet.version + 1) now fleet.cars from passed,
  m.told_are ∙ all_served fleet.rates now fleet.cars from passed,
)
  where
    is_next : arrivals ≡ map (next_of fleet.rates) fleet.cars
    is_next = h.next

    passed : AreLater fleet.rates now fleet.cars from (length fleet.cars)
    passed k x l b e = let i = index_map (next_of fleet.rates) fleet.cars k x e in let j = ap (λ (a : List ℕ). slice_index a k) is_next in
        let q : length arrivals ≡ length fleet.cars = ap length is_next ∙ length-map fleet.cars (next_of fleet.rates) in let n = f k l (omega arith) in omega arith

-- ---- the next arrivals

-- The next arrivals up to a place are those of the vehicles that were moved.
pub record AreRenewedTo (rates : Rates) (now : ℕ) (cars : List Car) (from : ℕ) (arrivals : List ℕ) : Type 0 where
  pub version : ℕ
  pub old : List Car
  pub cars_are : cars ≡ map (moved_car rates version now) old
  pub next : arrivals ≡ map (next_of rates) (mapped_below (moved_car rates version now) from old)

pub renewed_none : (rates : Rates) (now : ℕ) (cars : List Car) (arrivals : List ℕ) → AreMovedFrom rates now cars arrivals → AreRenewedTo rates now cars 0 arrivals
renewed_none rates now cars arrivals m = record { version = m.version; old = m.old; cars_are = m.cars_are; next = m.next }

pub renewed_many : (rates : Rates) (now : ℕ) (cars : List Car) (from : ℕ) (arrivals : List ℕ) → AreRenewedTo rates now cars from arrivals → length arrivals ≡ length cars
renewed_many rates now cars from arrivals m = ap length m.next ∙ length-map (mapped_below (moved_car rates m.version now) from m.old) (next_of rates) ∙ below_length (moved_car rates m.version now) from m.old
    ∙ sym (ap length m.cars_are ∙ length-map m.old (moved_car rates m.version now))

pub renewed_more : (rates : Rates) (now : ℕ) (cars : List Car) (from place : ℕ) (arrivals : List ℕ) (car : Car) (moment : ℕ) → AreRenewedTo rates now cars from arrivals → IsFirstBy arrivals from now (Some place)
    → slice_get cars place ≡ Some car → moment ≡ next_of rates car → AreRenewedTo rates now cars (suc place) (slice_set arrivals place moment)
renewed_more rates now cars from place arrivals car moment m f e n = record {
  version = m.version;
  old = m.old;
  cars_are = m.cars_are;
  next = both (m.next ∙ ap (map (next_of rates)) (sym (skip_cars rates m.version now m.old from place f.0 passed))) (n ∙ ap (next_of rates) is)
      ∙ sym (map_set (next_of rates) (mapped_below (moved_car rates m.version now) place m.old) place (moved_car rates m.version now old))
      ∙ ap (map (next_of rates)) (below_more (moved_car rates m.version now) place m.old old there);
}
  where
    passed : AreLater rates now m.old from place
    passed = later rates m.version now m.old from place arrivals m.next f.3

    inside : (x : Car) × (slice_get m.old place ≡ Some x) × (car ≡ moved_car rates m.version now x)
    inside = mapped (moved_car rates m.version now) m.old place car (ap (λ (c : List Car). slice_get c place) (sym m.cars_are) ∙ e)

    old : Car
    old = inside.0

    there : slice_get m.old place ≡ Some old
    there = inside.1

    is : car ≡ moved_car rates m.version now old
    is = inside.2

    both : {xs ys : List ℕ} {x y : ℕ} → xs ≡ ys → x ≡ y → slice_set xs place x ≡ slice_set ys place y
    both p q = cc

pub renewed_all : (rates : Rates) (now : ℕ) (cars : List Car) (from : ℕ) (arrivals : List ℕ) → AreRenewedTo rates now cars from arrivals → IsFirstBy arrivals from now None → arrivals ≡ map (next_of rates) cars
renewed_all rates now cars from arrivals m f = m.next ∙ ap (map (next_of rates)) (all_cars rates m.version now m.old from passed ∙ sym m.cars_are)
  where
    passed : AreLater rates now m.old from (length m.old)
    passed = later rates m.version now m.old from (length m.old) arrivals m.next (λ k l b. f k l (let q = renewed_many rates now cars from arrivals m in let p = ap length m.cars_are ∙ length-map m.old (moved_car rates m.version now) in omega arith))
