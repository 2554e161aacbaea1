use Rattle.std.proofs.Common.{◌≡◌, ℕ, zero, suc, ◌+◌, ◌<◌, ◌≤◌, ◌==◌, ◌⊎◌, inl, inr, Bool, true, false, cond, List, [], ◌∷◌, ◌++◌, length, Some, sym, refl, ap, ◌∙◌, subst, arith}
use Rattle.std.proofs.lemmas.Bool.{eq-eqb}
use Rattle.std.proofs.lemmas.Option.{slice_get-map}
use Rattle.std.specs.Prelude.{slice_get, flat_map, option_map}
use Rattle.ride_base.specs.declared.numbers.VehicleNo.{VehicleNo}
use Rattle.road_graph.specs.Roads.{Roads}
use Rattle.stop_schedule.specs.Fleets.{Car}
use Rattle.stop_schedule.specs.Plans.{course_of}
use Rattle.stop_schedule.specs.Rates.{Rates}
use Rattle.stop_advance.specs.declared.served.Served.{Served}
use Rattle.stop_advance.specs.Advance.{reached_by, served_by, advanced_in}
use Rattle.insertion_cost.specs.declared.decision.Decision.TheVariants.{Assigned as IsAssigned, Nobody}
use Rattle.board_core.specs.declared.entry.Advanced.TheVariants.{Moved, Back as Behind}
use Rattle.board_core.specs.declared.entry.Cancelled.TheVariants.{Removed, Refused as Declined}
use Rattle.board_core.specs.declared.entry.Submitted.TheVariants.{Accepted, Refused}
use Rattle.board_core.specs.declared.entry.Entry.{Entry}
use Rattle.board_core.specs.declared.entry.Entry.TheVariants.{Submit, Claim, Back, Commit, Advance, Cancel, Shut}
use Rattle.board_core.specs.Boards.{Board}
use Rattle.board_core.specs.Histories.{Legal}
use Rattle.board_core.specs.NamedVehicles.{Names, IsNamedIn, ChangedVehiclesAreNamed}
use Rattle.board_core.specs.Steps.{Step, moved_car, served_in, served_with}
use Rattle.board_core.proofs.Advances.{reached-le}
use Rattle.board_core.proofs.Consistent.{set_cases}
use Rattle.board_core.proofs.Inserts.{within}
use Rattle.board_core.proofs.Lookups.{mapped}
use Rattle.board_core.proofs.Riders.{served_long}
use Rattle.board_core.proofs.Versions.{step_later}

-- ---- what a vehicle serves is told among what all serve

left : {X : Type 0} (xs ys : List X) (k : ℕ) (x : X) → slice_get xs k ≡ Some x → slice_get (xs ++ ys) k ≡ Some x
left [] ys k x h = absurd (let bad = h in cc)
left (z ∷ xs) ys zero x h = h
left (z ∷ xs) ys (suc k) x h = left xs ys k x h

right : {X : Type 0} (xs ys : List X) (k : ℕ) (x : X) → slice_get ys k ≡ Some x → (m : ℕ) × (slice_get (xs ++ ys) m ≡ Some x)
right [] ys k x h = (k, h)
right (z ∷ xs) ys k x h = let m = right xs ys k x h in (suc m.0, m.1)

joined : {X Y : Type 0} (f : X → List Y) (xs : List X) (p : ℕ) (x : X) (k : ℕ) (y : Y) → slice_get xs p ≡ Some x → slice_get (f x) k ≡ Some y
    → (m : ℕ) × (slice_get (flat_map f xs) m ≡ Some y)
joined f [] p x k y e h = absurd (let bad = e in cc)
joined f (z ∷ xs) zero x k y e h =
    let same : x ≡ z = cc in (k, left (f z) (flat_map f xs) k y (ap (λ v. slice_get (f v) k) (sym same) ∙ h))
joined f (z ∷ xs) (suc p) x k y e h = let m = joined f xs p x k y e h in right (f z) (flat_map f xs) m.0 y m.1

-- a vehicle that reached a stop serves one
serves_one : (rates : Rates) (now : ℕ) (car : Car) → (reached_by rates car.plan now ≡ 0 → ⊥) → (s : Served) × (slice_get (served_by rates car.plan now) 0 ≡ Some s)
serves_one rates now car n =
    let few = reached-le rates.stop (course_of car.plan) now (length car.plan.stops) in
    let long = served_long rates.stop (course_of car.plan) (reached_by rates car.plan now) few in
    within (served_by rates car.plan now) 0 (some _ _ long n)
  where
    some : (a b : ℕ) → a ≡ b → (b ≡ 0 → ⊥) → 0 < a
    some a b e m = omega arith

-- ---- one entry

-- the vehicle of a place stood there before, with its stamp
abbrev WasThere : Board → ℕ → Car → Type 0
WasThere b place car = (old : Car) × (slice_get b.fleet.cars place ≡ Some old) × (old.no ≡ car.no) × (old.stamp ≡ car.stamp)

same_cars : (old made new : Board) (place : ℕ) (car : Car) → new ≡ made → made.fleet.cars ≡ old.fleet.cars → slice_get new.fleet.cars place ≡ Some car
    → WasThere old place car
same_cars old made new place car e same h = (
  car,
  ap (λ (xs : List Car). slice_get xs place) (sym same) ∙ ap (λ (b : Board). slice_get b.fleet.cars place) (sym e) ∙ h,
  refl,
  refl,
)

-- the entry names the vehicle, whose stamp is at most the next version
abbrev IsNamed : Board → Entry → ℕ → Car → Type 0
IsNamed b e place car = Names e place car.no × (car.stamp ≤ b.fleet.version + 1)

same_least : (a b : ℕ) → a ≡ b → a ≤ b
same_least a b e = omega arith

set_named : (b : Board) (e : Entry) (at place : ℕ) (next car : Car) → next.stamp ≡ b.fleet.version + 1
    → ((place ≡ at) × (car ≡ next) → Names e place car.no) → ((place ≡ at) × (car ≡ next)) ⊎ ((place ≡ at → ⊥) × (slice_get b.fleet.cars place ≡ Some car))
    → IsNamed b e place car ⊎ WasThere b place car
set_named b e at place next car stamp named (inl q) = inl (named q, same_least _ _ (ap (λ (c : Car). c.stamp) q.1 ∙ stamp))
set_named b e at place next car stamp named (inr q) = inr (car, q.1, refl, refl)

moved_named : (b : Board) (now place : ℕ) (served : List (VehicleNo × Served)) (old car : Car) → served ≡ served_in b.fleet now
    → slice_get b.fleet.cars place ≡ Some old → car ≡ moved_car b.fleet.rates (b.fleet.version + 1) now old
    → IsNamed b (Advance now (Moved served)) place car ⊎ WasThere b place car
moved_named b now place served old car told stands is = on (reached_by b.fleet.rates old.plan now == 0) refl is where
  later : Car
  later = record old { plan = advanced_in b.fleet.rates old.plan now; stamp = b.fleet.version + 1 }

  on : (t : Bool) → (reached_by b.fleet.rates old.plan now == 0) ≡ t → car ≡ cond t old later
      → IsNamed b (Advance now (Moved served)) place car ⊎ WasThere b place car
  on true t e = inr (old, stands, ap (λ (c : Car). c.no) (sym e), ap (λ (c : Car). c.stamp) (sym e))
  on false t e = inl (
    (m.0, s.0, ap (λ (l : List (VehicleNo × Served)). slice_get l m.0) told ∙ m.1 ∙ ap (λ (n : VehicleNo). Some (n, s.0)) (ap (λ (c : Car). c.no) (sym e))),
    same_least _ _ (ap (λ (c : Car). c.stamp) e),
  ) where
    s : (s : Served) × (slice_get (served_by b.fleet.rates old.plan now) 0 ≡ Some s)
    s = serves_one b.fleet.rates now old (λ z. (let bad = sym t ∙ eq-eqb _ _ z in cc))

    m : (m : ℕ) × (slice_get (served_in b.fleet now) m ≡ Some (old.no, s.0))
    m = joined (λ (c : Car). served_with c.no (served_by b.fleet.rates c.plan now)) b.fleet.cars place old 0 (old.no, s.0) stands
        (slice_get-map (λ (x : Served). let y : VehicleNo × Served = (old.no, x) in y) (served_by b.fleet.rates old.plan now) 0
        ∙ ap (option_map (λ (x : Served). let y : VehicleNo × Served = (old.no, x) in y)) s.1)

-- the entry names the vehicle, or that is as it was
step_named : (g : Roads) (old : Board) (e : Entry) (new : Board) (place : ℕ) (car : Car) → Step g old e new → slice_get new.fleet.cars place ≡ Some car
    → IsNamed old e place car ⊎ WasThere old place car
step_named g old (Submit r Accepted) new place car s h = inr (same_cars old _ new place car s.1 refl h)
step_named g old (Submit r (Refused reason)) new place car s h = inr (same_cars old _ new place car s.1 refl h)
step_named g old (Claim number desk) new place car s h = inr (same_cars old _ new place car s.3 refl h)
step_named g old (Back number) new place car s h = inr (same_cars old _ new place car s.3 refl h)
step_named g old (Commit number (IsAssigned a)) new place car s h = set_named old (Commit number (IsAssigned a)) a.offer.place place _ car refl (λ q. sym q.0)
    (set_cases old.fleet.cars a.offer.place s.car _ place car s.stands (ap (λ (b : Board). slice_get b.fleet.cars place) (sym s.leads_to) ∙ h))
step_named g old (Commit number Nobody) new place car s h = inr (same_cars old _ new place car s.leads_to refl h)
step_named g old (Advance now (Moved served)) new place car s h =
    let m = mapped (moved_car old.fleet.rates (old.fleet.version + 1) now) old.fleet.cars place car
    (ap (λ (b : Board). slice_get b.fleet.cars place) (sym s.2) ∙ h) in
    moved_named old now place served m.0 car s.1 m.1 m.2
step_named g old (Advance now (Behind clock)) new place car s h = inr (same_cars old _ new place car s.2 refl h)
step_named g old (Cancel number (Removed x)) new place car s h = set_named old (Cancel number (Removed x)) s.assigned.offer.place place _ car refl
    (λ q. sym s.numbered ∙ ap (λ (c : Car). c.no) (sym q.1))
    (set_cases old.fleet.cars s.assigned.offer.place s.car _ place car s.stands (ap (λ (b : Board). slice_get b.fleet.cars place) (sym s.leads_to) ∙ h))
step_named g old (Cancel number (Declined reason)) new place car s h = inr (same_cars old _ new place car s.1 refl h)
step_named g old Shut new place car s h = inr (same_cars old _ new place car s.1 refl h)

-- ---- all entries of a history

all_named : (g : Roads) (first : Board) (history : List Entry) (last : Board) (place : ℕ) (car : Car) → Legal g first history last
    → slice_get last.fleet.cars place ≡ Some car → IsNamedIn history place car.no ⊎ WasThere first place car
all_named g first [] last place car l h = inr (same_cars first first last place car l refl h)
all_named g first (e ∷ history) last place car l h = on (all_named g l.0 history last place car l.2 h) where
  by_first : (c : Car) → c.no ≡ car.no → c.stamp ≡ car.stamp → IsNamed first e place c ⊎ WasThere first place c
      → IsNamedIn (e ∷ history) place car.no ⊎ WasThere first place car
  by_first c n s (inl x) = inl (0, e, refl, subst (λ (m : VehicleNo). Names e place m) n x.0)
  by_first c n s (inr x) = inr (x.0, x.1, x.2 ∙ n, x.3 ∙ s)

  on : IsNamedIn history place car.no ⊎ WasThere l.0 place car → IsNamedIn (e ∷ history) place car.no ⊎ WasThere first place car
  on (inl x) = inl (suc x.0, x.1, x.2, x.3)
  on (inr x) = by_first x.0 x.2 x.3 (step_named g first e l.0 place x.0 l.1 x.1)

-- the stamps of a board are at most its version
abbrev HasOldStamps : Board → Type 0
HasOldStamps b = (place : ℕ) (car : Car) → slice_get b.fleet.cars place ≡ Some car → car.stamp ≤ b.fleet.version

step_old : (g : Roads) (old : Board) (e : Entry) (new : Board) → Step g old e new → HasOldStamps old → HasOldStamps new
step_old g old e new s most place car h = on (step_named g old e new place car s h) where
  version : new.fleet.version ≡ old.fleet.version + 1
  version = (step_later g old e new s).version

  on : IsNamed old e place car ⊎ WasThere old place car → car.stamp ≤ new.fleet.version
  on (inl x) = let v = version in let l = x.1 in omega arith
  on (inr x) = let v = version in let l = most place x.0 x.1 in let e = x.3 in omega arith

stay_old : (g : Roads) (first : Board) (history : List Entry) (last : Board) → Legal g first history last → HasOldStamps first → HasOldStamps last
stay_old g first [] last l most = subst HasOldStamps (sym l) most
stay_old g first (e ∷ history) last l most = stay_old g l.0 history last l.2 (step_old g first e l.0 l.1 most)

pub changed_vehicles_are_named : ChangedVehiclesAreNamed
changed_vehicles_are_named g first before middle after last place car good l m h above =
    on (all_named g middle after last place car m h)
  where
    most : HasOldStamps middle
    most = stay_old g first before middle l (λ k c e. (good.each k c e).stamp)

    on : IsNamedIn after place car.no ⊎ WasThere middle place car → IsNamedIn after place car.no
    on (inl x) = x
    on (inr x) = let l = most place x.0 x.1 in let same = x.3 in absurd (omega arith)
