use Rattle.std.proofs.Common.{◌≡◌, ℕ, zero, suc, ◌<◌, ◌≤◌, ◌==◌, ◌&&◌, ◌⊎◌, inl, inr, Bool, true, false, cond, List, [], ◌∷◌, ◌++◌, length, Some, sym, refl, ap, ◌∙◌, subst, arith}
use Rattle.std.specs.Prelude.{slice_get, flat_map, nat_le}
use Rattle.std.proofs.lemmas.Bool.{cases_lt, leb-true, eqb-true, and_parts}
use Rattle.std.proofs.lemmas.List.{append-nil}
use Rattle.std.proofs.lemmas.Option.{same_Some, slice_get_within}
use Rattle.ride_base.specs.declared.numbers.VehicleNo.{VehicleNo}
use Rattle.stop_removal.specs.Laws.{RemovalsKeepPromises}
use Rattle.stop_schedule.specs.declared.request.Request.{Request}
use Rattle.stop_schedule.specs.declared.stop.Promise.{Promise}
use Rattle.stop_schedule.specs.declared.stop.Stop.{Stop}
use Rattle.stop_schedule.specs.declared.stop.StopKind.{StopKind}
use Rattle.stop_schedule.specs.declared.stop.StopKind.TheVariants.{Pickup, Dropoff}
use Rattle.stop_schedule.specs.Fronts.{IsAhead}
use Rattle.stop_schedule.specs.Fleets.{Car}
use Rattle.stop_schedule.specs.Plans.{Plan, Course, course_of}
use Rattle.stop_schedule.specs.Rates.{Rates}
use Rattle.stop_schedule.specs.Times.{arrives}
use Rattle.stop_advance.specs.declared.served.Served.{Served}
use Rattle.stop_advance.specs.Advance.{reached_of, reached_by, served_by}
use Rattle.board_core.specs.declared.entry.Advanced.TheVariants.{Moved}
use Rattle.board_core.specs.declared.entry.Entry.{Entry}
use Rattle.board_core.specs.declared.entry.Entry.TheVariants.{Advance}
use Rattle.board_core.specs.Boards.{Board, opening_board}
use Rattle.board_core.specs.Histories.{Legal}
use Rattle.board_core.specs.Laws.{PromisesAreDoneInTime}
use Rattle.board_core.specs.Promises.{limit_of, HasRider, IsPlannedStop, IsServedStop, ArePromisesKept}
use Rattle.board_core.specs.Steps.{served_with, served_in}
use Rattle.board_core.proofs.Ahead.{arrives_ahead}
use Rattle.board_core.proofs.SoundBoards.{IsSoundBoard, opening_sound}
use Rattle.board_core.proofs.SoundSteps.{legal_sound}
use Rattle.board_core.proofs.Lookups.{mapped}
use Rattle.board_core.proofs.Advances.{reached-le}
use Rattle.board_core.proofs.KeptPromises.{law}
use Rattle.board_core.proofs.Inserts.{within}
use Rattle.board_core.proofs.Riders.{served_long, served_at}
use Rattle.board_core.proofs.LegalHistories.{legal_unique, legal_split}
use Rattle.board_core.proofs.LessStops.{either}

-- a planned stop that was due by a moment before the clock is none
pub never_due : (rates : Rates) (p : Plan) (now : ℕ) (k : ℕ) (kind : StopKind) (r : Request) (promise : Promise) → IsAhead p now → IsPlannedStop rates p k kind r promise → limit_of promise kind < now → ⊥
never_due rates p now k Pickup r promise h s late = let a = arrives_ahead rates p now h k (slice_get_within p.stops k s.stop s.stands) in let t = s.in_time in omega arith
never_due rates p now k Dropoff r promise h s late = let a = arrives_ahead rates p now h k (slice_get_within p.stops k s.stop s.stands) in let t = s.in_time in omega arith

-- a rider whose promised moment is before the clock was served
pub due_pickup : (rates : Rates) (p : Plan) (now : ℕ) (served : List Served) (r : Request) (promise : Promise) → IsAhead p now → HasRider rates p served r promise → promise.pickup < now → (k : ℕ) × IsServedStop served k Pickup r promise
due_pickup rates p now served r promise h (inl x) late = absurd (never_due rates p now x.0 Pickup r promise h x.3 late)
due_pickup rates p now served r promise h (inr (inl x)) late = (x.0, x.2)
due_pickup rates p now served r promise h (inr (inr x)) late = (x.0, x.3)

pub due_dropoff : (rates : Rates) (p : Plan) (now : ℕ) (served : List Served) (r : Request) (promise : Promise) → IsAhead p now → HasRider rates p served r promise → promise.arrival < now
    → (k : ℕ) × (l : ℕ) × (k < l) × IsServedStop served k Pickup r promise × IsServedStop served l Dropoff r promise
due_dropoff rates p now served r promise h (inl x) late = absurd (never_due rates p now x.1 Dropoff r promise h x.4 late)
due_dropoff rates p now served r promise h (inr (inl x)) late = absurd (never_due rates p now x.1 Dropoff r promise h x.3 late)
due_dropoff rates p now served r promise h (inr (inr x)) late = x

-- each stop that is reached by a moment is reached no later
reached_each : (stop : ℕ) (c : Course) (now n m : ℕ) → m < reached_of stop c now n → arrives stop c (suc m) ≤ now
reached_each stop c now zero m h = absurd (omega arith)
reached_each stop c now (suc n) m h = on ((reached_of stop c now n == n) && nat_le (arrives stop c (suc n)) now) refl h (reached_each stop c now n m)
  where
    last : m < suc n → (reached_of stop c now n ≡ n) → nat_le (arrives stop c (suc n)) now ≡ true → (m < reached_of stop c now n → arrives stop c (suc m) ≤ now) → (m < n) ⊎ (n ≤ m) → arrives stop c (suc m) ≤ now
    last l e t before (inl b) = before (omega arith)
    last l e t before (inr b) = let q : n ≡ m = omega arith in subst (λ (k : ℕ). arrives stop c (suc k) ≤ now) q (leb-true _ _ t)

    on : (b : Bool) → ((reached_of stop c now n == n) && nat_le (arrives stop c (suc n)) now) ≡ b → m < cond b (suc n) (reached_of stop c now n)
        → (m < reached_of stop c now n → arrives stop c (suc m) ≤ now) → arrives stop c (suc m) ≤ now
    on true e h before = let p = and_parts (reached_of stop c now n == n) (nat_le (arrives stop c (suc n)) now) e in last h (eqb-true _ _ p.0) p.1 before (cases_lt m n)
    on false e h before = before h

-- an element of lists joined is one of an element's
stems : {X Y : Type 0} (f : X → List Y) (xs : List X) (k : ℕ) (y : Y) → slice_get (flat_map f xs) k ≡ Some y → (x : X) × (p : ℕ) × (m : ℕ) × (slice_get xs p ≡ Some x) × (slice_get (f x) m ≡ Some y)
stems f [] k y h = absurd (let bad = h in cc)
stems {X = X} {Y = Y} f (x ∷ xs) k y h = on (either (f x) (flat_map f xs) k y h) (λ m e. stems f xs m y e)
  where
    on : ((m : ℕ) × (slice_get (f x) m ≡ Some y)) ⊎ ((m : ℕ) × (slice_get (flat_map f xs) m ≡ Some y))
        → ((m : ℕ) → slice_get (flat_map f xs) m ≡ Some y → (x : X) × (p : ℕ) × (m : ℕ) × (slice_get xs p ≡ Some x) × (slice_get (f x) m ≡ Some y)) → (z : X) × (p : ℕ) × (m : ℕ) × (slice_get (x ∷ xs) p ≡ Some z) × (slice_get (f z) m ≡ Some y)
    on (inl a) rest = (x, 0, a.0, refl, a.1)
    on (inr a) rest = let b = rest a.0 a.1 in (b.0, suc b.1, b.2, b.3, b.4)

-- what one vehicle serves as the clock moves
served_between : (rates : Rates) (p : Plan) (clock now m : ℕ) (s : Served) → IsAhead p clock → slice_get (served_by rates p now) m ≡ Some s → (clock ≤ s.arr) × (s.arr ≤ now)
served_between rates p clock now m s h e = (
  subst (λ (n : ℕ). clock ≤ n) (sym time) (arrives_ahead rates p clock h m (let b = below in let f = few in omega arith)),
  subst (λ (n : ℕ). n ≤ now) (sym time) (reached_each rates.stop (course_of p) now (length p.stops) m below),
)
  where
    few : reached_by rates p now ≤ length p.stops
    few = reached-le rates.stop (course_of p) now (length p.stops)

    below : m < reached_by rates p now
    below = let l = slice_get_within (served_by rates p now) m s e in let n = served_long rates.stop (course_of p) (reached_by rates p now) few in omega arith

    there : (t : Stop) × (slice_get p.stops m ≡ Some t)
    there = within p.stops m (let b = below in let f = few in omega arith)

    time : s.arr ≡ arrives rates.stop (course_of p) (suc m)
    time = ap (λ (s : Served). s.arr) (same_Some _ _ (sym e ∙ served_at rates.stop (course_of p) (reached_by rates p now) m there.0 below few there.1))

-- each schedule of a board is ahead of the clock
abbrev AreAhead : Board → Type 0
AreAhead b = (place : ℕ) (car : Car) → slice_get b.fleet.cars place ≡ Some car → IsAhead car.plan b.fleet.clock

-- after every legal history what was promised for a moment before the clock has happened
pub done : RemovalsKeepPromises → PromisesAreDoneInTime
done removals g rates vehicles history last graph fleet legal = record {
  planned = λ place car e. arrives_ahead last.fleet.rates car.plan last.fleet.clock (ahead history last legal place car e);
  picked_up = λ a r promise after w stays. (let x = kept.riders a r promise after w stays in due_pickup last.fleet.rates x.0.plan last.fleet.clock _ r promise (ahead history last legal a.offer.place x.0 x.1) x.3);
  served = λ before board now stops after e b k s h. between board now stops (ahead before board b) (moves before board now stops after e b) k s h;
  dropped_off = λ a r promise after w stays. (let x = kept.riders a r promise after w stays in due_dropoff last.fleet.rates x.0.plan last.fleet.clock _ r promise (ahead history last legal a.offer.place x.0 x.1) x.3);
}
  where
    opening : IsSoundBoard g (opening_board g.nodes rates vehicles)
    opening = opening_sound g rates vehicles fleet

    ahead : (entries : List Entry) (b : Board) → Legal g (opening_board g.nodes rates vehicles) entries b → AreAhead b
    ahead entries b l place car e = ((legal_sound removals g graph (opening_board g.nodes rates vehicles) entries b l opening).cars place car e).plan.ahead

    kept : ArePromisesKept g (opening_board g.nodes rates vehicles) history last
    kept = law removals g rates vehicles history last graph fleet legal history [] last (sym (append-nil history)) legal

    moves : (before : List Entry) (board : Board) (now : ℕ) (stops : List (VehicleNo × Served)) (after : List Entry) → history ≡ before ++ Advance now (Moved stops) ∷ after → Legal g (opening_board g.nodes rates vehicles) before board → stops ≡ served_in board.fleet now
    moves before board now stops after e b = let x = legal_split g (opening_board g.nodes rates vehicles) before (Advance now (Moved stops) ∷ after) last (subst (λ (h : List Entry). Legal g (opening_board g.nodes rates vehicles) h last) e legal) in
        x.2.1.1 ∙ ap (λ (b : Board). served_in b.fleet now) (legal_unique g (opening_board g.nodes rates vehicles) before x.0 board x.1 b)

    between : (board : Board) (now : ℕ) (stops : List (VehicleNo × Served)) → AreAhead board → stops ≡ served_in board.fleet now → (k : ℕ) (s : VehicleNo × Served) → slice_get stops k ≡ Some s → (board.fleet.clock ≤ s.1.arr) × (s.1.arr ≤ now)
    between board now stops a e k s h = let x = stems (λ (car : Car). served_with car.no (served_by board.fleet.rates car.plan now)) board.fleet.cars k s (ap (λ (l : List (VehicleNo × Served)). slice_get l k) (sym e) ∙ h) in
        let y = mapped (λ (s : Served). let t : VehicleNo × Served = (x.0.no, s) in t) (served_by board.fleet.rates x.0.plan now) x.2 s x.4 in
        let z = served_between board.fleet.rates x.0.plan board.fleet.clock now x.2 y.0 (a x.1 x.0 x.3) y.1 in
        subst (λ (s : VehicleNo × Served). (board.fleet.clock ≤ s.1.arr) × (s.1.arr ≤ now)) (sym y.2) z
