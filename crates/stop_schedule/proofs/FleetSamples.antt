-- Examples that a fleet good over a graph is what it is meant to be, and no other is.
use Rattle.std.proofs.Common.{◌≡◌, ℕ, zero, suc, ◌<◌, ◌≤◌, [], ◌∷◌, length, Some, refl, ap, arith, subst}
use Rattle.std.specs.Prelude.{slice_get}
use Rattle.std.proofs.lemmas.Option.{none-some, same_Some}
use Rattle.std.proofs.lemmas.Bool.{false≢true}
use Rattle.road_graph.specs.Roads.{Roads, IsNode, node}
use Rattle.stop_schedule.specs.declared.stop.Stop.{Stop}
use Rattle.stop_schedule.specs.Fleets.{Car, Cars, IsGoodCar, IsGoodFleet, IsGoodView, IsWithin}
use Rattle.stop_schedule.specs.Fronts.{IsAhead}
use Rattle.stop_schedule.specs.Keeping.{IsProper}
use Rattle.stop_schedule.specs.Plans.{Plan}
use Rattle.stop_schedule.specs.Rates.{usual}
use Rattle.stop_schedule.specs.Samples.{opened, first}

abbrev car : ℕ → ℕ → Plan → Car
car number stamp p = record { no = record { 0 = number }; plan = p; stamp = stamp }

-- two vehicles that wait at node 1, the second of which changed at version 3
abbrev waiting : Cars
waiting = record { rates = usual; clock = 5; version = 3; cars = car 2 0 opened ∷ car 7 3 opened ∷ [] }

opened_proper : IsProper opened
opened_proper = record {
  picked_up_once = λ number. omega arith;
  dropped_off_once = λ number. omega arith;
  dropped_off_later = λ k s h. absurd (none-some s h);
  as_many_legs = refl;
  joined = λ k leg h. absurd (none-some leg h);
}

waits : (g : Roads) (number stamp : ℕ) → IsNode g (node 1) → stamp ≤ 3 → IsGoodCar g usual 5 3 (car number stamp opened)
waits g number stamp there le = record { stamp = le; placed = there; proper = opened_proper; kept = refl; least_walks = λ k leg h. absurd (none-some leg h); ahead = λ some. absurd (omega arith) }

two_wait : (g : Roads) → IsNode g (node 1) → IsGoodFleet g waiting
two_wait g there = record { clock = omega arith; rising = rising; each = each } where
  rising : (k : ℕ) (a b : Car) → slice_get waiting.cars k ≡ Some a → slice_get waiting.cars (suc k) ≡ Some b → a.no.0 < b.no.0
  rising zero a b h i = let x = ap (λ (c : Car). c.no.0) (same_Some (car 2 0 opened) a h) in let y = ap (λ (c : Car). c.no.0) (same_Some (car 7 3 opened) b i) in omega arith
  rising (suc zero) a b h i = absurd (none-some b i)
  rising (suc (suc k)) a b h i = absurd (none-some b i)

  each : (k : ℕ) (c : Car) → slice_get waiting.cars k ≡ Some c → IsGoodCar g usual 5 3 c
  each zero c h = subst (IsGoodCar g usual 5 3) (same_Some (car 2 0 opened) c h) (waits g 2 0 there (omega arith))
  each (suc zero) c h = subst (IsGoodCar g usual 5 3) (same_Some (car 7 3 opened) c h) (waits g 7 3 there (omega arith))
  each (suc (suc k)) c h = absurd (none-some c h)

-- with an index that fits every list the view is good
viewed : (g : Roads) → IsNode g (node 1) → IsGoodView (λ h rates plans. Unit {0}) g waiting
viewed g there = (two_wait g there, tt)

-- not with one that fits no list of two
misfit : (g : Roads) → IsGoodView (λ h rates plans. length plans ≡ 3) g waiting → ⊥
misfit g h = let two = h.1 in absurd (omega arith)

-- the numbers rise, and none stands twice
turned_round : (g : Roads) → IsGoodFleet g (record waiting { cars = car 7 3 opened ∷ car 2 0 opened ∷ [] }) → ⊥
turned_round g h = let l = h.rising 0 (car 7 3 opened) (car 2 0 opened) refl refl in absurd (omega arith)

twice : (g : Roads) → IsGoodFleet g (record waiting { cars = car 7 3 opened ∷ car 7 0 opened ∷ [] }) → ⊥
twice g h = let l = h.rising 0 (car 7 3 opened) (car 7 0 opened) refl refl in absurd (omega arith)

-- no stamp is past the version, and no clock past the latest moment
stamped_late : (g : Roads) → IsGoodFleet g (record waiting { version = 2 }) → ⊥
stamped_late g h = let l = (h.each 1 (car 7 3 opened) refl).stamp in absurd (omega arith)

after_all : (g : Roads) → IsGoodFleet g (record waiting { clock = 1099511627777 }) → ⊥
after_all g h = let l = h.clock in absurd (omega arith)

-- each waits at a node
nowhere : (g : Roads) → IsGoodFleet g (record waiting { cars = car 2 0 (record opened { place = node 0 }) ∷ [] }) → ⊥
nowhere g h = let l = (h.each 0 (car 2 0 (record opened { place = node 0 })) refl).placed in absurd (omega arith)

-- a schedule that doesn't keep its service
ended : (g : Roads) → IsGoodFleet g (record waiting { cars = car 2 0 (record first { until = 20 }) ∷ [] }) → ⊥
ended g h = false≢true (h.each 0 (car 2 0 (record first { until = 20 })) refl).kept

-- the first schedule's stop is reached at 10: ahead of the clock until then
still_ahead : IsAhead first 10
still_ahead some = omega arith

reached_already : IsAhead first 11 → ⊥
reached_already h = let l = h (omega arith) in absurd (omega arith)

-- its stops are at nodes 2 and 4
within_four : IsWithin (record { nodes = 4; roads = [] }) first
within_four = record { place = (omega arith, omega arith); stops = stops } where
  stops : (k : ℕ) (s : Stop) → slice_get first.stops k ≡ Some s → IsNode (record { nodes = 4; roads = [] }) s.node
  stops zero s h = let e : 2 ≡ s.node.0 = ap (λ (q : Stop). q.node.0) (same_Some _ s h) in (omega arith, omega arith)
  stops (suc zero) s h = let e : 4 ≡ s.node.0 = ap (λ (q : Stop). q.node.0) (same_Some _ s h) in (omega arith, omega arith)
  stops (suc (suc k)) s h = absurd (none-some s h)

not_within_three : IsWithin (record { nodes = 3; roads = [] }) first → ⊥
not_within_three h = let l = (h.stops 1 _ refl).1 in absurd (omega arith)
