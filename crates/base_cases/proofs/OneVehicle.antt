use Rattle.std.proofs.Common.{◌≡◌, ℕ, zero, suc, ◌<◌, ◌≤◌, ◌==◌, Bool, true, false, cond, Some, refl, ap, subst, arith}
use Rattle.std.specs.Prelude.{slice_get}
use Rattle.std.proofs.lemmas.Option.{none-some, same_Some}
use Rattle.road_graph.specs.Paths.{Path, length_of}
use Rattle.road_graph.specs.Roads.{Roads, node}
use Rattle.road_graph.specs.Walks.{IsLeastWalk}
use Rattle.stop_schedule.specs.declared.stop.Stop.{Stop}
use Rattle.stop_schedule.specs.declared.stop.StopKind.TheVariants.{Pickup, Dropoff}
use Rattle.stop_schedule.specs.Fleets.{Car, IsGoodCar, IsGoodFleet}
use Rattle.stop_schedule.specs.Keeping.{IsProper, HasLeastWalks, keeps, drops_off}
use Rattle.stop_schedule.specs.Lists.{dropoff_of}
use Rattle.stop_schedule.specs.Rates.{usual}
use Rattle.stop_schedule.specs.Samples.{ride}
use Rattle.base_cases.specs.OneVehicle.{one_vehicle, first_over}

module _ (g : Roads) (four : g.nodes ≡ 4) (into onward : Path) (a : IsLeastWalk g (node 1) (node 2) into) (b : IsLeastWalk g (node 2) (node 4) onward) (ten : length_of into ≡ 10) (twenty : length_of onward ≡ 20) where
  least : HasLeastWalks g (first_over into onward)
  least zero leg h = subst (IsLeastWalk g (node 1) (node 2)) (same_Some into leg h) a
  least (suc zero) leg h = subst (IsLeastWalk g (node 2) (node 4)) (same_Some onward leg h) b
  least (suc (suc k)) leg h = absurd (none-some leg h)

  proper : IsProper (first_over into onward)
  proper = record {
    picked_up_once = λ number. (let few : cond (1 == number.0) 1 0 ≤ 1 = small (1 == number.0) in omega (arith, few));
    dropped_off_once = λ number. (let few : cond (drops_off number (dropoff_of (ride 1 2 4 0 1) (record { pickup = 20; arrival = 50 }))) 1 0 ≤ 1 = small (1 == number.0) in omega (arith, few));
    dropped_off_later = later;
    as_many_legs = refl;
    joined = λ k leg h. (least k leg h).joins;
  }
    where
      small : (b : Bool) → cond b 1 0 ≤ 1
      small true = omega arith
      small false = omega arith

      later : (k : ℕ) (s : Stop) → slice_get (first_over into onward).stops k ≡ Some s → s.kind ≡ Pickup
          → (l : ℕ) × (d : Stop) × (k < l) × (slice_get (first_over into onward).stops l ≡ Some d) × (d.kind ≡ Dropoff) × (d.no ≡ s.no) × (d.riders ≡ s.riders) × (d.spaces ≡ s.spaces)
      later zero s h kind = (1, _, omega arith, refl, refl, ap (λ (t : Stop). t.no) (same_Some _ s h), ap (λ (t : Stop). t.riders) (same_Some _ s h), ap (λ (t : Stop). t.spaces) (same_Some _ s h))
      later (suc zero) s h kind = cc
      later (suc (suc k)) s h kind = absurd (none-some s h)

  kept : keeps usual (first_over into onward) ≡ true
  kept = rw (ten, twenty) refl

  pub first_good : IsGoodFleet g (one_vehicle (first_over into onward))
  first_good = record { clock = omega arith; rising = rising; each = each } where
    rising : (k : ℕ) (c d : Car) → slice_get (one_vehicle (first_over into onward)).cars k ≡ Some c → slice_get (one_vehicle (first_over into onward)).cars (suc k) ≡ Some d → c.no.0 < d.no.0
    rising zero c d h i = absurd (none-some d i)
    rising (suc k) c d h i = absurd (none-some d i)

    good : IsGoodCar g usual 0 2 (record { no = record { 0 = 1 }; plan = first_over into onward; stamp = 2 })
    good = record { stamp = omega arith; placed = (omega arith, omega arith); proper = proper; kept = kept; least_walks = least; ahead = λ some. omega arith }

    each : (k : ℕ) (c : Car) → slice_get (one_vehicle (first_over into onward)).cars k ≡ Some c → IsGoodCar g usual 0 2 c
    each zero c h = subst (IsGoodCar g usual 0 2) (same_Some _ c h) good
    each (suc k) c h = absurd (none-some c h)
