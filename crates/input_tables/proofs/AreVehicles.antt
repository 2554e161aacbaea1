use Rattle.std.proofs.Common.{◌≡◌, ℕ, zero, suc, ◌+◌, ◌^◌, ◌<◌, ◌≤◌, ◌==◌, Bool, true, false, cond, List, [], ◌∷◌, ◌++◌, map, length, Some, slice_get, Result, Ok, Err, refl, sym, ap, ◌∙◌, subst, arith, length-append}
use Rattle.std.specs.Prelude.{◌&&◌, nat_le, nat_lt}
use Rattle.std.specs.BTreeMap.{BTreeMap, values}
use Rattle.std.specs.Map.{values_of}
use Rattle.std.specs.Result.{result_ok}
use Rattle.std.proofs.lemmas.Bool.Decides.{nat_tests}
use Rattle.std.proofs.lemmas.Option.{same_Some}
use Rattle.ride_base.specs.declared.numbers.VehicleNo.{VehicleNo}
use Rattle.stop_schedule.specs.Bounds.{IsVehicle, AreVehicles}
use Rattle.stop_schedule.specs.Limits.{most_vehicles}
use Rattle.stop_schedule.specs.declared.vehicle.Vehicle.{Vehicle}
use Rattle.input_tables.specs.declared.faults.FleetFault.{FleetFault}
use Rattle.input_tables.specs.Fleets.{without_blanks, vehicle_in, vehicles_in, fleet_in, ordered, is_in_range, stood_before, put_in, by_number, onto_vehicles, row_fields}
use Rattle.input_tables.specs.Rows.{IsHeaded, entry_of, kept_of}
use Rattle.input_tables.specs.Streams.{largest_32, largest_moment}
use Rattle.input_tables.proofs.Capped.{first_of, rest_of}
use Rattle.input_tables.proofs.RowsSoFar.{given, IsGivenByRow}
use Rattle.input_tables.proofs.Keeps.{any_sorted, sorted_more, first_false, rest_false}

-- What a table gives are vehicles in their ranges, with numbers that rise.

at_most : (a b : ℕ) → nat_le a b ≡ true → a ≤ b
at_most a b h = grind (arith, nat_tests)

-- a vehicle that passes the test has its fields in their ranges
in_ranges : (nodes : ℕ) (v : Vehicle) → is_in_range nodes v ≡ true → IsVehicle nodes v
in_ranges nodes v h =
    let h1 = rest_of (nat_le 1 v.no.0) _ h in
    let h2 = rest_of (nat_le v.no.0 largest_32) _ h1 in
    let start = first_of (nat_le 1 v.start.0 && nat_le v.start.0 nodes) _ h2 in
    let h3 = rest_of (nat_le 1 v.start.0 && nat_le v.start.0 nodes) _ h2 in
    let h4 = rest_of (nat_le 1 v.seats) _ h3 in
    let h5 = rest_of (nat_le v.seats 16) _ h4 in
    let h6 = rest_of (nat_le v.from largest_moment) _ h5 in
    let h7 = rest_of (nat_le v.until largest_moment) _ h6 in
    record {
      number = at_most 1 v.no.0 (first_of (nat_le 1 v.no.0) _ h);
      start_from_1 = at_most 1 v.start.0 (first_of (nat_le 1 v.start.0) _ start);
      start_to_last = at_most v.start.0 nodes (rest_of (nat_le 1 v.start.0) _ start);
      some_seat = at_most 1 v.seats (first_of (nat_le 1 v.seats) _ h3);
      few_seats = at_most v.seats 16 (first_of (nat_le v.seats 16) _ h4);
      few_spaces = at_most v.spaces 16 (rest_of (nat_le v.from v.until) _ h7);
      ordered = at_most v.from v.until (first_of (nat_le v.from v.until) _ h7);
      until = at_most v.until (2 ^ 40) (first_of (nat_le v.until largest_moment) _ h6);
    }

abbrev Ranged : ℕ → List Vehicle → Type 0
Ranged nodes [] = Unit {0}
Ranged nodes (v ∷ vs) = IsVehicle nodes v × Ranged nodes vs

-- numbers rise from above n on
abbrev RisesFrom : ℕ → List Vehicle → Type 0
RisesFrom n [] = Unit {0}
RisesFrom n (v ∷ vs) = (n < v.no.0) × RisesFrom v.no.0 vs

ranged_put : (nodes : ℕ) (v : Vehicle) (vs : List Vehicle) → IsVehicle nodes v → Ranged nodes vs → Ranged nodes (put_in v vs)
ranged_put nodes v [] i r = (i, tt)
ranged_put nodes v (w ∷ vs) i r = by (nat_lt v.no.0 w.no.0) (ranged_put nodes v vs i r.1)
  where
    by : (t : Bool) → Ranged nodes (put_in v vs) → Ranged nodes (cond t (v ∷ w ∷ vs) (w ∷ put_in v vs))
    by true more = (i, r)
    by false more = (r.0, more)

ranged_sorted : (nodes : ℕ) (vs : List Vehicle) → Ranged nodes vs → Ranged nodes (by_number vs)
ranged_sorted nodes [] r = tt
ranged_sorted nodes (v ∷ vs) r = ranged_put nodes v (by_number vs) r.0 (ranged_sorted nodes vs r.1)

ranged_more : (nodes : ℕ) (vs : List Vehicle) (v : Vehicle) → Ranged nodes vs → IsVehicle nodes v → Ranged nodes (vs ++ v ∷ [])
ranged_more nodes [] v r i = (i, tt)
ranged_more nodes (w ∷ vs) v r i = (r.0, ranged_more nodes vs v r.1 i)

rises_put : (n : ℕ) (v : Vehicle) (vs : List Vehicle) → n < v.no.0 → RisesFrom n vs → stood_before vs v ≡ false → RisesFrom n (put_in v vs)
rises_put n v [] lt r new = (lt, tt)
rises_put n v (w ∷ vs) lt r new = by (nat_lt v.no.0 w.no.0) refl (λ above. rises_put w.no.0 v vs above r.1 (rest_false (w.no.0 == v.no.0) (stood_before vs v) new))
  where
    by : (t : Bool) → nat_lt v.no.0 w.no.0 ≡ t → (w.no.0 < v.no.0 → RisesFrom w.no.0 (put_in v vs)) → RisesFrom n (cond t (v ∷ w ∷ vs) (w ∷ put_in v vs))
    by true e more = let below : v.no.0 < w.no.0 = grind (arith, nat_tests) in (lt, (below, r.1))
    by false e more =
        let apart : (w.no.0 == v.no.0) ≡ false = first_false (w.no.0 == v.no.0) (stood_before vs v) new in
        let above : w.no.0 < v.no.0 = grind (arith, nat_tests) in
        (r.0, more above)

length_put : (v : Vehicle) (vs : List Vehicle) → length (put_in v vs) ≡ suc (length vs)
length_put v [] = refl
length_put v (w ∷ vs) = by (nat_lt v.no.0 w.no.0) (length_put v vs)
  where
    by : (t : Bool) → length (put_in v vs) ≡ suc (length vs) → length (cond t (v ∷ w ∷ vs) (w ∷ put_in v vs)) ≡ suc (suc (length vs))
    by true h = refl
    by false h = ap suc h

length_sorted : (vs : List Vehicle) → length (by_number vs) ≡ length vs
length_sorted [] = refl
length_sorted (v ∷ vs) = length_put v (by_number vs) ∙ ap suc (length_sorted vs)

-- the vehicles of so many rows are as the board wants them
record IsFleetTable (nodes row : ℕ) (vehicles : List Vehicle) : Type 0 where
  ranged : Ranged nodes vehicles
  rises : RisesFrom 0 (by_number vehicles)
  count : length vehicles + 1 ≡ row
  early : row ≤ most_vehicles + 1

table_more : (nodes row : ℕ) (before : List Vehicle) (v : Vehicle) → IsFleetTable nodes row before → IsGivenByRow nodes row before v → IsFleetTable nodes (row + 1) (before ++ v ∷ [])
table_more nodes row before v t g =
    let i = in_ranges nodes v g.ranged in
    let positive : 0 < v.no.0 = i.number in
    let count = t.count in
    let early : row ≤ most_vehicles = g.early in
    record {
      ranged = ranged_more nodes before v t.ranged i;
      rises = rw (sorted_more v before g.new) (rises_put 0 v (by_number before) positive t.rises (any_sorted (λ (w : Vehicle). w.no.0 == v.no.0) before ∙ g.new));
      count = omega (arith, length-append before (v ∷ []));
      early = omega arith;
    }

-- a table that is read to its end
table_all : (spaces : Bool) (nodes row : ℕ) (before : List Vehicle) (rows : List (List (List ℕ))) (all : List Vehicle) → IsFleetTable nodes row before → vehicles_in spaces nodes row before rows ≡ Ok all → (last : ℕ) × IsFleetTable nodes last all
table_all spaces nodes row before [] all t e = (row, subst (IsFleetTable nodes row) (same_Some _ _ (ap result_ok e)) t)
table_all spaces nodes row before (fields ∷ rows) all t e =
    by (vehicle_in nodes row before (row_fields spaces (map without_blanks fields))) refl e (λ v u h. table_all spaces nodes (row + 1) (before ++ v ∷ []) rows all u h)
  where
    by : (r : Result Vehicle FleetFault) → vehicle_in nodes row before (row_fields spaces (map without_blanks fields)) ≡ r → onto_vehicles r (λ v. vehicles_in spaces nodes (row + 1) (before ++ v ∷ []) rows) ≡ Ok all
        → ((v : Vehicle) → IsFleetTable nodes (row + 1) (before ++ v ∷ []) → vehicles_in spaces nodes (row + 1) (before ++ v ∷ []) rows ≡ Ok all → (last : ℕ) × IsFleetTable nodes last all)
        → (last : ℕ) × IsFleetTable nodes last all
    by (Ok v) i h more = more v (table_more nodes row before v t (given nodes row before (row_fields spaces (map without_blanks fields)) v i)) h
    by (Err why) i h more = absurd (cc)

each_ranged : (nodes : ℕ) (vs : List Vehicle) → Ranged nodes vs → (k : ℕ) (v : Vehicle) → slice_get vs k ≡ Some v → IsVehicle nodes v
each_ranged nodes [] r k v e = absurd (cc)
each_ranged nodes (w ∷ vs) r zero v e = subst (IsVehicle nodes) (same_Some _ _ e) r.0
each_ranged nodes (w ∷ vs) r (suc k) v e = each_ranged nodes vs r.1 k v e

neighbours_rise : (n : ℕ) (vs : List Vehicle) → RisesFrom n vs → (k : ℕ) (v w : Vehicle) → slice_get vs k ≡ Some v → slice_get vs (suc k) ≡ Some w → v.no.0 < w.no.0
neighbours_rise n [] r k v w e f = absurd (cc)
neighbours_rise n (x ∷ []) r zero v w e f = absurd (cc)
neighbours_rise n (x ∷ []) r (suc k) v w e f = absurd (cc)
neighbours_rise n (x ∷ y ∷ vs) r zero v w e f =
    let lt : x.no.0 < y.no.0 = r.1.0 in
    let first : x.no.0 ≡ v.no.0 = ap (λ (u : Vehicle). u.no.0) (same_Some _ _ e) in
    let second : y.no.0 ≡ w.no.0 = ap (λ (u : Vehicle). u.no.0) (same_Some _ _ f) in
    omega arith
neighbours_rise n (x ∷ y ∷ vs) r (suc k) v w e f = neighbours_rise x.no.0 (y ∷ vs) r.1 k v w e f

-- the vehicles of a table, in the order of their numbers
are_sorted : (nodes row : ℕ) (vehicles : List Vehicle) → IsFleetTable nodes row vehicles → AreVehicles nodes (by_number vehicles)
are_sorted nodes row vehicles t =
    let count = t.count in
    let early : row ≤ most_vehicles + 1 = t.early in
    let size = length_sorted vehicles in
    record {
      few = omega arith;
      each = each_ranged nodes (by_number vehicles) (ranged_sorted nodes vehicles t.ranged);
      rising = neighbours_rise 0 (by_number vehicles) t.rises;
    }

empty_table : (nodes : ℕ) → IsFleetTable nodes 1 []
empty_table nodes = record { ranged = tt; rises = tt; count = refl; early = omega arith }

-- the vehicles that a table's rows give
pub are_vehicles : (spaces : Bool) (nodes : ℕ) (rows : List (List (List ℕ))) (all : List Vehicle) → vehicles_in spaces nodes 1 [] rows ≡ Ok all → AreVehicles nodes (by_number all)
are_vehicles spaces nodes rows all e = let (last, t) = table_all spaces nodes 1 [] rows all (empty_table nodes) e in are_sorted nodes last all t

values_sorted : (vs : List Vehicle) → values_of (map entry_of vs) ≡ vs
values_sorted [] = refl
values_sorted (v ∷ vs) = ap (λ (us : List Vehicle). v ∷ us) (values_sorted vs)

-- the vehicles of a map that keeps those of all rows
abbrev AllRows : Result (List Vehicle) FleetFault → List Vehicle → Type 0
AllRows r vehicles = (all : List Vehicle) × (r ≡ Ok all) × (vehicles ≡ by_number all)

all_rows : (r : Result (List Vehicle) FleetFault) (kept : BTreeMap VehicleNo Vehicle) (vehicles : List Vehicle) → kept_of r ≡ Ok kept.entries → vehicles ≡ values kept → AllRows r vehicles
all_rows (Ok all) kept vehicles h e = (all, refl, e ∙ ap values_of (sym (same_Some _ _ (ap result_ok h))) ∙ values_sorted (by_number all))
all_rows (Err why) kept vehicles h e = absurd (cc)

-- a table that is read whole
pub whole_table : (spaces : Bool) (nodes : ℕ) (records rows : List (List (List ℕ))) (kept : BTreeMap VehicleNo Vehicle) (vehicles : List Vehicle) → IsHeaded records spaces rows → kept_of (vehicles_in spaces nodes 1 [] rows) ≡ Ok kept.entries
    → vehicles ≡ values kept → fleet_in nodes records ≡ Ok vehicles
whole_table spaces nodes records rows kept vehicles headed h e =
    let (all, read, sorted) = all_rows (vehicles_in spaces nodes 1 [] rows) kept vehicles h e in
    headed nodes ∙ ap ordered read ∙ ap Ok (sym sorted)

pub whole_vehicles : (spaces : Bool) (nodes : ℕ) (rows : List (List (List ℕ))) (kept : BTreeMap VehicleNo Vehicle) (vehicles : List Vehicle) → kept_of (vehicles_in spaces nodes 1 [] rows) ≡ Ok kept.entries → vehicles ≡ values kept
    → AreVehicles nodes vehicles
whole_vehicles spaces nodes rows kept vehicles h e =
    let (all, read, sorted) = all_rows (vehicles_in spaces nodes 1 [] rows) kept vehicles h e in
    subst (AreVehicles nodes) (sym sorted) (are_vehicles spaces nodes rows all read)
