use Rattle.std.proofs.Common.{◌≡◌, ℕ, ◌+◌, ◌≤◌, Bool, true, false, cond, List, [], ◌∷◌, ◌++◌, map, Result, Ok, Err, refl, sym, ap, ◌∙◌, arith}
use Rattle.std.specs.BTreeMap.{BTreeMap}
use Rattle.std.specs.Prelude.{◌&&◌, nat_le}
use Rattle.std.specs.Result.{result_ok}
use Rattle.std.proofs.lemmas.Bool.Decides.{nat_tests}
use Rattle.std.proofs.lemmas.Option.{same_Some}
use Rattle.ride_base.specs.Fields.{is_number, value_of}
use Rattle.ride_base.specs.declared.numbers.VehicleNo.{VehicleNo}
use Rattle.stop_schedule.specs.declared.vehicle.Vehicle.{Vehicle}
use Rattle.stop_schedule.specs.Limits.{most_vehicles}
use Rattle.input_tables.specs.declared.faults.FleetFault.{FleetFault}
use Rattle.input_tables.specs.declared.faults.FleetFault.TheVariants.{Form, Range, Double}
use Rattle.input_tables.specs.Fleets.{without_blanks, vehicle_in, vehicles_in, onto_vehicles, checked, vehicle_of, is_in_range, stood_before, row_fields}
use Rattle.input_tables.specs.Rows.{Keeps, kept_of}
use Rattle.input_tables.proofs.Capped.{first_of, rest_of}

-- The rows that are read so far, and those that are left.

-- the vehicles of the rows so far are kept, and with the rows that are left they say what the whole table does
pub record RowsSoFar (spaces : Bool) (nodes row : ℕ) (kept : BTreeMap VehicleNo Vehicle) (left whole : List (List (List ℕ))) : Type 0 where
  pub before : List Vehicle
  pub keeps : Keeps kept before
  pub rest : vehicles_in spaces nodes row before left ≡ vehicles_in spaces nodes 1 [] whole
  pub early : row ≤ most_vehicles + 1

-- what is known of a vehicle that a row gives
pub record IsGivenByRow (nodes row : ℕ) (before : List Vehicle) (v : Vehicle) : Type 0 where
  pub ranged : is_in_range nodes v ≡ true
  pub early : row ≤ most_vehicles
  pub new : stood_before before v ≡ false

given_checked : (nodes row : ℕ) (before : List Vehicle) (v w : Vehicle) → checked nodes row before w ≡ Ok v → IsGivenByRow nodes row before v
given_checked nodes row before v w h = by (is_in_range nodes w && nat_le row most_vehicles) (stood_before before w) refl refl h
  where
    by : (s t : Bool) → (is_in_range nodes w && nat_le row most_vehicles) ≡ s → stood_before before w ≡ t → cond s (cond t (Err (Double row)) (Ok w)) (Err (Range row)) ≡ Ok v → IsGivenByRow nodes row before v
    by true true e f g = absurd (cc)
    by true false e f g =
        let same : w ≡ v = same_Some _ _ (ap result_ok g) in
        let i = rest_of (is_in_range nodes w) _ e in
        record {
          ranged = ap (is_in_range nodes) (sym same) ∙ first_of (is_in_range nodes w) _ e;
          early = grind (arith, nat_tests);
          new = ap (stood_before before) (sym same) ∙ f;
        }
    by false t e f g = absurd (cc)

given_by : (nodes row : ℕ) (before : List Vehicle) (v w : Vehicle) (t : Bool) → cond t (checked nodes row before w) (Err (Form row)) ≡ Ok v → IsGivenByRow nodes row before v
given_by nodes row before v w true h = given_checked nodes row before v w h
given_by nodes row before v w false h = absurd (cc)

pub given : (nodes row : ℕ) (before : List Vehicle) (fields : List (List ℕ)) (v : Vehicle) → vehicle_in nodes row before fields ≡ Ok v → IsGivenByRow nodes row before v
given nodes row before [] v h = absurd (cc)
given nodes row before (a ∷ []) v h = absurd (cc)
given nodes row before (a ∷ b ∷ []) v h = absurd (cc)
given nodes row before (a ∷ b ∷ c ∷ []) v h = absurd (cc)
given nodes row before (a ∷ b ∷ c ∷ d ∷ []) v h = absurd (cc)
given nodes row before (a ∷ b ∷ c ∷ d ∷ e ∷ []) v h = absurd (cc)
given nodes row before (a ∷ b ∷ c ∷ d ∷ e ∷ f ∷ []) v h =
    given_by nodes row before v (vehicle_of (value_of a) (value_of b) (value_of c) (value_of d) (value_of e) (value_of f))
    (is_number a && (is_number b && (is_number c && (is_number d && (is_number e && is_number f))))) h
given nodes row before (a ∷ b ∷ c ∷ d ∷ e ∷ f ∷ g ∷ more) v h = absurd (cc)

-- a row more
pub row_more : (spaces : Bool) (nodes row : ℕ) (kept kept' : BTreeMap VehicleNo Vehicle) (left left' whole : List (List (List ℕ))) (fields : List (List ℕ)) (v : Vehicle) (so_far : RowsSoFar spaces nodes row kept left whole)
    → left ≡ fields ∷ left' → Ok v ≡ vehicle_in nodes row so_far.before (row_fields spaces (map without_blanks fields)) → Keeps kept' (so_far.before ++ v ∷ []) → RowsSoFar spaces nodes (row + 1) kept' left' whole
row_more spaces nodes row kept kept' left left' whole fields v so_far e ok keeps =
    let early : row ≤ most_vehicles = (given nodes row so_far.before (row_fields spaces (map without_blanks fields)) v (sym ok)).early in
    record {
      before = so_far.before ++ v ∷ [];
      keeps = keeps;
      rest = ap (λ (r : Result Vehicle FleetFault). onto_vehicles r (λ w. vehicles_in spaces nodes (row + 1) (so_far.before ++ w ∷ []) left')) ok ∙ ap (vehicles_in spaces nodes row so_far.before) (sym e) ∙ so_far.rest;
      early = omega arith;
    }

-- a row that is none
pub row_refused : (spaces : Bool) (nodes row : ℕ) (kept : BTreeMap VehicleNo Vehicle) (left left' whole : List (List (List ℕ))) (fields : List (List ℕ)) (why : FleetFault) (so_far : RowsSoFar spaces nodes row kept left whole)
    → left ≡ fields ∷ left' → Err why ≡ vehicle_in nodes row so_far.before (row_fields spaces (map without_blanks fields)) → vehicles_in spaces nodes 1 [] whole ≡ Err why
row_refused spaces nodes row kept left left' whole fields why so_far e refused =
    sym so_far.rest ∙ ap (vehicles_in spaces nodes row so_far.before) e ∙ ap (λ (r : Result Vehicle FleetFault). onto_vehicles r (λ w. vehicles_in spaces nodes (row + 1) (so_far.before ++ w ∷ []) left')) (sym refused)

-- no row is left
pub rows_end : (spaces : Bool) (nodes row : ℕ) (kept : BTreeMap VehicleNo Vehicle) (left whole : List (List (List ℕ))) → RowsSoFar spaces nodes row kept left whole → left ≡ [] → kept_of (vehicles_in spaces nodes 1 [] whole) ≡ Ok kept.entries
rows_end spaces nodes row kept left whole so_far e = ap kept_of (sym so_far.rest ∙ ap (vehicles_in spaces nodes row so_far.before) e) ∙ ap Ok (sym so_far.keeps)
