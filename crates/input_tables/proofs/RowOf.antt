use Rattle.std.proofs.Common.{◌≡◌, ℕ, suc, ◌==◌, ◌^◌, ◌≤◌, ◌<◌, Ok, Result, Err, Bool, true, false, cond, List, [], ◌∷◌, length, map, Option, Some, None, refl, sym, ap, ◌∙◌, arith}
use Rattle.std.specs.Prelude.{◌&&◌, nat_le, codes}
use Rattle.std.specs.Str.{bytes_eq}
use Rattle.std.proofs.lemmas.Bool.Decides.{nat_tests}
use Rattle.std.proofs.lemmas.Option.{same_Some}
use Rattle.csv.specs.Records.{field_at}
use Rattle.ride_base.specs.Fields.{capped, is_number, value_of}
use Rattle.stop_schedule.specs.declared.vehicle.Vehicle.{Vehicle}
use Rattle.stop_schedule.specs.Limits.{most_vehicles}
use Rattle.input_tables.specs.declared.faults.FleetFault.{FleetFault}
use Rattle.input_tables.specs.declared.faults.FleetFault.TheVariants.{Header, Form, Range, Double}
use Rattle.input_tables.specs.declared.cells.RowNumbers.{RowNumbers}
use Rattle.input_tables.specs.Fleets.{header_of, without_blanks, vehicle_in, row_fields, checked, vehicle_of, is_in_range, stood_before, fleet_in, rows_behind}
use Rattle.input_tables.specs.Streams.{largest_32, largest_moment}
use Rattle.input_tables.specs.Rows.{IsHeaded, begins_header, headed_by, six_numbers, row_of, vehicle_by, ranged_by}
use Rattle.input_tables.proofs.Capped.{le_cut, within, first_of, rest_of}

-- seven and more are neither five nor six
not_five : (n : ℕ) → (suc (suc (suc (suc (suc (suc (suc n)))))) == 5) ≡ false
not_five n = grind (arith, nat_tests)

not_six : (n : ℕ) → (suc (suc (suc (suc (suc (suc (suc n)))))) == 6) ≡ false
not_six n = grind (arith, nat_tests)

-- nothing stands behind a header's last field
none_of : (begins : Bool) → ◌≡◌ {A = Option Bool} (cond begins None None) None
none_of true = refl
none_of false = refl

-- all five names and the sixth
six_named : (begins sixth : Bool) → ◌≡◌ {A = Option Bool} (cond begins (cond sixth (Some true) None) None) (cond (begins && sixth) (Some true) None)
six_named true sixth = refl
six_named false sixth = refl

-- names of a record that ends too soon
ends_soon : (a b c d : Bool) → (a && (b && (c && (d && false)))) ≡ false
ends_soon true true true true = refl
ends_soon true true true false = refl
ends_soon true true false d = refl
ends_soon true false c d = refl
ends_soon false b c d = refl

-- the code's test of a header is the header's
pub headed_is : (fields : List (List ℕ)) → headed_by fields ≡ header_of (map without_blanks fields)
unfolding field_at
headed_is [] = refl
headed_is (a ∷ []) = by (bytes_eq (without_blanks a) (codes "vehicle"))
  where
    by : (t : Bool) → ◌≡◌ {A = Option Bool} (cond (t && false) None None) None
    by true = refl
    by false = refl
headed_is (a ∷ b ∷ []) = rw (none_of (begins_header (a ∷ b ∷ []))) refl
headed_is (a ∷ b ∷ c ∷ []) = rw (none_of (begins_header (a ∷ b ∷ c ∷ []))) refl
headed_is (a ∷ b ∷ c ∷ d ∷ []) = rw (none_of (begins_header (a ∷ b ∷ c ∷ d ∷ []))) refl
headed_is (a ∷ b ∷ c ∷ d ∷ e ∷ []) = refl
headed_is (a ∷ b ∷ c ∷ d ∷ e ∷ f ∷ []) = six_named (begins_header (a ∷ b ∷ c ∷ d ∷ e ∷ [])) (bytes_eq (without_blanks f) (codes "spaces"))
headed_is (a ∷ b ∷ c ∷ d ∷ e ∷ f ∷ g ∷ more) = rw (not_five (length more), not_six (length more)) (none_of (begins_header (a ∷ b ∷ c ∷ d ∷ e ∷ [])))

-- none of these numbers is cut
abbrev Uncut : (a b c d e f : ℕ) → Type 0
Uncut a b c d e f = (capped a ≡ a) × (capped b ≡ b) × (capped c ≡ c) × (capped d ≡ d) × (capped e ≡ e) × (capped f ≡ f)

cut_within : (n most : ℕ) → most ≤ 2 ^ 63 → nat_le (capped n) most ≡ true → capped n ≡ n
cut_within n most h t = within n most h (sym (le_cut n most h) ∙ t)

-- numbers aren't cut where those that `f` makes of them are in their ranges
uncut : (f : ℕ → ℕ) → ((n most : ℕ) → most ≤ 2 ^ 63 → nat_le (f n) most ≡ true → capped n ≡ n) → (nodes a b c d e g : ℕ) → nodes ≤ 2 ^ 63 → is_in_range nodes (vehicle_of (f a) (f b) (f c) (f d) (f e) (f g)) ≡ true → Uncut a b c d e g
uncut f inside nodes a b c d e g few h =
    let h1 = rest_of (nat_le 1 (f a)) _ h in
    let h2 = rest_of (nat_le (f a) largest_32) _ h1 in
    let start = first_of (nat_le 1 (f b) && nat_le (f b) nodes) _ h2 in
    let h3 = rest_of (nat_le 1 (f b) && nat_le (f b) nodes) _ h2 in
    let h4 = rest_of (nat_le 1 (f c)) _ h3 in
    let h5 = rest_of (nat_le (f c) 16) _ h4 in
    let h6 = rest_of (nat_le (f d) largest_moment) _ h5 in
    let h7 = rest_of (nat_le (f e) largest_moment) _ h6 in (
      inside a largest_32 (omega arith) (first_of (nat_le (f a) largest_32) _ h1),
      inside b nodes few (rest_of (nat_le 1 (f b)) _ start),
      inside c 16 (omega arith) (first_of (nat_le (f c) 16) _ h4),
      inside d largest_moment (omega arith) (first_of (nat_le (f d) largest_moment) _ h5),
      inside e largest_moment (omega arith) (first_of (nat_le (f e) largest_moment) _ h6),
      inside g 16 (omega arith) (rest_of (nat_le (f d) (f e)) _ h7),
    )

same_vehicle : (a b c d e f : ℕ) → Uncut a b c d e f → vehicle_of a b c d e f ≡ vehicle_of (capped a) (capped b) (capped c) (capped d) (capped e) (capped f)
same_vehicle a b c d e f u =
    let (ua, ub, uc, ud, ue, uf) = u in
    rw (ua, ub, uc, ud, ue, uf) refl

out_of_range : (nodes row : ℕ) (before : List Vehicle) (v : Vehicle) → is_in_range nodes v ≡ false → checked nodes row before v ≡ Err (Range row)
out_of_range nodes row before v h = rw h refl

-- cut numbers are checked as the numbers are
checked_cut : (nodes row : ℕ) (before : List Vehicle) (a b c d e f : ℕ) → nodes ≤ 2 ^ 63 → checked nodes row before (vehicle_of a b c d e f) ≡ checked nodes row before (vehicle_of (capped a) (capped b) (capped c) (capped d) (capped e) (capped f))
checked_cut nodes row before a b c d e f few = by (is_in_range nodes (vehicle_of a b c d e f)) (is_in_range nodes (vehicle_of (capped a) (capped b) (capped c) (capped d) (capped e) (capped f))) refl refl
  where
    by : (s t : Bool) → is_in_range nodes (vehicle_of a b c d e f) ≡ s → is_in_range nodes (vehicle_of (capped a) (capped b) (capped c) (capped d) (capped e) (capped f)) ≡ t
        → checked nodes row before (vehicle_of a b c d e f) ≡ checked nodes row before (vehicle_of (capped a) (capped b) (capped c) (capped d) (capped e) (capped f))
    by true t h i = ap (checked nodes row before) (same_vehicle a b c d e f (uncut (λ n. n) within nodes a b c d e f few h))
    by false true h i = ap (checked nodes row before) (same_vehicle a b c d e f (uncut capped cut_within nodes a b c d e f few i))
    by false false h i = out_of_range nodes row before (vehicle_of a b c d e f) h ∙ sym (out_of_range nodes row before (vehicle_of (capped a) (capped b) (capped c) (capped d) (capped e) (capped f)) i)

-- what a row's numbers say, where it has as many as it should
abbrev pub row_said : (nodes row : ℕ) → List Vehicle → Option RowNumbers → Result Vehicle FleetFault
row_said nodes row before None = Err (Form row)
row_said nodes row before (Some numbers) = checked nodes row before (vehicle_by numbers)

-- six fields, each of which is a number or none
six : (nodes row : ℕ) (before : List Vehicle) (ta tb tc td te tf : Bool) (a b c d e f : ℕ) → nodes ≤ 2 ^ 63
    → cond (ta && (tb && (tc && (td && (te && tf))))) (checked nodes row before (vehicle_of a b c d e f)) (Err (Form row))
    ≡ row_said nodes row before (six_numbers (cond ta (Some (capped a)) None) (cond tb (Some (capped b)) None) (cond tc (Some (capped c)) None) (cond td (Some (capped d)) None) (cond te (Some (capped e)) None) (cond tf (Some (capped f)) None))
six nodes row before true true true true true true a b c d e f few = checked_cut nodes row before a b c d e f few
six nodes row before true true true true true false a b c d e f few = refl
six nodes row before true true true true false tf a b c d e f few = refl
six nodes row before true true true false te tf a b c d e f few = refl
six nodes row before true true false td te tf a b c d e f few = refl
six nodes row before true false tc td te tf a b c d e f few = refl
six nodes row before false tb tc td te tf a b c d e f few = refl

-- a row says what its numbers do
pub row_is : (spaces : Bool) (nodes row : ℕ) (before : List Vehicle) (fields : List (List ℕ)) → nodes ≤ 2 ^ 63
    → vehicle_in nodes row before (row_fields spaces (map without_blanks fields)) ≡ row_said nodes row before (row_of spaces fields)
unfolding field_at
row_is true nodes row before [] few = refl
row_is true nodes row before (a ∷ []) few = refl
row_is true nodes row before (a ∷ b ∷ []) few = refl
row_is true nodes row before (a ∷ b ∷ c ∷ []) few = refl
row_is true nodes row before (a ∷ b ∷ c ∷ d ∷ []) few = refl
row_is true nodes row before (a ∷ b ∷ c ∷ d ∷ e ∷ []) few = refl
row_is true nodes row before (a ∷ b ∷ c ∷ d ∷ e ∷ f ∷ []) few =
    six nodes row before (is_number (without_blanks a)) (is_number (without_blanks b)) (is_number (without_blanks c)) (is_number (without_blanks d)) (is_number (without_blanks e)) (is_number (without_blanks f))
    (value_of (without_blanks a)) (value_of (without_blanks b)) (value_of (without_blanks c)) (value_of (without_blanks d)) (value_of (without_blanks e)) (value_of (without_blanks f)) few
row_is true nodes row before (a ∷ b ∷ c ∷ d ∷ e ∷ f ∷ g ∷ more) few = rw (not_six (length more)) refl
row_is false nodes row before [] few = refl
row_is false nodes row before (a ∷ []) few = refl
row_is false nodes row before (a ∷ b ∷ []) few = refl
row_is false nodes row before (a ∷ b ∷ c ∷ []) few = refl
row_is false nodes row before (a ∷ b ∷ c ∷ d ∷ []) few = refl
row_is false nodes row before (a ∷ b ∷ c ∷ d ∷ e ∷ []) few =
    six nodes row before (is_number (without_blanks a)) (is_number (without_blanks b)) (is_number (without_blanks c)) (is_number (without_blanks d)) (is_number (without_blanks e)) true
    (value_of (without_blanks a)) (value_of (without_blanks b)) (value_of (without_blanks c)) (value_of (without_blanks d)) (value_of (without_blanks e)) 0 few
row_is false nodes row before (a ∷ b ∷ c ∷ d ∷ e ∷ f ∷ []) few = refl
row_is false nodes row before (a ∷ b ∷ c ∷ d ∷ e ∷ f ∷ g ∷ more) few = rw (not_five (length more)) refl

-- numbers that are in their ranges, and the vehicle of them
ranged_some : (nodes : ℕ) (numbers : RowNumbers) (v : Vehicle) → ranged_by nodes numbers ≡ Some v → (is_in_range nodes (vehicle_by numbers) ≡ true) × (vehicle_by numbers ≡ v)
ranged_some nodes numbers v h = by (is_in_range nodes (vehicle_by numbers)) refl
  where
    by : (t : Bool) → is_in_range nodes (vehicle_by numbers) ≡ t → (is_in_range nodes (vehicle_by numbers) ≡ true) × (vehicle_by numbers ≡ v)
    by true e = (e, same_Some _ _ (rw e at h))
    by false e = absurd (cc)

ranged_none : (nodes : ℕ) (numbers : RowNumbers) → ranged_by nodes numbers ≡ None → is_in_range nodes (vehicle_by numbers) ≡ false
ranged_none nodes numbers h = by (is_in_range nodes (vehicle_by numbers)) refl
  where
    by : (t : Bool) → is_in_range nodes (vehicle_by numbers) ≡ t → is_in_range nodes (vehicle_by numbers) ≡ false
    by true e = absurd (cc)
    by false e = e

-- how the vehicle of numbers in their ranges is checked
checked_in : (nodes row : ℕ) (rows : List Vehicle) (v : Vehicle) (late : Bool) → is_in_range nodes v ≡ true → nat_le row most_vehicles ≡ late
    → checked nodes row rows v ≡ cond late (cond (stood_before rows v) (Err (Double row)) (Ok v)) (Err (Range row))
checked_in nodes row rows v late h e = ap (λ (t : Bool). cond (t && nat_le row most_vehicles) (cond (stood_before rows v) (Err (Double row)) (Ok v)) (Err (Range row))) h
    ∙ ap (λ (t : Bool). cond t (cond (stood_before rows v) (Err (Double row)) (Ok v)) (Err (Range row))) e

pub no_row : (spaces : Bool) (nodes row : ℕ) (rows : List Vehicle) (fields : List (List ℕ)) → nodes ≤ 2 ^ 63 → row_of spaces fields ≡ None → Err (Form row) ≡ vehicle_in nodes row rows (row_fields spaces (map without_blanks fields))
no_row spaces nodes row rows fields few e = sym (row_is spaces nodes row rows fields few ∙ ap (row_said nodes row rows) e)

module _ (spaces : Bool) (nodes row : ℕ) (rows : List Vehicle) (fields : List (List ℕ)) (few : nodes ≤ 2 ^ 63) (numbers : RowNumbers) (read : row_of spaces fields ≡ Some numbers) where
  said : vehicle_in nodes row rows (row_fields spaces (map without_blanks fields)) ≡ checked nodes row rows (vehicle_by numbers)
  said = row_is spaces nodes row rows fields few ∙ ap (row_said nodes row rows) read

  pub no_vehicle : ranged_by nodes numbers ≡ None → Err (Range row) ≡ vehicle_in nodes row rows (row_fields spaces (map without_blanks fields))
  no_vehicle none = sym (said ∙ out_of_range nodes row rows (vehicle_by numbers) (ranged_none nodes numbers none))

  module _ (v : Vehicle) (ranged : ranged_by nodes numbers ≡ Some v) where
    checked_so : (late : Bool) → nat_le row most_vehicles ≡ late → vehicle_in nodes row rows (row_fields spaces (map without_blanks fields)) ≡ cond late (cond (stood_before rows v) (Err (Double row)) (Ok v)) (Err (Range row))
    checked_so late e =
        let s = ranged_some nodes numbers v ranged in
        said ∙ ap (checked nodes row rows) s.1 ∙ checked_in nodes row rows v late (ap (is_in_range nodes) (sym s.1) ∙ s.0) e

    pub late_row : most_vehicles < row → Err (Range row) ≡ vehicle_in nodes row rows (row_fields spaces (map without_blanks fields))
    late_row late = let e : nat_le row most_vehicles ≡ false = grind (arith, nat_tests) in sym (checked_so false e)

    pub double_row : row ≤ most_vehicles → stood_before rows v ≡ true → Err (Double row) ≡ vehicle_in nodes row rows (row_fields spaces (map without_blanks fields))
    double_row early stood =
        let e : nat_le row most_vehicles ≡ true = grind (arith, nat_tests) in
        sym (checked_so true e ∙ ap (λ (t : Bool). cond t (Err (Double row)) (Ok v)) stood)

    pub good_row : row ≤ most_vehicles → stood_before rows v ≡ false → Ok v ≡ vehicle_in nodes row rows (row_fields spaces (map without_blanks fields))
    good_row early new =
        let e : nat_le row most_vehicles ≡ true = grind (arith, nat_tests) in
        sym (checked_so true e ∙ ap (λ (t : Bool). cond t (Err (Double row)) (Ok v)) new)

-- a table begins with its header
pub headed : (records rows : List (List (List ℕ))) (fields : List (List ℕ)) (spaces : Bool) → records ≡ fields ∷ rows → headed_by fields ≡ Some spaces → IsHeaded records spaces rows
headed records rows fields spaces e h = λ nodes. ap (fleet_in nodes) e ∙ ap (λ (o : Option Bool). rows_behind nodes o rows) (sym (headed_is fields) ∙ h)

pub unheaded : (records rows : List (List (List ℕ))) (fields : List (List ℕ)) → records ≡ fields ∷ rows → headed_by fields ≡ None → (nodes : ℕ) → fleet_in nodes records ≡ Err Header
unheaded records rows fields e h nodes = ap (fleet_in nodes) e ∙ ap (λ (o : Option Bool). rows_behind nodes o rows) (sym (headed_is fields) ∙ h)
