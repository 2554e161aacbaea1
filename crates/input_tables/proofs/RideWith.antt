use Rattle.std.proofs.Common.{◌≡◌, ℕ, suc, Bool, true, false, cond, List, [], ◌∷◌, length, Option, Some, None, inl, inr, refl, sym, ap, ◌∙◌, arith}
use Rattle.std.specs.Prelude.{codes, ◌⊎◌, ◌&&◌, nat_le, Result, Ok, Err}
use Rattle.ride_base.specs.Fields.{capped, is_number, value_of, capped_of, fields_of}
use Rattle.input_tables.specs.declared.faults.StreamFault.{StreamFault}
use Rattle.input_tables.specs.declared.faults.StreamFault.TheVariants.{Form, Range}
use Rattle.input_tables.specs.declared.lines.StreamLine.{StreamLine}
use Rattle.input_tables.specs.declared.lines.StreamLine.TheVariants.{Ride}
use Rattle.input_tables.specs.Numbers.{before, numbers_of, last_number_of, ride_with}
use Rattle.input_tables.specs.Streams.{said_by, stream_line_of, ride_of, ranged_ride, are_in_range, request_of, largest_moment, largest_32}
use Rattle.input_tables.proofs.Capped.{le_cut, within, first_of, rest_of}

-- cut numbers are in their ranges where the numbers are
same_range : (a b c d e f : ℕ) → are_in_range (capped a) (capped b) (capped c) (capped d) (capped e) (capped f) ≡ are_in_range a b c d e f
same_range a b c d e f =
    let h : nat_le (capped a) largest_moment ≡ nat_le a largest_moment = le_cut a largest_moment (omega arith) in
    let i : nat_le (capped b) largest_32 ≡ nat_le b largest_32 = le_cut b largest_32 (omega arith) in
    let j : nat_le (capped c) largest_32 ≡ nat_le c largest_32 = le_cut c largest_32 (omega arith) in
    let k : nat_le (capped d) largest_moment ≡ nat_le d largest_moment = le_cut d largest_moment (omega arith) in
    let l : nat_le (capped e) largest_32 ≡ nat_le e largest_32 = le_cut e largest_32 (omega arith) in
    let m : nat_le (capped f) largest_32 ≡ nat_le f largest_32 = le_cut f largest_32 (omega arith) in
    cc

-- cut numbers say what the numbers do
ranged_cut : (a b c d e f : ℕ) → ranged_ride (capped a) (capped b) (capped c) (capped d) (capped e) (capped f) ≡ ranged_ride a b c d e f
ranged_cut a b c d e f = by (are_in_range a b c d e f) refl
  where
    by : (t : Bool) → are_in_range a b c d e f ≡ t → ranged_ride (capped a) (capped b) (capped c) (capped d) (capped e) (capped f) ≡ ranged_ride a b c d e f
    by true h =
        let h1 = rest_of (nat_le a largest_moment) _ h in
        let h2 = rest_of (nat_le b largest_32) _ h1 in
        let h3 = rest_of (nat_le c largest_32) _ h2 in
        let ea : capped a ≡ a = within a largest_moment (omega arith) (first_of (nat_le a largest_moment) _ h) in
        let eb : capped b ≡ b = within b largest_32 (omega arith) (first_of (nat_le b largest_32) _ h1) in
        let ec : capped c ≡ c = within c largest_32 (omega arith) (first_of (nat_le c largest_32) _ h2) in
        let ed : capped d ≡ d = within d largest_moment (omega arith) (first_of (nat_le d largest_moment) _ h3) in
        let h4 = rest_of (nat_le d largest_moment) _ h3 in
        let ee : capped e ≡ e = within e largest_32 (omega arith) (first_of (nat_le e largest_32) _ h4) in
        let ef : capped f ≡ f = within f largest_32 (omega arith) (rest_of (nat_le e largest_32) _ h4) in
        cc
    by false h =
        ap (λ (t : Bool). cond t (Ok (Ride (request_of (capped a) (capped b) (capped c) (capped d) (capped e) (capped f)))) (Err Range)) (same_range a b c d e f ∙ h)
        ∙ sym (ap (λ (t : Bool). cond t (Ok (Ride (request_of a b c d e f))) (Err Range)) h)

-- six fields, each of which is a number or none
six : (ta tb tc td te tf : Bool) (a b c d e f : ℕ) → cond (ta && (tb && (tc && (td && (te && tf))))) (ranged_ride a b c d e f) (Err Form)
    ≡ ride_with (before (cond ta (Some (capped a)) None) (before (cond tb (Some (capped b)) None) (before (cond tc (Some (capped c)) None) (before (cond td (Some (capped d)) None) (before (cond te (Some (capped e)) None) (before (cond tf (Some (capped f)) None) (Some [])))))))
six true true true true true true a b c d e f = sym (ranged_cut a b c d e f)
six true true true true true false a b c d e f = refl
six true true true true false true a b c d e f = refl
six true true true true false false a b c d e f = refl
six true true true false te tf a b c d e f = refl
six true true false td te tf a b c d e f = refl
six true false tc td te tf a b c d e f = refl
six false tb tc td te tf a b c d e f = refl

-- five fields, behind which no wheelchair space is asked for
five : (ta tb tc td te : Bool) (a b c d e : ℕ) → cond (ta && (tb && (tc && (td && (te && true))))) (ranged_ride a b c d e 0) (Err Form)
    ≡ ride_with (before (cond ta (Some (capped a)) None) (before (cond tb (Some (capped b)) None) (before (cond tc (Some (capped c)) None) (before (cond td (Some (capped d)) None) (before (cond te (Some (capped e)) None) (Some []))))))
five true true true true true a b c d e = sym (ranged_cut a b c d e 0)
five true true true true false a b c d e = refl
five true true true false te a b c d e = refl
five true true false td te a b c d e = refl
five true false tc td te a b c d e = refl
five false tb tc td te a b c d e = refl

-- as many numbers as fields
count : (fields : List (List ℕ)) → (numbers_of fields ≡ None) ⊎ ((numbers : List ℕ) × (numbers_of fields ≡ Some numbers) × (length numbers ≡ length fields))
count [] = inr ([], refl, refl)
count (field ∷ fields) = by (capped_of field) (numbers_of fields) refl refl (count fields)
  where
    by : (o : Option ℕ) (more : Option (List ℕ)) → capped_of field ≡ o → numbers_of fields ≡ more → (numbers_of fields ≡ None) ⊎ ((numbers : List ℕ) × (numbers_of fields ≡ Some numbers) × (length numbers ≡ length fields))
        → (before (capped_of field) (numbers_of fields) ≡ None) ⊎ ((numbers : List ℕ) × (before (capped_of field) (numbers_of fields) ≡ Some numbers) × (length numbers ≡ suc (length fields)))
    by None more e f h = inl (rw e refl)
    by (Some n) None e f h = inl (rw (e, f) refl)
    by (Some n) (Some ns) e f (inl none) = absurd (cc)
    by (Some n) (Some ns) e f (inr (numbers, is, size)) = inr (n ∷ numbers, rw (e, is) refl, ap suc size)

other_numbers : (numbers : List ℕ) → (length numbers ≡ 5 → ⊥) → (length numbers ≡ 6 → ⊥) → ride_with (Some numbers) ≡ Err Form
other_numbers [] h k = refl
other_numbers (a ∷ []) h k = refl
other_numbers (a ∷ b ∷ []) h k = refl
other_numbers (a ∷ b ∷ c ∷ []) h k = refl
other_numbers (a ∷ b ∷ c ∷ d ∷ []) h k = refl
other_numbers (a ∷ b ∷ c ∷ d ∷ e ∷ []) h k = absurd (h refl)
other_numbers (a ∷ b ∷ c ∷ d ∷ e ∷ f ∷ []) h k = absurd (k refl)
other_numbers (a ∷ b ∷ c ∷ d ∷ e ∷ f ∷ g ∷ more) h k = refl

other_fields : (fields : List (List ℕ)) → (length fields ≡ 5 → ⊥) → (length fields ≡ 6 → ⊥) → ride_with (numbers_of fields) ≡ Err Form
other_fields fields h k = by (count fields)
  where
    by : (numbers_of fields ≡ None) ⊎ ((numbers : List ℕ) × (numbers_of fields ≡ Some numbers) × (length numbers ≡ length fields)) → ride_with (numbers_of fields) ≡ Err Form
    by (inl none) = ap ride_with none
    by (inr (numbers, is, size)) = ap ride_with is ∙ other_numbers numbers (λ five. h (sym size ∙ five)) (λ six. k (sym size ∙ six))

-- fields say what their numbers do
pub ride_is : (fields : List (List ℕ)) → ride_of fields ≡ ride_with (numbers_of fields)
ride_is [] = refl
ride_is (a ∷ []) = sym (other_fields (a ∷ []) (λ n. omega arith) (λ n. omega arith))
ride_is (a ∷ b ∷ []) = sym (other_fields (a ∷ b ∷ []) (λ n. omega arith) (λ n. omega arith))
ride_is (a ∷ b ∷ c ∷ []) = sym (other_fields (a ∷ b ∷ c ∷ []) (λ n. omega arith) (λ n. omega arith))
ride_is (a ∷ b ∷ c ∷ d ∷ []) = sym (other_fields (a ∷ b ∷ c ∷ d ∷ []) (λ n. omega arith) (λ n. omega arith))
ride_is (a ∷ b ∷ c ∷ d ∷ e ∷ []) = five (is_number a) (is_number b) (is_number c) (is_number d) (is_number e) (value_of a) (value_of b) (value_of c) (value_of d) (value_of e)
ride_is (a ∷ b ∷ c ∷ d ∷ e ∷ f ∷ []) =
    six (is_number a) (is_number b) (is_number c) (is_number d) (is_number e) (is_number f) (value_of a) (value_of b) (value_of c) (value_of d) (value_of e) (value_of f)
ride_is (a ∷ b ∷ c ∷ d ∷ e ∷ f ∷ g ∷ more) = sym (other_fields (a ∷ b ∷ c ∷ d ∷ e ∷ f ∷ g ∷ more) (λ n. omega arith) (λ n. omega arith))

-- what five numbers and the last one say
abbrev pub ride_by : (a b c d e : ℕ) → Result ℕ StreamFault → Result StreamLine StreamFault
ride_by a b c d e (Ok spaces) = ranged_ride a b c d e spaces
ride_by a b c d e (Err fault) = Err fault

-- five numbers, and what is left behind them
pub a_last : (n0 n1 n2 n3 n4 n5 : Option (List ℕ)) (a b c d e : ℕ) → n0 ≡ before (Some a) n1 → n1 ≡ before (Some b) n2 → n2 ≡ before (Some c) n3 → n3 ≡ before (Some d) n4 → n4 ≡ before (Some e) n5
    → ride_by a b c d e (last_number_of n5) ≡ ride_with n0
a_last n0 n1 n2 n3 n4 None a b c d e f g h i j = rw (f, g, h, i, j) refl
a_last n0 n1 n2 n3 n4 (Some []) a b c d e f g h i j = rw (f, g, h, i, j) refl
a_last n0 n1 n2 n3 n4 (Some (n ∷ [])) a b c d e f g h i j = rw (f, g, h, i, j) refl
a_last n0 n1 n2 n3 n4 (Some (n ∷ m ∷ ns)) a b c d e f g h i j = rw (f, g, h, i, j) refl

-- a line whose first field is `r`
pub says_ride : (line : List ℕ) (fields : List (List ℕ)) → fields_of line ≡ codes "r" ∷ fields → ride_with (numbers_of fields) ≡ stream_line_of line
says_ride line fields e = sym (ap said_by e ∙ ride_is fields)
