use Rattle.std.proofs.Common.{◌≡◌, ℕ, ◌==◌, nat_lt, Bool, true, false, cond, ◌||◌, List, [], ◌∷◌, ◌++◌, map, Some, is_some, refl, sym, ap, ◌∙◌, arith}
use Rattle.std.specs.BTreeMap.{insert_entry, is_at}
use Rattle.std.specs.List.{list_any}
use Rattle.std.specs.Map.{lookup}
use Rattle.std.specs.Ordering.{is_eq, nat_cmp, match_ordering}
use Rattle.std.specs.declared.cmp.Ordering.{Ordering}
use Rattle.std.specs.declared.cmp.Ordering.TheVariants.{Less, Equal, Greater}
use Rattle.std.proofs.lemmas.Bool.Decides.{nat_tests}
use Rattle.ride_base.specs.declared.numbers.VehicleNo.{VehicleNo}
use Rattle.stop_schedule.specs.declared.vehicle.Vehicle.{Vehicle}
use Rattle.input_tables.specs.Fleets.{put_in, by_number, stood_before}
use Rattle.input_tables.specs.Rows.{entry_of}

-- Vehicles in rising order of number, and as entries of a map.

module _ (f : Vehicle → Bool) where
  any_put : (v : Vehicle) (vs : List Vehicle) → list_any f (put_in v vs) ≡ (f v || list_any f vs)
  any_put v [] = refl
  any_put v (w ∷ vs) = by (nat_lt v.no.0 w.no.0) (f v) (f w) (any_put v vs)
    where
      by : (lt s t : Bool) → list_any f (put_in v vs) ≡ (f v || list_any f vs) → list_any f (cond lt (v ∷ w ∷ vs) (w ∷ put_in v vs)) ≡ (f v || (f w || list_any f vs))
      by true s t h = refl
      by false s t h = swapped (f v) (f w) (list_any f (put_in v vs)) (list_any f vs) h
        where
          swapped : (a b x y : Bool) → x ≡ (a || y) → (b || x) ≡ (a || (b || y))
          swapped true true x y e = refl
          swapped true false x y e = e
          swapped false true x y e = refl
          swapped false false x y e = e

  -- the order doesn't matter to whether one of them passes
  pub any_sorted : (vs : List Vehicle) → list_any f (by_number vs) ≡ list_any f vs
  any_sorted [] = refl
  any_sorted (v ∷ vs) = any_put v (by_number vs) ∙ ap (λ (t : Bool). f v || t) (any_sorted vs)

-- a key is found where it is a vehicle's
found_any : (test : VehicleNo → Bool) (vs : List Vehicle) → is_some (lookup test (map entry_of vs)) ≡ list_any (λ (w : Vehicle). test w.no) vs
found_any test [] = refl
found_any test (w ∷ vs) = by (test w.no) (found_any test vs)
  where
    by : (t : Bool) → is_some (lookup test (map entry_of vs)) ≡ list_any (λ (w : Vehicle). test w.no) vs → is_some (cond t (Some w) (lookup test (map entry_of vs))) ≡ (t || list_any (λ (w : Vehicle). test w.no) vs)
    by true h = refl
    by false h = h

same_any : (f g : Vehicle → Bool) (vs : List Vehicle) → ((w : Vehicle) → f w ≡ g w) → list_any f vs ≡ list_any g vs
same_any f g [] h = refl
same_any f g (w ∷ vs) h = rw (h w, same_any f g vs h) refl

equal_is : (a b : ℕ) → is_eq (nat_cmp a b) ≡ (b == a)
equal_is a b = by (nat_lt a b) (a == b) refl refl
  where
    by : (s t : Bool) → nat_lt a b ≡ s → (a == b) ≡ t → is_eq (cond s Less (cond t Equal Greater)) ≡ (b == a)
    by true t h i = let k : (b == a) ≡ false = grind (arith, nat_tests) in sym k
    by false true h i = let k : (b == a) ≡ true = grind (arith, nat_tests) in sym k
    by false false h i = let k : (b == a) ≡ false = grind (arith, nat_tests) in sym k

-- a map of the vehicles of some rows has a number where it stood in one of them
pub stands : (cmp : VehicleNo → VehicleNo → Ordering) → ((x y : VehicleNo) → cmp x y ≡ nat_cmp x.0 y.0) → (v : Vehicle) (rows : List Vehicle)
    → is_some (lookup (is_at (cmp v.no)) (map entry_of (by_number rows))) ≡ stood_before rows v
stands cmp same v rows = found_any (is_at (cmp v.no)) (by_number rows)
    ∙ any_sorted (λ (w : Vehicle). is_at (cmp v.no) w.no) rows
    ∙ same_any (λ (w : Vehicle). is_at (cmp v.no) w.no) (λ (w : Vehicle). w.no.0 == v.no.0) rows (λ w. ap is_eq (same v.no w.no) ∙ equal_is v.no.0 w.no.0)

pub first_false : (t u : Bool) → (t || u) ≡ false → t ≡ false
first_false true u h = cc
first_false false u h = refl

pub rest_false : (t u : Bool) → (t || u) ≡ false → u ≡ false
rest_false true u h = cc
rest_false false u h = h

-- a vehicle of a new number goes to its place among the entries
put_entry : (cmp : VehicleNo → VehicleNo → Ordering) → ((x y : VehicleNo) → cmp x y ≡ nat_cmp x.0 y.0) → (v : Vehicle) (vs : List Vehicle) → stood_before vs v ≡ false
    → insert_entry cmp (map entry_of vs) v.no v ≡ map entry_of (put_in v vs)
put_entry cmp same v [] h = refl
put_entry cmp same v (w ∷ vs) h =
    ap (λ (o : Ordering). match_ordering o (entry_of v ∷ entry_of w ∷ map entry_of vs) ((w.no, v) ∷ map entry_of vs) (entry_of w ∷ insert_entry cmp (map entry_of vs) v.no v)) (same v.no w.no)
    ∙ by (nat_lt v.no.0 w.no.0) (v.no.0 == w.no.0) refl refl (λ k. put_entry cmp same v vs k)
  where
    apart : (a b : ℕ) (t : Bool) → ((b == a) || t) ≡ false → (a == b) ≡ true → ⊥
    apart a b true h e = grind (arith, nat_tests)
    apart a b false h e = grind (arith, nat_tests)

    by : (s t : Bool) → nat_lt v.no.0 w.no.0 ≡ s → (v.no.0 == w.no.0) ≡ t → (stood_before vs v ≡ false → insert_entry cmp (map entry_of vs) v.no v ≡ map entry_of (put_in v vs))
        → match_ordering (cond s Less (cond t Equal Greater)) (entry_of v ∷ entry_of w ∷ map entry_of vs) ((w.no, v) ∷ map entry_of vs) (entry_of w ∷ insert_entry cmp (map entry_of vs) v.no v)
        ≡ map entry_of (cond s (v ∷ w ∷ vs) (w ∷ put_in v vs))
    by true t i j more = refl
    by false true i j more = absurd (apart v.no.0 w.no.0 _ h j)
    by false false i j more = ap (λ (es : List (VehicleNo × Vehicle)). entry_of w ∷ es) (more (rest_false (w.no.0 == v.no.0) (stood_before vs v) h))

front : (v x : Vehicle) (vs : List Vehicle) → nat_lt v.no.0 x.no.0 ≡ true → put_in v (x ∷ vs) ≡ v ∷ x ∷ vs
front v x vs h = ap (λ (t : Bool). cond t (v ∷ x ∷ vs) (x ∷ put_in v vs)) h

past : (v x : Vehicle) (vs : List Vehicle) → nat_lt v.no.0 x.no.0 ≡ false → put_in v (x ∷ vs) ≡ x ∷ put_in v vs
past v x vs h = ap (λ (t : Bool). cond t (v ∷ x ∷ vs) (x ∷ put_in v vs)) h

-- a vehicle whose place is before another's, put before it or after it
put_lower : (v w x : Vehicle) (vs : List Vehicle) → nat_lt v.no.0 w.no.0 ≡ true → nat_lt v.no.0 x.no.0 ≡ true → (t : Bool) → nat_lt w.no.0 x.no.0 ≡ t → put_in v (put_in w (x ∷ vs)) ≡ put_in w (put_in v (x ∷ vs))
put_lower v w x vs h i true j =
    let k : nat_lt w.no.0 v.no.0 ≡ false = grind (arith, nat_tests) in
    ap (put_in v) (front w x vs j) ∙ front v w (x ∷ vs) h ∙ sym (ap (put_in w) (front v x vs i) ∙ past w v (x ∷ vs) k ∙ ap (λ (us : List Vehicle). v ∷ us) (front w x vs j))
put_lower v w x vs h i false j =
    let k : nat_lt w.no.0 v.no.0 ≡ false = grind (arith, nat_tests) in
    ap (put_in v) (past w x vs j) ∙ front v x (put_in w vs) i ∙ sym (ap (put_in w) (front v x vs i) ∙ past w v (x ∷ vs) k ∙ ap (λ (us : List Vehicle). v ∷ us) (past w x vs j))

-- two vehicles of different numbers can be put in either order
put_twice : (v w : Vehicle) (vs : List Vehicle) → (v.no.0 == w.no.0) ≡ false → put_in v (put_in w vs) ≡ put_in w (put_in v vs)
put_twice v w [] h = by (nat_lt v.no.0 w.no.0) (nat_lt w.no.0 v.no.0) refl refl
  where
    by : (s t : Bool) → nat_lt v.no.0 w.no.0 ≡ s → nat_lt w.no.0 v.no.0 ≡ t → cond s (v ∷ w ∷ []) (w ∷ v ∷ []) ≡ cond t (w ∷ v ∷ []) (v ∷ w ∷ [])
    by true true i j = absurd (grind (arith, nat_tests))
    by true false i j = refl
    by false true i j = refl
    by false false i j = absurd (grind (arith, nat_tests))
put_twice v w (x ∷ vs) h = by (nat_lt v.no.0 x.no.0) (nat_lt w.no.0 x.no.0) (nat_lt v.no.0 w.no.0) refl refl refl (put_twice v w vs h)
  where
    by : (s t lt : Bool) → nat_lt v.no.0 x.no.0 ≡ s → nat_lt w.no.0 x.no.0 ≡ t → nat_lt v.no.0 w.no.0 ≡ lt → put_in v (put_in w vs) ≡ put_in w (put_in v vs)
        → put_in v (put_in w (x ∷ vs)) ≡ put_in w (put_in v (x ∷ vs))
    by true t true i j k more = put_lower v w x vs k i t j
    by true true false i j k more = let l : nat_lt w.no.0 v.no.0 ≡ true = grind (arith, nat_tests) in sym (put_lower w v x vs l j true i)
    by true false false i j k more = absurd (grind (arith, nat_tests))
    by false true lt i j k more = let l : nat_lt w.no.0 v.no.0 ≡ true = grind (arith, nat_tests) in sym (put_lower w v x vs l j false i)
    by false false lt i j k more =
        ap (put_in v) (past w x vs j) ∙ past v x (put_in w vs) i ∙ ap (λ (us : List Vehicle). x ∷ us) more ∙ sym (ap (put_in w) (past v x vs i) ∙ past w x (put_in v vs) j)

-- the vehicle of a further row comes to its place
pub sorted_more : (v : Vehicle) (rows : List Vehicle) → stood_before rows v ≡ false → by_number (rows ++ v ∷ []) ≡ put_in v (by_number rows)
sorted_more v [] h = refl
sorted_more v (w ∷ rows) h =
    let apart : (w.no.0 == v.no.0) ≡ false = first_false (w.no.0 == v.no.0) (stood_before rows v) h in
    ap (put_in w) (sorted_more v rows (rest_false (w.no.0 == v.no.0) (stood_before rows v) h)) ∙ put_twice w v (by_number rows) apart

-- a map keeps the vehicle of a further row with those before it
pub keeps_more : (cmp : VehicleNo → VehicleNo → Ordering) → ((x y : VehicleNo) → cmp x y ≡ nat_cmp x.0 y.0) → (v : Vehicle) (rows : List Vehicle) → stood_before rows v ≡ false
    → insert_entry cmp (map entry_of (by_number rows)) v.no v ≡ map entry_of (by_number (rows ++ v ∷ []))
keeps_more cmp same v rows h =
    put_entry cmp same v (by_number rows) (any_sorted (λ (w : Vehicle). w.no.0 == v.no.0) rows ∙ h) ∙ ap (map entry_of) (sym (sorted_more v rows h))
