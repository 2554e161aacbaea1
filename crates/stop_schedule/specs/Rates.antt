use Rattle.std.specs.Prelude.{◌≡◌, ℕ, ◌+◌, ◌*◌, ◌/◌, ◌≤◌, refl}

-- the parameters: what times, limits and costs are reckoned with
pub record Rates : Type 0 where
  pub stop : ℕ
  pub wait : ℕ
  pub trip_num : ℕ
  pub trip_den : ℕ
  pub trip_add : ℕ
  pub wait_weight : ℕ
  pub trip_weight : ℕ

-- each of them is in its range
pub record AreInRange (r : Rates) : Type 0 where
  pub stop : r.stop ≤ 65536
  pub wait : r.wait ≤ 65536
  pub trip_num : r.trip_num ≤ 65536
  pub trip_den : r.trip_den ≤ 65536
  pub trip_add : r.trip_add ≤ 65536
  pub wait_weight : r.wait_weight ≤ 65536
  pub trip_weight : r.trip_weight ≤ 65536
  pub divides : 1 ≤ r.trip_den
  pub factor : r.trip_num ≤ 16 * r.trip_den

-- the parameters of these numbers
abbrev pub rates_of : (stop wait trip_num trip_den trip_add wait_weight trip_weight : ℕ) → Rates
rates_of stop wait trip_num trip_den trip_add wait_weight trip_weight =
    record { stop = stop; wait = wait; trip_num = trip_num; trip_den = trip_den; trip_add = trip_add; wait_weight = wait_weight; trip_weight = trip_weight }

abbrev pub AreOfNumbers : (stop wait trip_num trip_den trip_add wait_weight trip_weight : ℕ) → Rates → Type 0
AreOfNumbers stop wait trip_num trip_den trip_add wait_weight trip_weight r =
    r ≡ rates_of stop wait trip_num trip_den trip_add wait_weight trip_weight

-- not each of these numbers is in its range
abbrev pub AreOutOfRange : (stop wait trip_num trip_den trip_add wait_weight trip_weight : ℕ) → Type 0
AreOutOfRange stop wait trip_num trip_den trip_add wait_weight trip_weight =
    AreInRange (rates_of stop wait trip_num trip_den trip_add wait_weight trip_weight) → ⊥

-- how long after its moment a request's riders may arrive at no cost, for a direct distance
abbrev pub trip_limit : Rates → ℕ → ℕ
trip_limit r direct = r.trip_num * direct / r.trip_den + r.trip_add

abbrev pub usual : Rates
usual = record { stop = 2; wait = 20; trip_num = 2; trip_den = 1; trip_add = 10; wait_weight = 1; trip_weight = 1 }

twice_and_ten : trip_limit usual 20 ≡ 50
twice_and_ten = refl

-- the division cuts off
cut_off : trip_limit (record usual { trip_num = 3; trip_den = 2 }) 7 ≡ 20
cut_off = refl
