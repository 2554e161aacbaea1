use Rattle.std.proofs.Common.{◌≡◌, ℕ, ◌^◌, ◌≤◌, Bool, true, false, refl, arith}
use Rattle.std.specs.Prelude.{◌&&◌, nat_le}
use Rattle.std.proofs.lemmas.Bool.Decides.{nat_tests}
use Rattle.ride_base.specs.Fields.{capped}

-- a bound below the cut sees no difference
pub le_cut : (n most : ℕ) → most ≤ 2 ^ 63 → nat_le (capped n) most ≡ nat_le n most
le_cut n most h = grind (arith, nat_tests)

pub cut_le : (n least : ℕ) → least ≤ 2 ^ 63 → nat_le least (capped n) ≡ nat_le least n
cut_le n least h = grind (arith, nat_tests)

-- a number within such a bound isn't cut
pub within : (n most : ℕ) → most ≤ 2 ^ 63 → nat_le n most ≡ true → capped n ≡ n
within n most h t = grind (arith, nat_tests)

pub first_of : (a b : Bool) → (a && b) ≡ true → a ≡ true
first_of true b h = refl
first_of false b h = cc

pub rest_of : (a b : Bool) → (a && b) ≡ true → b ≡ true
rest_of true b h = h
rest_of false b h = cc
