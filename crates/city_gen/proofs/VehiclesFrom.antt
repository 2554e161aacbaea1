use Rattle.std.proofs.Common.{◌≡◌, ℕ, zero, suc, ◌+◌, ◌-◌, ◌*◌, ◌/◌, ◌<◌, ◌≤◌, ◌^◌, List, [], ◌∷◌, ◌++◌, length, Some, slice_get, refl, sym, ap, ◌∙◌, subst, arith, append_assoc}
use Rattle.std.proofs.lemmas.List.{append-nil}
use Rattle.std.proofs.lemmas.Nat.{mod_below}
use Rattle.std.proofs.lemmas.Option.{same_Some}
use Rattle.stop_schedule.specs.Bounds.{IsVehicle, AreVehicles}
use Rattle.stop_schedule.specs.declared.vehicle.Vehicle.{Vehicle}
use Rattle.city_gen.specs.Draws.{after, draw}
use Rattle.city_gen.specs.Roads.{node_count}
use Rattle.city_gen.specs.Vehicles.{drawn_vehicle, vehicle_count, vehicles_from}
use Rattle.city_gen.proofs.After.{after_front, after-none}

vehicles_from-more : (many left number x : ℕ) → many ≡ suc left
    → vehicles_from many number x ≡ drawn_vehicle number x ∷ vehicles_from left (number + 1) (after 2 x)
unfolding vehicles_from
vehicles_from-more many left number x e = ap (λ m. vehicles_from m number x) e

vehicles_from-none : (many number x : ℕ) → many ≡ 0 → vehicles_from many number x ≡ []
unfolding vehicles_from
vehicles_from-none many number x e = ap (λ m. vehicles_from m number x) e

-- What is made so far and the vehicles from here on are all of them, and so with one more made.
pub made_more : (made new all : List Vehicle) (v : Vehicle) (place x y : ℕ) → place < vehicle_count
    → v ≡ drawn_vehicle (place + 1) x → y ≡ after 2 x → new ≡ made ++ v ∷ []
    → made ++ vehicles_from (vehicle_count - place) (place + 1) x ≡ all
    → new ++ vehicles_from (vehicle_count - (place + 1)) (place + 1 + 1) y ≡ all
made_more made new all v place x y lt is state pushed h =
    let left : ℕ = vehicle_count - (place + 1) in
    let rest : List Vehicle = vehicles_from left (place + 1 + 1) (after 2 x) in
    let e : vehicle_count - place ≡ suc left = omega arith in
    let more : vehicles_from (vehicle_count - place) (place + 1) x ≡ drawn_vehicle (place + 1) x ∷ rest =
    vehicles_from-more (vehicle_count - place) left (place + 1) x e in
    let there : (made ++ v ∷ []) ++ rest ≡ made ++ (v ∷ rest) = append_assoc made (v ∷ []) rest in
    ap (λ (vs : List Vehicle). vs ++ vehicles_from left (place + 1 + 1) y) pushed
    ∙ ap (λ z. (made ++ v ∷ []) ++ vehicles_from left (place + 1 + 1) z) state
    ∙ there
    ∙ ap (λ (w : Vehicle). made ++ (w ∷ rest)) is
    ∙ ap (λ (vs : List Vehicle). made ++ vs) (sym more)
    ∙ h

pub state_more : (place x y s : ℕ) → place < vehicle_count → y ≡ after 2 x
    → after (2 * (vehicle_count - place)) x ≡ s → after (2 * (vehicle_count - (place + 1))) y ≡ s
state_more place x y s lt state h =
    let e : 2 * (vehicle_count - place) ≡ 2 + 2 * (vehicle_count - (place + 1)) = omega arith in
    after_front (2 * (vehicle_count - place)) 2 (2 * (vehicle_count - (place + 1))) x y e state ∙ h

-- and no vehicle is left behind the last
pub made_all : (made all : List Vehicle) (place x : ℕ) → vehicle_count ≤ place
    → made ++ vehicles_from (vehicle_count - place) (place + 1) x ≡ all → made ≡ all
made_all made all place x le h =
    let none : vehicles_from (vehicle_count - place) (place + 1) x ≡ [] =
    vehicles_from-none (vehicle_count - place) (place + 1) x (omega arith) in
    sym (append-nil made) ∙ ap (λ (vs : List Vehicle). made ++ vs) (sym none) ∙ h

pub state_all : (place x s : ℕ) → vehicle_count ≤ place → after (2 * (vehicle_count - place)) x ≡ s → x ≡ s
state_all place x s le h = sym (after-none (2 * (vehicle_count - place)) x (omega arith)) ∙ h

-- A drawn vehicle's fields are in their ranges.
drawn_is_vehicle : (number x : ℕ) → 1 ≤ number → IsVehicle node_count (drawn_vehicle number x)
drawn_is_vehicle number x le =
    let start : draw 1 node_count x < node_count = mod_below (after 1 x / 2 ^ 33) node_count (omega arith) in
    let seats : draw 2 3 x < 3 = mod_below (after 2 x / 2 ^ 33) 3 (omega arith) in
    record {
      number = le;
      start_from_1 = omega arith;
      start_to_last = omega arith;
      some_seat = omega arith;
      few_seats = omega arith;
      few_spaces = omega arith;
      ordered = omega arith;
      until = omega arith;
    }

length-vehicles_from : (many number x : ℕ) → length (vehicles_from many number x) ≡ many
unfolding vehicles_from
length-vehicles_from zero number x = refl
length-vehicles_from (suc many) number x = ap suc (length-vehicles_from many (number + 1) (after 2 x))

-- the vehicle at a place has the number of that place, and is in its ranges
record IsAt (number : ℕ) (v : Vehicle) : Type 0 where
  numbered : v.no.0 ≡ number
  is_vehicle : IsVehicle node_count v

at_place : (many number x k : ℕ) (v : Vehicle) → 1 ≤ number → slice_get (vehicles_from many number x) k ≡ Some v → IsAt (number + k) v
unfolding vehicles_from
at_place zero number x k v le h = cc
at_place (suc many) number x zero v le h =
    let e : drawn_vehicle number x ≡ v = same_Some _ _ h in
    subst (IsAt (number + 0)) e (record { numbered = omega arith; is_vehicle = drawn_is_vehicle number x le })
at_place (suc many) number x (suc k) v le h =
    let e : number + 1 + k ≡ number + suc k = omega arith in
    let P : ℕ → Type 0 = λ n. IsAt n v in
    subst P e (at_place many (number + 1) (after 2 x) k v (omega arith) h)

-- So many vehicles from number 1 on are a fleet's.
pub are_vehicles : (x : ℕ) → AreVehicles node_count (vehicles_from vehicle_count 1 x)
are_vehicles x = record {
  few = let e = length-vehicles_from vehicle_count 1 x in omega arith;
  each = λ k v h. (at_place vehicle_count 1 x k v (omega arith) h).is_vehicle;
  rising = λ k v w h i.
      let a = (at_place vehicle_count 1 x k v (omega arith) h).numbered in
      let b = (at_place vehicle_count 1 x (suc k) w (omega arith) i).numbered in
      omega arith;
}
