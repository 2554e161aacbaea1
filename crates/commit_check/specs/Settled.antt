use Rattle.std.specs.Prelude.{◌≡◌, ℕ, zero, suc, ◌+◌, ◌<◌, ◌≤◌, ◌⊎◌, nat_lt, cond, List, [], ◌∷◌, length, Option, Some, None, slice_get, All as EachOf, Contains, refl}
use Rattle.std.specs.List.Sorted.{IsStrictlyIncreasing}
use Rattle.road_graph.specs.Roads.{Roads}
use Rattle.stop_schedule.specs.declared.request.Request.{Request}
use Rattle.stop_schedule.specs.Rates.{usual}
use Rattle.stop_schedule.specs.Fleets.{Car, Cars, OfCar}
use Rattle.stop_schedule.specs.Fronts.{front_of}
use Rattle.insertion_cost.specs.declared.candidates.Candidate.{Candidate}
use Rattle.insertion_cost.specs.declared.candidates.Floor.TheVariants.{All}
use Rattle.insertion_cost.specs.declared.decision.Decision.{Decision}
use Rattle.insertion_cost.specs.declared.offer.Offer.{Offer}
use Rattle.insertion_cost.specs.Candidates.{is_same_front, redone, standing, standing_car}
use Rattle.insertion_cost.specs.Offers.{IsFirst, IsOfferFrom, IsOfferNow}
use Rattle.insertion_cost.specs.Pricers.{IsAnswerOf}

-- The answer of a fleet to a request: the best insertion with least walks of the legs that it
-- changes, whatever the length of the direct way, or nobody where no insertion is feasible.
abbrev pub IsDecision : Roads → Cars → Request → Decision → Type 0
IsDecision g fleet r d = (direct : ℕ) × IsAnswerOf g fleet r d direct

-- ---- the vehicles of which more than the floor is known

-- an offer of a vehicle in its place, whose schedule changed after the base
abbrev pub IsOfferChanged : Roads → Cars → Request → (base place : ℕ) → Car → Offer → Type 0
IsOfferChanged g fleet r base place car o = (base < car.stamp) × IsOfferNow g fleet place car r o

-- one of a vehicle whose schedule didn't
abbrev pub IsOfferUnchanged : Roads → Cars → Request → (base place : ℕ) → Car → Offer → Type 0
IsOfferUnchanged g fleet r base place car o = (car.stamp ≤ base) × IsOfferNow g fleet place car r o

-- the first offer of the vehicle in a place where its schedule changed after the base, or none
abbrev pub IsFirstChanged : Roads → Cars → Request → (base place : ℕ) → Option Offer → Type 0
IsFirstChanged g fleet r base place best =
    OfCar fleet place (λ (car : Car). IsFirst (IsOfferChanged g fleet r base place car) best)

-- the first one where it didn't change, or none
abbrev pub IsFirstUnchanged : Roads → Cars → Request → (base place : ℕ) → Option Offer → Type 0
IsFirstUnchanged g fleet r base place best =
    OfCar fleet place (λ (car : Car). IsFirst (IsOfferUnchanged g fleet r base place car) best)

-- what an entry says of its vehicle is true where its schedule didn't change after the base
abbrev pub IsTrueEntry : Roads → Cars → Request → (base : ℕ) → Candidate → Type 0
IsTrueEntry g fleet r base e = OfCar fleet e.place (λ (car : Car). car.stamp ≤ base
    → IsFirst (IsOfferFrom g fleet.rates e.place car e.front r) e.best)

-- the vehicle in a place is listed
abbrev pub IsListedAt : List Candidate → ℕ → Type 0
IsListedAt [] place = ⊥
IsListedAt (e ∷ entries) place = (e.place ≡ place) ⊎ IsListedAt entries place

-- an offer of a vehicle whose schedule changed after the base, or that is listed
pub record IsKnown (g : Roads) (fleet : Cars) (r : Request) (base : ℕ) (entries : List Candidate)
    (o : Offer) : Type 0 where
  pub car : Car
  pub stands : slice_get fleet.cars o.place ≡ Some car
  pub known : (base < car.stamp) ⊎ IsListedAt entries o.place
  pub offer : IsOfferNow g fleet o.place car r o

-- ---- in which places schedules may have changed

-- The places rise, each is that of a vehicle, and those of all vehicles whose schedules changed after
-- the base are among them.
pub record HoldChanged (fleet : Cars) (base : ℕ) (places : List ℕ) : Type 0 where
  pub rising : IsStrictlyIncreasing places
  pub within : EachOf (λ (p : ℕ). p < length fleet.cars) places
  pub every : (p : ℕ) (car : Car) → slice_get fleet.cars p ≡ Some car → base < car.stamp
      → Contains places p

-- ---- how many of them are priced anew

-- 1 where a vehicle's schedule changed after the base
abbrev pub changed_of : ℕ → Option Car → ℕ
changed_of base None = 0
changed_of base (Some car) = cond (nat_lt base car.stamp) 1 0

abbrev pub changed_at : Cars → (base place : ℕ) → ℕ
changed_at fleet base place = changed_of base (slice_get fleet.cars place)

-- how many of the first n vehicles these are
abbrev pub changed_below : Cars → (base n : ℕ) → ℕ
changed_below fleet base zero = 0
changed_below fleet base (suc n) = changed_below fleet base n + changed_at fleet base n

-- and of all
abbrev pub changed : Cars → (base : ℕ) → ℕ
changed fleet base = changed_below fleet base (length fleet.cars)

-- 1 where the schedule of a listed vehicle didn't change, and it was priced from another front
abbrev pub moved_of : (base clock : ℕ) → Candidate → Option Car → ℕ
moved_of base clock e None = 0
moved_of base clock e (Some car) =
    cond (nat_lt base car.stamp) 0 (cond (is_same_front e.front (front_of car.plan clock)) 0 1)

abbrev pub moved_at : Cars → (base : ℕ) → Candidate → ℕ
moved_at fleet base e = moved_of base fleet.clock e (slice_get fleet.cars e.place)

-- how many of the listed vehicles these are
abbrev pub moved_in : Cars → (base : ℕ) → List Candidate → ℕ
moved_in fleet base [] = 0
moved_in fleet base (e ∷ entries) = moved_at fleet base e + moved_in fleet base entries

-- ---- examples

-- The second of three vehicles changed after version 4, at which the first two were priced.
abbrev at_clock : ℕ → Cars
at_clock clock = record {
  rates = usual;
  clock = clock;
  version = 9;
  cars = standing_car 4 ∷ standing_car 5 ∷ standing_car 0 ∷ [];
}

abbrev listed : List Candidate
listed =
    record { place = 1; front = standing 0; best = None }
    ∷ record { place = 0; front = standing 0; best = None }
    ∷ []

one_changed : changed (at_clock 0) 4 ≡ 1
one_changed = refl

-- the stamp may be the base itself
none_changed : changed (at_clock 0) 5 ≡ 0
none_changed = refl

none_moved : moved_in (at_clock 0) 4 listed ≡ 0
none_moved = refl

-- A later clock moves both fronts. A vehicle whose schedule changed is priced anew for that alone.
one_moved : moved_in (at_clock 3) 4 listed ≡ 1
one_moved = refl

two_moved : moved_in (at_clock 3) 5 listed ≡ 2
two_moved = refl

-- both together are what is priced anew
two_anew : redone (at_clock 3) (record { base = 4; entries = listed; floor = All }) ≡ 2
two_anew = refl
