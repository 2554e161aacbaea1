use Rattle.std.specs.Prelude.{◌≡◌, ℕ, zero, suc, ◌+◌, ◌<◌, ◌≤◌, ◌==◌, ◌&&◌, ◌||◌, not, nat_le, nat_lt, Bool, true, false, cond, List, [], ◌∷◌, length, Option, Some, None, find, option_map, slice_get, refl}
use lib.Dec.{lit≤}
use Rattle.road_graph.specs.Roads.{Roads, node}
use Rattle.stop_schedule.specs.declared.request.Request.{Request}
use Rattle.stop_schedule.specs.declared.stop.Front.{Front}
use Rattle.stop_schedule.specs.Rates.{usual}
use Rattle.stop_schedule.specs.Samples.{opened}
use Rattle.stop_schedule.specs.Fronts.{front_of}
use Rattle.stop_schedule.specs.Fleets.{Car, Cars, IsGoodFleet}
use Rattle.insertion_cost.specs.declared.candidates.Candidate.{Candidate}
use Rattle.insertion_cost.specs.declared.candidates.Candidates.{Candidates}
use Rattle.insertion_cost.specs.declared.candidates.Floor.{Floor}
use Rattle.insertion_cost.specs.declared.candidates.Floor.TheVariants.{Nothing, Above, All}
use Rattle.insertion_cost.specs.declared.offer.Offer.{Offer}
use Rattle.insertion_cost.specs.Offers.{IsOfferFrom, IsOfferNow, IsFirst, IsBestOrNone}

-- of none anything is known
abbrev pub none_at : ℕ → Candidates
none_at base = record { base = base; entries = []; floor = Nothing }

-- the entry of the vehicle in a place, where it is listed
abbrev pub entry_of : List Candidate → ℕ → Option Candidate
entry_of entries place = find (λ (e : Candidate). e.place == place) entries

-- What is said of a vehicle is true: its best offer from its entry's front, where it is listed, and else what the floor says, now.
abbrev pub IsTrueOf : Roads → Cars → Request → ℕ → Car → Floor → Option Candidate → Type 0
IsTrueOf g fleet r place car floor (Some e) = IsFirst (IsOfferFrom g fleet.rates place car e.front r) e.best
IsTrueOf g fleet r place car Nothing None = Unit {0}
IsTrueOf g fleet r place car (Above x) None = (o : Offer) → IsOfferNow g fleet place car r o → x < o.cost
IsTrueOf g fleet r place car All None = (o : Offer) → IsOfferNow g fleet place car r o → ⊥

-- Candidates are sound for a fleet: their base is at most its version, each listed place is that of a vehicle, none is listed twice,
-- and what they say of a vehicle is true where its schedule is that of their base, as its stamp tells.
pub record AreSound (g : Roads) (fleet : Cars) (r : Request) (c : Candidates) : Type 0 where
  pub base : c.base ≤ fleet.version
  pub within : (k : ℕ) (e : Candidate) → slice_get c.entries k ≡ Some e → e.place < length fleet.cars
  pub once : (k l : ℕ) (e f : Candidate) → slice_get c.entries k ≡ Some e → slice_get c.entries l ≡ Some f → e.place ≡ f.place → k ≡ l
  pub true_of : (place : ℕ) (car : Car) → slice_get fleet.cars place ≡ Some car → car.stamp ≤ c.base → IsTrueOf g fleet r place car c.floor (entry_of c.entries place)

-- they are of this version and its fronts
pub record AreFresh (g : Roads) (fleet : Cars) (r : Request) (c : Candidates) : Type 0 where
  pub sound : AreSound g fleet r c
  pub version : c.base ≡ fleet.version
  pub fronts : (k : ℕ) (e : Candidate) (car : Car) → slice_get c.entries k ≡ Some e → slice_get fleet.cars e.place ≡ Some car → e.front ≡ front_of car.plan fleet.clock

-- some of these offers are enough: all others are infeasible, or cost more than one of these
abbrev pub IsDecided : Floor → (Offer → Type 0) → Type 0
IsDecided Nothing among = ⊥
IsDecided (Above x) among = (o : Offer) × among o × (o.cost ≤ x)
IsDecided All among = Unit {0}

-- the offer stands in the list
abbrev pub IsListed : List Candidate → Offer → Type 0
IsListed entries o = (k : ℕ) × (e : Candidate) × (slice_get entries k ≡ Some e) × (e.best ≡ Some o)

-- the best listed offer is the best of all
abbrev pub Decides : Candidates → Type 0
Decides c = IsDecided c.floor (IsListed c.entries)

-- an offer or none is the best insertion of every good fleet for which the candidates are fresh and decide
abbrev pub IsBestWhereFresh : Candidates → Option Offer → Type 0
IsBestWhereFresh c best = (g : Roads) (fleet : Cars) (r : Request) → IsGoodFleet g fleet → AreFresh g fleet r c → Decides c → IsBestOrNone g fleet r best

abbrev pub is_same_front : Front → Front → Bool
is_same_front a b = (a.node.0 == b.node.0) && (a.time == b.time) && (a.offset == b.offset)

-- the vehicle was priced from another front
abbrev pub has_moved : Front → Option Candidate → Bool
has_moved front None = false
has_moved front (Some e) = not (is_same_front e.front front)

-- a vehicle has to be priced anew: its schedule changed after the base, or it is listed with another front than now
abbrev pub is_redone : Candidates → ℕ → ℕ → Car → Bool
is_redone c clock place car = nat_lt c.base car.stamp || has_moved (front_of car.plan clock) (entry_of c.entries place)

abbrev pub redone_at : Candidates → ℕ → ℕ → Option Car → ℕ
redone_at c clock place None = 0
redone_at c clock place (Some car) = cond (is_redone c clock place car) 1 0

-- how many of the first n vehicles these are
abbrev pub redone_below : Candidates → Cars → ℕ → ℕ
redone_below c fleet zero = 0
redone_below c fleet (suc n) = redone_below c fleet n + redone_at c fleet.clock n (slice_get fleet.cars n)

-- and of all
abbrev pub redone : Cars → Candidates → ℕ
redone fleet c = redone_below c fleet (length fleet.cars)

abbrev pub best_in : Option Candidate → Option Offer
best_in None = None
best_in (Some e) = e.best

-- of a vehicle that is priced anew each offer counts, of another one the listed one alone
abbrev pub CountsAs : Roads → Cars → Request → ℕ → Car → Option Candidate → Offer → Bool → Type 0
CountsAs g fleet r place car entry o true = IsOfferNow g fleet place car r o
CountsAs g fleet r place car entry o false = best_in entry ≡ Some o

-- the offer is one of those among which settling chooses
pub record Counts (g : Roads) (fleet : Cars) (r : Request) (c : Candidates) (o : Offer) : Type 0 where
  pub place : ℕ
  pub car : Car
  pub stands : slice_get fleet.cars place ≡ Some car
  pub is : CountsAs g fleet r place car (entry_of c.entries place) o (is_redone c fleet.clock place car)

-- these are enough
abbrev pub Settles : Roads → Cars → Request → Candidates → Type 0
Settles g fleet r c = IsDecided c.floor (Counts g fleet r c)

-- the test for this, by the first of these offers
abbrev pub is_decided : Floor → Option Offer → Bool
is_decided Nothing best = false
is_decided (Above x) None = false
is_decided (Above x) (Some o) = nat_le o.cost x
is_decided All best = true

-- Three vehicles that were priced at version 4: the first from its front at 0, the second without an offer, the third not at all.
abbrev pub standing : ℕ → Front
standing time = record { node = node 1; time = time; offset = 0 }

abbrev offered : ℕ → ℕ → Offer
offered place cost = record { cost = cost; no = record { 0 = place + 1 }; place = place; at = record { i = 0; j = 0 }; leave = 12; arrive = 32 }

abbrev listed : Floor → Candidates
listed floor = record {
  base = 4;
  entries = record { place = 1; front = standing 0; best = None } ∷ record { place = 0; front = standing 0; best = Some (offered 0 34) } ∷ [];
  floor = floor;
}

abbrev pub standing_car : ℕ → Car
standing_car stamp = record { no = record { 0 = 1 }; plan = opened; stamp = stamp }

abbrev at_clock : ℕ → ℕ → ℕ → ℕ → Cars
at_clock clock a b c = record { rates = usual; clock = clock; version = 9; cars = standing_car a ∷ standing_car b ∷ standing_car c ∷ [] }

its_entry : option_map (λ (e : Candidate). e.best) (entry_of (listed All).entries 0) ≡ Some (Some (offered 0 34))
its_entry = refl

not_listed : entry_of (listed All).entries 2 ≡ None
not_listed = refl

-- nothing changed: the stamp may be the base itself
none_anew : redone (at_clock 0 4 0 4) (listed All) ≡ 0
none_anew = refl

-- a schedule that changed after the base, listed or not
changed_anew : redone (at_clock 0 4 5 5) (listed All) ≡ 2
changed_anew = refl

-- a later clock moves the fronts of the two that are listed, and a vehicle that is changed as well counts once
moved_anew : redone (at_clock 3 5 4 4) (listed All) ≡ 2
moved_anew = refl

other_node : is_same_front (standing 0) (record { node = node 2; time = 0; offset = 0 }) ≡ false
other_node = refl

other_offset : is_same_front (standing 0) (record { node = node 1; time = 0; offset = 1 }) ≡ false
other_offset = refl

-- an offer that costs what the floor says is enough, and one that costs more isn't
enough : Decides (listed (Above 34))
enough = (offered 0 34, (1, record { place = 0; front = standing 0; best = Some (offered 0 34) }, refl, refl), lit≤ tt)

enough_by_test : is_decided (Above 34) (Some (offered 0 34)) ≡ true
enough_by_test = refl

too_dear : is_decided (Above 33) (Some (offered 0 34)) ≡ false
too_dear = refl

without_offer : is_decided (Above 33) None ≡ false
without_offer = refl

nothing_known : is_decided Nothing (Some (offered 0 34)) ≡ false
nothing_known = refl

all_known : Decides (record (listed All) { entries = [] })
all_known = tt
