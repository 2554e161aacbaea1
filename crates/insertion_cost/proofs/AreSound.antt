use Rattle.std.proofs.Common.{◌≡◌, ℕ, ◌<◌, ◌≤◌, ◌⊎◌, inl, inr, Option, Some, None, length, sym, subst, arith}
use Rattle.std.specs.Prelude.{slice_get}
use Rattle.road_graph.specs.Roads.{Roads}
use Rattle.stop_schedule.specs.declared.request.Request.{Request}
use Rattle.stop_schedule.specs.declared.stop.Front.{Front}
use Rattle.stop_schedule.specs.Fleets.{Car, Cars}
use Rattle.stop_schedule.specs.Fronts.{front_of}
use Rattle.stop_schedule.specs.Plans.{Plan}
use Rattle.stop_schedule.specs.Rates.{Rates}
use Rattle.insertion_cost.specs.declared.candidates.Candidate.{Candidate}
use Rattle.insertion_cost.specs.declared.candidates.Candidates.{Candidates}
use Rattle.insertion_cost.specs.declared.candidates.Floor.{Floor}
use Rattle.insertion_cost.specs.declared.candidates.Floor.TheVariants.{Nothing, Above, All}
use Rattle.insertion_cost.specs.declared.offer.Offer.{Offer}
use Rattle.insertion_cost.specs.Offers.{HasPrice, IsOfferFrom, IsOfferNow, IsFirst, price_in}
use Rattle.insertion_cost.specs.Candidates.{entry_of, IsTrueOf, AreSound}
use Rattle.insertion_cost.specs.Laws.{IsNoCheaper}

-- no front makes an insertion cheaper than itself
pub no_cheaper-refl : (g : Roads) (rates : Rates) (r : Request) (p : Plan) (front : Front) → IsNoCheaper g rates r p front front
no_cheaper-refl g rates r p front at price' h = (price', h, omega arith)

-- A fleet after an entry: at a later version, and each vehicle has a stamp above the old version, or stands as before at a front from
-- which nothing is cheaper.
pub record IsLaterFleet (g : Roads) (r : Request) (old new : Cars) : Type 0 where
  pub rates : new.rates ≡ old.rates
  pub version : old.version ≤ new.version
  pub many : length new.cars ≡ length old.cars
  pub each : (place : ℕ) (car : Car) → slice_get new.cars place ≡ Some car
      → (old.version < car.stamp) ⊎ ((slice_get old.cars place ≡ Some car) × IsNoCheaper g old.rates r car.plan (front_of car.plan old.clock) (front_of car.plan new.clock))

module _ (g : Roads) (r : Request) (old new : Cars) (later : IsLaterFleet g r old new) where
  -- an offer of an unchanged vehicle was one before, at no higher cost
  offer_before : (place : ℕ) (car : Car) (o : Offer) → IsNoCheaper g old.rates r car.plan (front_of car.plan old.clock) (front_of car.plan new.clock) → IsOfferNow g new place car r o
      → (before : Offer) × IsOfferNow g old place car r before × (before.cost ≤ o.cost)
  offer_before place car o less f =
      let p = less o.at (price_in o) (subst (λ (x : Rates). HasPrice g x (front_of car.plan new.clock) car.plan r o.at (price_in o)) later.rates f.price) in
      let before : Offer = record o { cost = p.0.cost; leave = p.0.leave; arrive = p.0.arrive } in
      (before, record { there = f.there; numbered = f.numbered; price = p.1 }, p.2)

  -- what is said of it stays true
  true_still : (place : ℕ) (car : Car) (floor : Floor) (entry : Option Candidate) → IsNoCheaper g old.rates r car.plan (front_of car.plan old.clock) (front_of car.plan new.clock)
      → IsTrueOf g old r place car floor entry → IsTrueOf g new r place car floor entry
  true_still place car floor (Some e) less t = subst (λ (x : Rates). IsFirst (IsOfferFrom g x place car e.front r) e.best) (sym later.rates) t
  true_still place car Nothing None less t = tt
  true_still place car (Above x) None less t = λ o f. let b = offer_before place car o less f in let more = t b.0 b.1 in let l = b.2 in omega arith
  true_still place car All None less t = λ o f. let b = offer_before place car o less f in t b.0 b.1

  -- Sound candidates are sound for the later fleet.
  pub sound_still : (c : Candidates) → AreSound g old r c → AreSound g new r c
  sound_still c s = record {
    base = (let a = s.base in let b = later.version in omega arith);
    within = λ k e h. subst (λ (n : ℕ). e.place < n) (sym later.many) (s.within k e h);
    once = s.once;
    true_of = λ place car h l. on place car l (later.each place car h);
  }
    where
      on : (place : ℕ) (car : Car) → car.stamp ≤ c.base
          → (old.version < car.stamp) ⊎ ((slice_get old.cars place ≡ Some car) × IsNoCheaper g old.rates r car.plan (front_of car.plan old.clock) (front_of car.plan new.clock))
          → IsTrueOf g new r place car c.floor (entry_of c.entries place)
      on place car l (inl more) = absurd (let a = s.base in omega arith)
      on place car l (inr same) = true_still place car c.floor (entry_of c.entries place) same.1 (s.true_of place car same.0 l)
