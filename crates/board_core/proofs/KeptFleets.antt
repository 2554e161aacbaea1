use Rattle.std.proofs.Common.{◌≡◌, ℕ, zero, suc, List, [], ◌∷◌, map, Some, sym, refl, ap, ◌∙◌, subst}
use Rattle.std.specs.Prelude.{slice_get, slice_set}
use Rattle.road_graph.specs.Roads.{Roads}
use Rattle.stop_schedule.specs.Fleets.{Car, Cars, Fitting, FitsChanged, IsChange, plans_of}
use Rattle.stop_schedule.specs.Plans.{Plan}
use Rattle.board_core.specs.BoardKept.{IsAmong, IsKeptPlan, IsKeptFleet, next_arrival, next_arrivals}
use Rattle.board_core.specs.Changes.{IsCarFor}
use Rattle.board_core.proofs.Each.{each_set}
use Rattle.board_core.proofs.Lookups.{map_at}

-- What a board's fleet meets as one of its schedules changes.

-- a mapped list with one element written
pub map_set : {X Y : Type 0} (f : X → Y) (xs : List X) (i : ℕ) (x : X) → map f (slice_set xs i x) ≡ slice_set (map f xs) i (f x)
map_set f [] i x = refl
map_set f (y ∷ xs) zero x = refl
map_set {Y = Y} f (y ∷ xs) (suc i) x = ap (λ (l : List Y). f y ∷ l) (map_set f xs i x)

-- one schedule of a fleet may give way to another that keeps and is of nodes
pub change_of : (Fits : Fitting) (nodes : ℕ) (fleet : Cars) (arrivals : List ℕ) (place : ℕ) (car : Car) (new : Plan) → IsKeptFleet Fits nodes fleet arrivals → slice_get fleet.cars place ≡ Some car
    → IsKeptPlan nodes fleet.rates fleet.clock new → IsChange Fits fleet.rates place car.plan new
change_of Fits nodes fleet arrivals place car new h e k = record {
  graph = h.graph;
  plans = plans_of fleet;
  fits = h.fits;
  stands = map_at (λ (c : Car). c.plan) fleet.cars place car e;
  kept = (h.plans place car e).kept;
  keeps_on = k.kept;
  within = record {
    place = subst (λ (n : ℕ). IsAmong n new.place) (sym h.many) k.place;
    stops = λ m s q. subst (λ (n : ℕ). IsAmong n s.node) (sym h.many) (k.stops m s q);
  };
}

-- the index goes along wherever it fitted
pub fits_set : (Before After : Fitting) (fleet : Cars) (place : ℕ) (old new : Car) → slice_get fleet.cars place ≡ Some old → FitsChanged Before After fleet.rates place old.plan new.plan
    → (g : Roads) → Before g fleet.rates (plans_of fleet) → After g fleet.rates (map (λ (c : Car). c.plan) (slice_set fleet.cars place new))
fits_set Before After fleet place old new e f g h = subst (After g fleet.rates) (sym (map_set (λ (c : Car). c.plan) fleet.cars place new))
    (f g (plans_of fleet) h (map_at (λ (c : Car). c.plan) fleet.cars place old e))

-- the fleet with another vehicle in a place
abbrev pub with_changed : Cars → ℕ → ℕ → Car → Cars
with_changed fleet version place car = record fleet { version = version; cars = slice_set fleet.cars place car }

-- it meets what it met before
pub changed_kept : (Before After : Fitting) (nodes : ℕ) (fleet : Cars) (arrivals : List ℕ) (version place : ℕ) (old new : Car) (next : ℕ) → IsKeptFleet Before nodes fleet arrivals → slice_get fleet.cars place ≡ Some old
    → IsCarFor Before After nodes fleet place old new next → IsKeptFleet After nodes (with_changed fleet version place new) (slice_set arrivals place next)
changed_kept Before After nodes fleet arrivals version place old new next h e c = record {
  graph = h.graph;
  many = h.many;
  fits = fits_set Before After fleet place old new e c.fits h.graph h.fits;
  clock = h.clock;
  plans = each_set (λ (car : Car). IsKeptPlan nodes fleet.rates fleet.clock car.plan) fleet.cars place new c.kept h.plans;
  next = both h.next c.next_is ∙ sym (map_set (λ (car : Car). next_arrival fleet.rates car.plan) fleet.cars place new);
}
  where
    both : arrivals ≡ next_arrivals fleet → next ≡ next_arrival fleet.rates new.plan → slice_set arrivals place next ≡ slice_set (next_arrivals fleet) place (next_arrival fleet.rates new.plan)
    both a b = cc
