use Rattle.std.specs.Prelude.{◌≡◌, ℕ, ◌<◌, ◌≤◌, List, [], ◌∷◌, length, Some}
use Rattle.road_graph.specs.Graphs.{IsGraph}
use Rattle.road_graph.specs.Roads.{Roads}
use Rattle.stop_schedule.specs.declared.request.Request.{Request}
use Rattle.stop_schedule.specs.declared.stop.Front.{Front}
use Rattle.stop_schedule.specs.declared.stop.Insertion.{Insertion}
use Rattle.stop_schedule.specs.Fronts.{front_of}
use Rattle.stop_schedule.specs.Keeping.{HasLeastWalks}
use Rattle.stop_schedule.specs.Lists.{changed_ends}
use Rattle.stop_schedule.specs.Plans.{Plan, course_of}
use Rattle.stop_schedule.specs.Rates.{Rates}
use Rattle.stop_schedule.specs.Times.{arrives}
use Rattle.insertion_cost.specs.Offers.{HasPrice}
use Rattle.insertion_cost.specs.Prices.{Price, priced}

-- as many lengths, each at most the other
abbrev pub AreAtMost : List ℕ → List ℕ → Type 0
AreAtMost [] [] = Unit {0}
AreAtMost [] (y ∷ ys) = ⊥
AreAtMost (x ∷ xs) [] = ⊥
AreAtMost (x ∷ xs) (y ∷ ys) = (x ≤ y) × AreAtMost xs ys

-- With longer changed legs and the direct way as it is no insertion costs less, and none becomes feasible.
abbrev pub LongerLegsAreNoCheaper : Type 0
LongerLegsAreNoCheaper = (rates : Rates) (p : Plan) (front : Front) (r : Request) (at : Insertion) (direct : ℕ) (lengths longer : List ℕ) (dear : Price)
    → length p.legs ≡ length p.stops → length lengths ≡ length (changed_ends p.stops front r at) → AreAtMost lengths longer → priced rates p front r at direct longer ≡ Some dear
    → (price : Price) × (priced rates p front r at direct lengths ≡ Some price) × (price.cost ≤ dear.cost)

-- what has a price from the later front has one from the front, and costs no more there
abbrev pub IsNoCheaper : Roads → Rates → Request → Plan → (front later : Front) → Type 0
IsNoCheaper g rates r p front later = (at : Insertion) (dear : Price) → HasPrice g rates later p r at dear
    → (price : Price) × HasPrice g rates front p r at price × (price.cost ≤ dear.cost)

-- A later front of a schedule that stays as it is makes no insertion cheaper, and none feasible, as long as its next stop isn't reached.
abbrev pub LaterFrontsAreNoCheaper : Type 0
LaterFrontsAreNoCheaper = (g : Roads) → IsGraph g → (rates : Rates) (p : Plan) (r : Request) (now later : ℕ)
    → length p.legs ≡ length p.stops → HasLeastWalks g p → now ≤ later → (0 < length p.stops → later ≤ arrives rates.stop (course_of p) 1)
    → IsNoCheaper g rates r p (front_of p now) (front_of p later)
