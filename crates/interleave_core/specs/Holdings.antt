use Rattle.std.specs.Prelude.{◌≡◌, Bool, true, false, Option, Some, None}
use Rattle.ride_base.specs.declared.numbers.RequestNo.{RequestNo}
use Rattle.road_graph.specs.Roads.{Roads}
use Rattle.stop_schedule.specs.declared.request.Request.{Request}
use Rattle.stop_schedule.specs.Fleets.{Cars}
use Rattle.insertion_cost.specs.declared.candidates.Candidates.{Candidates}
use Rattle.insertion_cost.specs.declared.decision.Decision.{Decision}
use Rattle.insertion_cost.specs.Candidates.{AreFresh, Decides}
use Rattle.commit_check.specs.Settled.{IsDecision}
use Rattle.board_core.specs.declared.fleet.Fleet.{Fleet}
use Rattle.board_core.specs.declared.waiting.Waiting.{Waiting}
use Rattle.board_core.specs.Boards.{Board, waiting_of}
use Rattle.board_core.specs.FleetViews.{cars_of}
use Rattle.interleave_core.specs.declared.holding.Holding.TheVariants.{Nothing, Claimed, Priced}
use Rattle.interleave_core.specs.States.{Holding}

-- What is asked of an actor before an event, by what it holds.

-- it holds nothing
abbrev pub is_free : {I : Type 0} → Option (Holding I) → Bool
is_free (Some Nothing) = true
is_free held = false

-- the number of the request that it holds, priced or not
abbrev pub number_held : {I : Type 0} → Option (Holding I) → Option RequestNo
number_held (Some (Claimed r fleet)) = Some r.no
number_held (Some (Priced r c)) = Some r.no
number_held held = None

-- it holds no claim that is still to be priced
abbrev pub HasNoneUnpriced : {I : Type 0} → Option (Holding I) → Type 0
HasNoneUnpriced (Some (Claimed r fleet)) = ⊥
HasNoneUnpriced held = Unit {0}

-- it holds no claim that is priced
abbrev pub HasNonePriced : {I : Type 0} → Option (Holding I) → Type 0
HasNonePriced (Some (Priced r c)) = ⊥
HasNonePriced held = Unit {0}

-- candidates of its claim, on the fleet that it kept, where it holds a claim that isn't priced
abbrev pub IsPricedBy : {I : Type 0} → Roads → Option (Holding I) → Option (Request × Candidates)
    → Type 0
IsPricedBy g held None = HasNoneUnpriced held
IsPricedBy {I = I} g held (Some (r, c)) =
    (fleet : Fleet I) × (held ≡ Some (Claimed r fleet)) × AreFresh g (cars_of fleet) r c × Decides c

-- the answer of a fleet to the request that it priced, where it holds one
abbrev pub IsSettledBy : {I : Type 0} → Roads → Cars → Option (Holding I)
    → Option (Request × Decision) → Type 0
IsSettledBy g fleet held None = HasNonePriced held
IsSettledBy g fleet held (Some (r, d)) =
    (c : Candidates) × (held ≡ Some (Priced r c)) × IsDecision g fleet r d

-- the request waits, whoever holds it
abbrev pub IsWaitingFor : Board → Request → Type 0
IsWaitingFor b r = (w : Waiting) × (waiting_of b r.no ≡ Some w) × (w.request ≡ r)
