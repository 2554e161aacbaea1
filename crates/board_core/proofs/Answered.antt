use Rattle.std.proofs.Common.{◌≡◌, ℕ, ◌<◌, ◌^◌, arith, Option, Some, None, sym, subst}
use Rattle.std.specs.Option.{unwrap_or}
use Rattle.road_graph.specs.Graphs.{IsGraph}
use Rattle.road_graph.specs.Roads.{Roads}
use Rattle.stop_schedule.specs.declared.request.Request.{Request}
use Rattle.stop_schedule.specs.Fleets.{Cars}
use Rattle.insertion_cost.specs.declared.decision.Assigned.{Assigned}
use Rattle.insertion_cost.specs.declared.decision.Decision.{Decision}
use Rattle.insertion_cost.specs.declared.decision.Decision.TheVariants.{Assigned as IsAssigned, Nobody}
use Rattle.insertion_cost.specs.NodeWays.{IsDistOrNone}
use Rattle.insertion_cost.specs.Pricers.{IsAnswerOf, IsBestPlan}
use Rattle.board_core.specs.declared.entry.Entry.TheVariants.{Commit}
use Rattle.board_core.specs.declared.waiting.Waiting.{Waiting}
use Rattle.board_core.specs.BoardCalls.{Commits, IsAnswerTo, IsDecisionFor, IsWaitingFor, MayApply}
use Rattle.board_core.specs.Boards.{Board}
use Rattle.board_core.specs.Laws.{AnswersArePossible, IsShortWay}
use Rattle.board_core.specs.Steps.{Step}

-- Answers of a fleet, given on a board.

answer_to : (g : Roads) (b : Board) (w : Waiting) (d : Decision) (direct : ℕ) → IsAnswerOf g b.fleet w.request d direct → IsAnswerTo g b w d direct
answer_to g b w Nobody direct told = told.1
answer_to g b w (IsAssigned a) direct told = told

short_direct : (g : Roads) (fleet : Cars) (r : Request) (d : Decision) (direct : ℕ) → IsAnswerOf g fleet r d direct → IsShortWay d direct → direct < 2 ^ 53
short_direct g fleet r Nobody direct told short = omega (arith, told.0)
short_direct g fleet r (IsAssigned a) direct told short = short

answers : (g : Roads) (b : Board) (r : Request) (d : Decision) (direct : ℕ) → (w : IsWaitingFor b r) → IsAnswerOf g b.fleet r d direct → IsAnswerTo g b w.0 d direct
answers g b r d direct w told = answer_to g b w.0 d direct (subst (λ (q : Request). IsAnswerOf g b.fleet q d direct) (sym w.2) told)

pub short_answer : (g : Roads) (b : Board) (r : Request) (d : Decision) (direct : ℕ) → AnswersArePossible → IsGraph g → g.nodes ≡ b.nodes → IsWaitingFor b r → IsAnswerOf g b.fleet r d direct → direct < 2 ^ 53
short_answer g b r d direct law graph nodes w told = short_direct g b.fleet r d direct told (law g b w.0 d direct graph nodes (answers g b r d direct w told)).1

pub possible_answer : (g : Roads) (b : Board) (r : Request) (d : Decision) (direct : ℕ) → AnswersArePossible → IsGraph g → g.nodes ≡ b.nodes → IsWaitingFor b r → IsAnswerOf g b.fleet r d direct → MayApply b r.no d direct
possible_answer g b r d direct law graph nodes w told = (w.0, w.1, (law g b w.0 d direct graph nodes (answers g b r d direct w told)).0)

pub lawful_answer : (g : Roads) (b new : Board) (r : Request) (d told : Decision) (direct : ℕ) → g.nodes ≡ b.nodes → IsWaitingFor b r → IsAnswerOf g b.fleet r d direct → Commits b r.no d direct new → told ≡ d
    → Step g b (Commit r.no told) new
lawful_answer g b new r d told direct nodes w answer commits same =
    subst (λ (x : Decision). Step g b (Commit r.no x) new) (sym same) (commits g w.0 nodes w.1 (answers g b r d direct w answer))

-- the direct way of an assignment is known
pub answer_by : (g : Roads) (fleet : Cars) (r : Request) (d : Decision) (a : Assigned) → d ≡ IsAssigned a → IsDecisionFor g fleet r d → (o : Option ℕ) → IsDistOrNone g r.pickup r.dropoff o
    → IsAnswerOf g fleet r d (unwrap_or o 0)
answer_by g fleet r d a is decided o h = subst (λ (x : Decision). IsAnswerOf g fleet r x (unwrap_or o 0)) (sym is) (on (subst (λ (x : Decision). IsDecisionFor g fleet r x) is decided) o h)
  where
    on : IsDecisionFor g fleet r (IsAssigned a) → (o : Option ℕ) → IsDistOrNone g r.pickup r.dropoff o → IsBestPlan g fleet r a (unwrap_or o 0)
    on plan None h = absurd (let walk = plan.1.direct_way.reached in h walk.0 plan.0 walk.1)
    on plan (Some x) h = record { best = plan.1.best; direct_way = h; walks = plan.1.walks }
