use Rattle.std.proofs.Common.{◌≡◌, ◌∷◌, take, map}
use Rattle.stop_schedule.specs.declared.stop.Stop.{Stop}
use Rattle.insertion_cost.specs.Searches.{ways_at}
use Rattle.insertion_cost.proofs.searches.gather.Given as goal

abbrev pub invariant-loop-stop : goal.invariant-loop-stop
invariant-loop-stop l = l.ways.items ≡ ways_at l.searches l.front.node ∷ map (λ (t : Stop). ways_at l.searches t.node) (take l.stop-index l.stops)
