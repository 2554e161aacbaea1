use Rattle.std.proofs.Common.{◌≡◌, ◌+◌, ◌*◌, ◌≤◌, take}
use Rattle.insertion_cost.specs.Changes.{party, boarding, alighting}
use Rattle.insertion_cost.proofs.driving.riders_of.Given as goal

abbrev pub invariant-loop-stop : goal.invariant-loop-stop
invariant-loop-stop l = record {
  on : l.riders.on ≡ boarding l.seat (take l.stop-index l.stops) + party l.seat l.request;
  off : l.riders.off ≡ alighting l.seat (take l.stop-index l.stops) + party l.seat l.request;
  few_on : boarding l.seat (take l.stop-index l.stops) ≤ 16 * l.stop-index;
  few_off : alighting l.seat (take l.stop-index l.stops) ≤ 16 * l.stop-index;
}
