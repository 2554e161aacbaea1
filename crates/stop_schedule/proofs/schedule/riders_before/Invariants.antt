use Rattle.std.proofs.Common.{◌≡◌, ◌≤◌, ◌+◌, ◌*◌, drop}
use Rattle.std.specs.Prelude.{sum_by}
use Rattle.stop_schedule.specs.Times.{getting_on, getting_off}
use Rattle.stop_schedule.proofs.Aboard.{at_kind}
use Rattle.stop_schedule.proofs.schedule.riders_before.Given as goal

abbrev pub invariant-loop-stop : goal.invariant-loop-stop
invariant-loop-stop l = record {
  off : l.off + sum_by (at_kind (getting_off l.seat)) (drop l.stop-index l.stops) ≡ sum_by (at_kind (getting_off l.seat)) l.stops;
  on : l.on + sum_by (at_kind (getting_on l.seat)) (drop l.stop-index l.stops) ≡ sum_by (at_kind (getting_on l.seat)) l.stops;
  few_off : l.off ≤ 16 * l.stop-index;
  few_on : l.on ≤ 16 * l.stop-index;
}
