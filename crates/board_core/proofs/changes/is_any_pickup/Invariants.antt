use Rattle.std.proofs.Common.{◌≡◌, drop}
use Rattle.std.specs.List.{list_any}
use Rattle.stop_schedule.specs.Keeping.{picks_up}
use Rattle.board_core.proofs.changes.is_any_pickup.Given as goal

abbrev pub invariant-loop-stop : goal.invariant-loop-stop
invariant-loop-stop l = list_any (picks_up l.no) (drop l.stop-index l.stops) ≡ list_any (picks_up l.no) l.stops
