use Rattle.stop_schedule.specs.Lists.{new_course}
use Rattle.insertion_cost.specs.Spans.{lengths_of}
use Rattle.insertion_cost.proofs.DriveAlong.{IsAlong}
use Rattle.insertion_cost.proofs.driving.drive_along.Given as goal

abbrev pub invariant-loop-k : goal.invariant-loop-k
invariant-loop-k l = IsAlong l.params l.schedule l.at (new_course l.schedule l.front l.request l.at (lengths_of l.spans)) l.k l.departure l.halt l.on_seats l.in_spaces l.drive
