use Rattle.std.proofs.Common.{◌≡◌, ◌+◌, ◌-◌, ◌*◌, ◌≤◌, ◌++◌}
use Rattle.city_gen.specs.Streams.{lines_from, ride_count}
use Rattle.city_gen.proofs.streams.make_lines.Given as goal

abbrev pub invariant-loop-place : goal.invariant-loop-place
invariant-loop-place l = record {
  lines : l.lines.items ++ lines_from (ride_count - l.place) (l.place + 1) l.now l.draws.state ≡ lines_from ride_count 1 0 l.fn.draws.state;
  early : l.now ≤ 11 * l.place;
}
