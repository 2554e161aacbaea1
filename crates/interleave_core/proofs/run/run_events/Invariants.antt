use Rattle.std.proofs.Common.{◌≡◌, ◌+◌, ◌≤◌, length, take}
use Rattle.board_core.specs.BoardViews.{board_of}
use Rattle.interleave_core.specs.Worlds.{HasPlayed, IsWorldOver, KeepsSoundness}
use Rattle.interleave_core.proofs.run.run_events.Given as goal

abbrev pub invariant-loop-at : goal.invariant-loop-at
invariant-loop-at g l = record {
  played : HasPlayed (g.P.Pricer.graph l.pricer) l.fn.world (take l.at l.events) l.world;
  sound : KeepsSoundness (g.P.Pricer.graph l.pricer) l.fn.world l.world;
  over : IsWorldOver g.I.FleetIndex.fits (g.P.Pricer.graph l.pricer) l.world;
  many : length l.world.actors.items ≡ length l.fn.world.actors.items;
  version : (board_of l.world.board).fleet.version ≤ (board_of l.fn.world.board).fleet.version + l.at;
  steps : l.fn.steps.0 ≤ l.steps.0;
  asks : l.fn.steps.1 ≤ l.steps.1;
}
