use Rattle.std.specs.Prelude.{◌≡◌, ℕ, length}
use Rattle.road_graph.specs.Roads.{Roads}
use Rattle.stop_schedule.specs.declared.views.NoIndex.{NoIndex}
use Rattle.interleave_core.specs.declared.world.World.{World}
use Rattle.interleave_core.specs.Worlds.{IsWorldOver}

-- a world without an index is over a graph, and has so many actors
pub record IsReady (g : Roads) (actors : ℕ) (w : World NoIndex) : Type 0 where
  pub over : IsWorldOver (λ (index : NoIndex) graph rates plans. Unit {0}) g w
  pub many : length w.actors.items ≡ actors
