use Rattle.std.proofs.Common.{subst, List}
use Rattle.std.specs.Prelude.{IfOk}
use Rattle.upward_search.specs.declared.slope.Arc.{Arc}
use Rattle.upward_search.specs.WaysBack.{IsWayBackFrom}
use Rattle.upward_search.proofs.levels.Levels.climbed_back.Goals as goal

pub returns : goal.returns
returns c = subst (λ (rows : List (List Arc)). IfOk c.climb_back.result (λ rungs. IsWayBackFrom rows c.args.space.now c.args.top rungs.items)) c.slopes.ensures.arcs c.climb_back.ensures
