use Rattle.std.proofs.Common.{ap, arith, length}
use Rattle.road_graph.proofs.WalkLaws.{turned_ins}
use Rattle.plain_search.proofs.search.road_at.Goals as goal

pub out_road-requires-clause-index : goal.out_road-requires-clause-index
out_road-requires-clause-index g c =
    let same = ap length (turned_ins c.args.graph.now c.args.node) in
    let below = rw c.in-From.is at c.requires.index in
    omega arith

pub returns-in-From-clause-road : goal.returns-in-From-clause-road
returns-in-From-clause-road g c = rw (c.in-From.is, turned_ins c.args.graph.now c.args.node) c.out_road.ensures.road
