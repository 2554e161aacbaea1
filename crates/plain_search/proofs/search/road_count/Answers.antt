use Rattle.road_graph.proofs.WalkLaws.{turned_ins}
use Rattle.plain_search.proofs.search.road_count.Goals as goal

pub returns-in-From : goal.returns-in-From
returns-in-From c = rw (c.in-From.is, turned_ins c.args.graph.now c.args.node) c.out_count.ensures.count
