use Rattle.insertion_cost.proofs.ChangedWalks.{ends_are_nodes, walk_is_there, walk_is_least}
use Rattle.insertion_cost.proofs.plain.walk_between.Goals as goal

pub walk_found-requires-clause-from : goal.walk_found-requires-clause-from
walk_found-requires-clause-from g c = let ends = ends_are_nodes c.args.graph.now c.nodes.ensures.kept c.args.from c.args.to c.requires.there in ends.0

pub walk_found-requires-clause-to : goal.walk_found-requires-clause-to
walk_found-requires-clause-to g c = let ends = ends_are_nodes c.args.graph.now c.nodes.ensures.kept c.args.from c.args.to c.requires.there in ends.1

pub unwrap-requires : goal.unwrap-requires
unwrap-requires g c = walk_is_there c.args.graph.now c.args.from c.args.to c.in_ok-walk.walk c.requires.there c.in_ok-walk.ensures.walk

pub returns-clause-walk : goal.returns-clause-walk
returns-clause-walk g c = walk_is_least c.args.graph.now c.args.from c.args.to c.in_ok-walk.walk c.unwrap.result c.unwrap.ensures c.in_ok-walk.ensures.walk
