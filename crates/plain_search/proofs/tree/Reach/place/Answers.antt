use Rattle.plain_search.proofs.DistanceOf.{place_tells}
use Rattle.plain_search.proofs.tree.Reach.place.Goals as goal

pub returns : goal.returns
returns c =
    rw (← c.self.view_is) (place_tells c.self.inside.listed c.self.inside.marks c.self.invariant.0 c.args.node c.at.result c.place_of.result c.at.ensures c.place_of.ensures)
