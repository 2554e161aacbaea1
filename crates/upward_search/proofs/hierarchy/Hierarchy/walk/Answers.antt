use Rattle.upward_search.proofs.Distance.{named, fits_levels}
use Rattle.upward_search.proofs.hierarchy.Hierarchy.walk.Goals as goal

pub walk-requires-clause-fits : goal.walk-requires-clause-fits
walk-requires-clause-fits g c = fits_levels c.self.inside.levels c.args.self.now c.self.view_is c.laws.ensures.ladder c.laws.ensures.apart c.laws.ensures.places c.args.graph.now c.nodes.ensures.kept c.requires.fits

pub walk-requires-clause-from : goal.walk-requires-clause-from
walk-requires-clause-from g c = named c.self.inside.levels c.args.self.now c.self.view_is c.laws.ensures.places c.args.from c.requires.from

pub walk-requires-clause-to : goal.walk-requires-clause-to
walk-requires-clause-to g c = named c.self.inside.levels c.args.self.now c.self.view_is c.laws.ensures.places c.args.to c.requires.to
