use Rattle.std.proofs.Common.{sym, subst}
use Rattle.upward_search.specs.Hierarchies.{Ranking}
use Rattle.upward_search.specs.Spaces.{AreRankedNodes}
use Rattle.upward_search.proofs.Distance.{named, fits_levels}
use Rattle.upward_search.proofs.ForwardSpace.{rising_places}
use Rattle.upward_search.proofs.hierarchy.Hierarchy.rest_from.Goals as goal

pub rests_by-requires-clause-rises : goal.rests_by-requires-clause-rises
rests_by-requires-clause-rises g c = rising_places c.self.inside.levels c.laws.ensures.ladder c.laws.ensures.apart c.laws.ensures.places c.args.space.now (subst (λ (h : Ranking). AreRankedNodes h c.args.space.now) (sym c.self.view_is) c.requires.space)

pub rests_by-requires-clause-node : goal.rests_by-requires-clause-node
rests_by-requires-clause-node g c = named c.self.inside.levels c.args.self.now c.self.view_is c.laws.ensures.places c.args.from c.requires.from

pub returns-clause-rests : goal.returns-clause-rests
returns-clause-rests x c = λ g lawful fit. rw c.from_vec.ensures (c.in_ok-rests.ensures.rests g (fits_levels c.self.inside.levels c.args.self.now c.self.view_is c.laws.ensures.ladder c.laws.ensures.apart c.laws.ensures.places g lawful fit))
