use Rattle.std.proofs.Common.{ap, subst}
use Rattle.upward_search.specs.Ladders.{Ladder, ArePlaces}
use Rattle.upward_search.proofs.AreListed.{apart_of}
use Rattle.upward_search.proofs.levels.Levels.laws.Goals as goal

pub returns-clause-apart : goal.returns-clause-apart
returns-clause-apart c = apart_of c.args.self.now c.self.inside.nodes c.self.inside.places (ap (λ (h : Ladder). h.nodes) c.self.view_is) c.self.invariant.1

pub returns-clause-places : goal.returns-clause-places
returns-clause-places c = subst (λ (h : Ladder). ArePlaces h.nodes h.places) c.self.view_is c.self.invariant.1
