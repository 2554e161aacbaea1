use Rattle.upward_search.specs.Ladders.{faced}
use Rattle.upward_search.proofs.AreRests.{rest_known}
use Rattle.upward_search.proofs.levels.Levels.rest_of_end.Goals as goal

pub returns-in-Some-clause-rest : goal.returns-in-Some-clause-rest
returns-in-Some-clause-rest g c = rest_known (faced c.args.way c.args.self.now) c.args.to _ c.args.space.now c.args.rests.now c.args.index c.args.end c.in-Some.at (record { place = 0; length = 0 }) c.requires.space c.requires.index (c.requires.higher _) c.requires.rests c.in-Some.ensures
