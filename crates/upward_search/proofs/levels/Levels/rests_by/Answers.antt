use Rattle.upward_search.proofs.AreListed.{rests_said}
use Rattle.upward_search.proofs.levels.Levels.rests_by.Goals as goal

pub returns-clause-rests : goal.returns-clause-rests
returns-clause-rests g c =
    rests_said c.args.way c.args.self.now c.in_ok-labels.ensures.ladder c.place.result c.args.node c.place.ensures.at c.in_ok-labels.labels.items c.as_slice-2.result.now c.as_slice-2.ensures.value c.args.space.now c.as_slice.result.now c.as_slice.ensures c.in_ok-labels.ensures.are c.rests.result c.rests.ensures.rests
