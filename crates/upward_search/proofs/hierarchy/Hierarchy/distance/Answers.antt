use Rattle.upward_search.proofs.Distance.{named, distance_said, steps_said, spent_said}
use Rattle.upward_search.proofs.hierarchy.Hierarchy.distance.Goals as goal

pub place-start-requires : goal.place-start-requires
place-start-requires g c = named c.self.inside.levels c.args.self.now c.self.view_is c.laws.ensures.places c.args.from c.requires.from

pub place-end-requires : goal.place-end-requires
place-end-requires g c = named c.self.inside.levels c.args.self.now c.self.view_is c.laws.ensures.places c.args.to c.requires.to

pub returns-clause-distance : goal.returns-clause-distance
returns-clause-distance g c = distance_said c.self.inside.levels c.args.self.now c.self.view_is c.laws.ensures.ladder c.laws.ensures.apart c.laws.ensures.places c.place-start.result c.place-end.result c.args.from c.args.to c.place-start.ensures.at c.place-end.ensures.at c.between.result c.between.ensures.least

pub returns-clause-steps : goal.returns-clause-steps
returns-clause-steps g c = steps_said c.self.inside.levels c.args.self.now c.self.view_is c.laws.ensures.ladder c.laws.ensures.apart c.laws.ensures.places c.place-start.result c.place-end.result c.args.from c.args.to c.place-start.ensures.at c.place-end.ensures.at c.args.steps.now.0 c.between.new.steps.0 c.between.result c.between.ensures.steps

pub returns-clause-spent : goal.returns-clause-spent
returns-clause-spent g c = spent_said c.self.inside.levels c.args.self.now c.self.view_is c.laws.ensures.ladder c.laws.ensures.apart c.laws.ensures.places c.place-start.result c.place-end.result c.args.from c.args.to c.place-start.ensures.at c.place-end.ensures.at c.args.steps.now.0 c.between.new.steps.0 c.between.result c.between.ensures.spent
