use Rattle.dimacs_reader.specs.Calls.{IsFreeAt}
use Rattle.dimacs_reader.proofs.PlaceTable.{kept_as}
use Rattle.dimacs_reader.proofs.places.Coordinates.put_some.Goals as goal

pub returns-in-Some-clause-holds : goal.returns-in-Some-clause-holds
returns-in-Some-clause-holds c = λ nodes before kept.
    let free : IsFreeAt c.args.self.now c.in-Some.placing.index = rw c.in-Some.is at c.requires.free in
    kept_as nodes before _ _ _ _ _ _ c.in-Some.placing c.args.placing c.in-Some.is c.put.ensures.held c.put.ensures.placed c.put.ensures.count kept free.0 free.1
