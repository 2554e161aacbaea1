use Rattle.std.proofs.Common.{◌∙◌}
use Rattle.dimacs_reader.proofs.PlaceTable.{no_place}
use Rattle.dimacs_reader.proofs.places.Coordinates.placing.Goals as goal

pub returns-in_default-clause-says : goal.returns-in_default-clause-says
returns-in_default-clause-says c = λ nodes before n kept number east north is e s another.
    no_place nodes number _ before _ _ _ east north _ n kept (λ i h. c.in_default.ensures.none i (is ∙ h))
