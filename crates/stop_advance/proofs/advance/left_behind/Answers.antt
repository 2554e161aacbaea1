use Rattle.stop_advance.proofs.Reached.{part_of}
use Rattle.stop_advance.proofs.advance.left_behind.Goals as goal

pub from_parts-requires-clause-small : goal.from_parts-requires-clause-small
from_parts-requires-clause-small c = λ i s h. c.stops.ensures.bounded.stops _ s (rw c.stops.ensures.value at (part_of c.stops.result.now c.args.reached _ i s h))

pub from_parts-requires-clause-short : goal.from_parts-requires-clause-short
from_parts-requires-clause-short c = λ i leg h. c.legs.ensures.bounded.legs _ leg (rw c.legs.ensures.value at (part_of c.legs.result.now c.args.reached _ i leg h))
