use Rattle.insertion_cost.proofs.HasPrice.{longer_legs, later_fronts}
use Rattle.insertion_cost.proofs.laws.prices_are_monotone.Goals as goal

pub returns : goal.returns
returns c = record { longer_legs = longer_legs; later_fronts = later_fronts }
