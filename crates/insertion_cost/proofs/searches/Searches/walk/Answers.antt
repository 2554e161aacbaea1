use Rattle.std.proofs.Common.{◌∙◌, sym}
use Rattle.std.proofs.lemmas.Bool.{eqb-true}
use Rattle.insertion_cost.proofs.WholeReach.{walk_to, walk_from}
use Rattle.insertion_cost.proofs.searches.Searches.walk.Goals as goal

pub returns-then-eq-clause-walk : goal.returns-then-eq-clause-walk
returns-then-eq-clause-walk g c = walk_to c.args.graph.now c.args.request.now.pickup c.args.from c.args.to c.args.self.now.to_pickup c.walk.result c.requires.searches.to_pickup (eqb-true _ _ (sym c.eq.ensures ∙ c.if-eq.true)) c.walk.ensures.walk

pub returns-then-eq-2-clause-walk : goal.returns-then-eq-2-clause-walk
returns-then-eq-2-clause-walk g c = walk_from c.args.graph.now c.args.request.now.pickup c.args.to c.args.from c.args.self.now.from_pickup c.walk-then-eq-2.result c.requires.searches.from_pickup (eqb-true _ _ (sym c.eq-else-eq.ensures ∙ c.if-eq-2.true)) c.walk-then-eq-2.ensures.walk

pub returns-then-eq-3-clause-walk : goal.returns-then-eq-3-clause-walk
returns-then-eq-3-clause-walk g c = walk_to c.args.graph.now c.args.request.now.dropoff c.args.from c.args.to c.args.self.now.to_dropoff c.walk-then-eq-3.result c.requires.searches.to_dropoff (eqb-true _ _ (sym c.eq-else-eq-2.ensures ∙ c.if-eq-3.true)) c.walk-then-eq-3.ensures.walk

pub returns-then-eq-4-clause-walk : goal.returns-then-eq-4-clause-walk
returns-then-eq-4-clause-walk g c = walk_from c.args.graph.now c.args.request.now.dropoff c.args.to c.args.from c.args.self.now.from_dropoff c.walk-then-eq-4.result c.requires.searches.from_dropoff (eqb-true _ _ (sym c.eq-else-eq-3.ensures ∙ c.if-eq-4.true)) c.walk-then-eq-4.ensures.walk
