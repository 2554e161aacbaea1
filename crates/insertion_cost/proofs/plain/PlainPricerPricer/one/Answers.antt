use Rattle.insertion_cost.proofs.plain.PlainPricerPricer.one.Goals as goal

pub returns-clause-best : goal.returns-clause-best
returns-clause-best g c =
    let are = c.in_ok-searches.ensures.searches in
    λ car h. (c.in_ok-entry.ensures c.args.self.now.graph.now are.to_pickup.is_reach.reached.graph are car h).best
