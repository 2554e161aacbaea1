use Rattle.dispatch_top.proofs.dispatcher.histories_are_good.Goals as goal

pub returns : goal.returns
returns c = record {
  kept = λ rates vehicles history last v legal. c.promises_are_kept.ensures.kept c.args.graph.now rates vehicles history last c.nodes.ensures.kept v legal;
  good = λ rates vehicles history last v early legal. c.fleets_stay_good.ensures c.args.graph.now rates vehicles history last c.nodes.ensures.kept v early legal;
}
