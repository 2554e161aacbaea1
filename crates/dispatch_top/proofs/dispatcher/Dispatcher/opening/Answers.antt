use Rattle.std.proofs.Common.{refl, ◌∙◌}
use Rattle.dispatch_top.proofs.Dispatchers.{opened}
use Rattle.dispatch_top.proofs.dispatcher.Dispatcher.opening.Goals as goal

pub returns : goal.returns
returns c =
    opened c.args.texts.now.graph c.args.params c.args.texts.now.vehicles _ c.histories_are_good.ensures c.requires refl c.new.ensures
    (c.in_ok-board.ensures.value ∙ rw (c.nodes.ensures.nodes, c.as_slice-vehicles.ensures) refl) c.new-2.ensures
