use Rattle.dispatch_top.proofs.Dispatchers.{goes_still}
use Rattle.dispatch_top.proofs.dispatcher.DispatcherAnswerer.finish.Goals as goal

pub returns-clause-goes : goal.returns-clause-goes
returns-clause-goes g c = goes_still c.args.self.now c.args._text.now.items c.requires.empty
