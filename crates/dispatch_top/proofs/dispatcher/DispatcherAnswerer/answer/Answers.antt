use Rattle.std.proofs.Common.{refl}
use Rattle.dispatch_top.proofs.Answered.{on_ok}
use Rattle.dispatch_top.proofs.Dispatchers.{few_sums, goes_on, is_ready, prices}
use Rattle.dispatch_top.proofs.dispatcher.DispatcherAnswerer.answer.Goals as goal

pub answer_said-requires-clause-prices : goal.answer_said-requires-clause-prices
answer_said-requires-clause-prices g c = prices c.args.self.now c.requires.ready

pub answer_said-requires-clause-ready : goal.answer_said-requires-clause-ready
answer_said-requires-clause-ready g c = is_ready c.args.self.now c.requires.ready

pub answer_said-requires-clause-few : goal.answer_said-requires-clause-few
answer_said-requires-clause-few g c = few_sums c.args.self.now c.requires.ready

pub returns : goal.returns
returns g c = on_ok c.answer_said.result (λ a. goes_on c.args.self.now _ _ c.answer_said.new.text.items c.histories_are_good.ensures refl c.answer_said.ensures.same a) c.answer_said.ensures.answered
