use Rattle.std.proofs.Common.{◌∙◌, arith}
use Rattle.upward_search.specs.Ladders.{faced}
use Rattle.upward_search.proofs.AreRests.{rests_next}
use Rattle.upward_search.proofs.levels.Levels.rests.Goals as goal

pub loop-index-preserved : goal.loop-index-preserved
loop-index-preserved g c =
    let l = c.loop-index.invariant in
    record {
      rests = rests_next (faced c.args.way c.args.self.now) c.args.to c.args.space.now c.loop-index.rests.items c.loop-index.index c.in_ok-rest.rest l.rests (let a = c.loop-index-test.true in omega arith) (let a = c.loop-index-test.true in let b = c.loop-index.auto.index in omega arith) c.in_ok-rest.ensures.rest;
      asks = c.in_ok-rest.ensures.asks ∙ l.asks;
    }
