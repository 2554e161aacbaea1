use Rattle.contraction.proofs.IsWork.{empty_more}
use Rattle.contraction.proofs.work.empty_rows.Goals as goal

pub empty-preserved : goal.empty-preserved
empty-preserved c = empty_more c.empty.counter c.empty.rows.items c.push.new.self.items c.new.result c.empty.invariant c.new.ensures c.in_ok-push.ensures.items
