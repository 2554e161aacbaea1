use Rattle.std.proofs.Common.{length}
use Rattle.contraction.proofs.AreWaiting.{taken_first, taken_below, put_back, none_taken}
use Rattle.contraction.proofs.order.take_next.Goals as goal

pub returns-in_default-clause-taken : goal.returns-in_default-clause-taken
returns-in_default-clause-taken c = none_taken c.args.waiting.now c.trying.waiting c.trying.invariant.same c.in_default.ensures.taken

pub cost-requires-clause-node : goal.cost-requires-clause-node
cost-requires-clause-node c = taken_below (length c.args.depths.now.each.items) c.args.waiting.now c.trying.waiting c.in-Some.first c.pop.new.self c.trying.invariant.same c.in-Some.ensures.taken c.requires.nodes

pub returns-then-is_least-clause-taken : goal.returns-then-is_least-clause-taken
returns-then-is_least-clause-taken c = taken_first c.args.waiting.now c.trying.waiting c.in-Some.first c.pop.new.self c.trying.invariant.same c.in-Some.ensures.taken

pub trying-preserved : goal.trying-preserved
trying-preserved c = record {
  same = put_back c.args.waiting.now c.in-Some.first c.pop.new.self c.in_ok-key.key c.push.new.self (taken_first c.args.waiting.now c.trying.waiting c.in-Some.first c.pop.new.self c.trying.invariant.same c.in-Some.ensures.taken) c.in_ok-push.ensures;
  marked = c.in_ok-key.ensures;
}

pub returns-in_default-pop-clause-taken : goal.returns-in_default-pop-clause-taken
returns-in_default-pop-clause-taken c = none_taken c.args.waiting.now c.trying.waiting c.trying.invariant.same c.in_default-pop.ensures.taken

pub returns-clause-taken : goal.returns-clause-taken
returns-clause-taken c = taken_first c.args.waiting.now c.trying.waiting c.in-Some-pop.first c.pop-2.new.self c.trying.invariant.same c.in-Some-pop.ensures.taken
