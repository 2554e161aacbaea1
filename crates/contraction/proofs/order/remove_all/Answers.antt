use Rattle.std.proofs.Common.{◌∙◌, length, arith}
use Rattle.std.proofs.lemmas.List.Sorted.{length_permutation}
use Rattle.contraction.specs.Queues.{nodes_of}
use Rattle.contraction.proofs.IsWork.{rows_of_work}
use Rattle.contraction.proofs.AreWaiting.{all_wait, first_waits, fewer_wait, rows_for}
use Rattle.contraction.proofs.order.remove_all.Goals as goal

pub first_order-requires-clause-rows : goal.first_order-requires-clause-rows
first_order-requires-clause-rows c = rows_of_work c.args.graph.now c.args.work.now 0 c.requires

pub removing-init : goal.removing-init
removing-init c = record {
  work = c.requires;
  waiting = all_wait c.args.graph.now c.args.work.now (nodes_of c.in_ok-waiting.waiting) c.in_ok-waiting.ensures.nodes;
  marked = c.in_ok-waiting.ensures.marked;
  depths = c.in_ok-depths.ensures;
}

pub take_next-requires-clause-rows : goal.take_next-requires-clause-rows
take_next-requires-clause-rows c = rows_for c.args.graph.now c.removing.work c.removing.rank (length c.removing.depths.each.items) c.removing.invariant.work c.removing.invariant.depths

pub deepen-requires-clause-rows : goal.deepen-requires-clause-rows
deepen-requires-clause-rows c = rows_for c.args.graph.now c.removing.work c.removing.rank (length c.removing.depths.each.items) c.removing.invariant.work c.removing.invariant.depths

pub deepen-requires-clause-node : goal.deepen-requires-clause-node
deepen-requires-clause-node c =
    let n = first_waits c.args.graph.now c.removing.work c.removing.rank (nodes_of c.removing.waiting) (nodes_of c.take_next.new.waiting) c.in-Some.node c.removing.invariant.waiting (rw c.in-Some.is at c.in_ok-node.ensures.taken) in
    let l = n.0.1 in
    let d = c.removing.invariant.depths in
    omega arith

pub remove_next-requires-clause-node : goal.remove_next-requires-clause-node
remove_next-requires-clause-node c =
    (first_waits c.args.graph.now c.removing.work c.removing.rank (nodes_of c.removing.waiting) (nodes_of c.take_next.new.waiting) c.in-Some.node c.removing.invariant.waiting (rw c.in-Some.is at c.in_ok-node.ensures.taken)).0

pub remove_next-requires-clause-room : goal.remove_next-requires-clause-room
remove_next-requires-clause-room c =
    (first_waits c.args.graph.now c.removing.work c.removing.rank (nodes_of c.removing.waiting) (nodes_of c.take_next.new.waiting) c.in-Some.node c.removing.invariant.waiting (rw c.in-Some.is at c.in_ok-node.ensures.taken)).1

pub removing-smaller : goal.removing-smaller
removing-smaller c = let l = length_permutation (nodes_of c.removing.waiting) _ (rw c.in-Some.is at c.in_ok-node.ensures.taken) in omega arith

pub removing-preserved : goal.removing-preserved
removing-preserved c = record {
  work = c.in_ok-rank.ensures.work;
  waiting = fewer_wait c.args.graph.now c.removing.work c.remove_next.new.work c.removing.rank c.in_ok-rank.rank (nodes_of c.removing.waiting) (nodes_of c.take_next.new.waiting) c.in-Some.node
      c.removing.invariant.waiting (rw c.in-Some.is at c.in_ok-node.ensures.taken) c.in_ok-rank.ensures.next;
  marked = c.in_ok-rank.ensures.marked;
  depths = c.deepen.ensures ∙ c.removing.invariant.depths;
}
