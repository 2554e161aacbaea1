use Rattle.std.proofs.Common.{◌+◌}
use Rattle.contraction.specs.Queues.{nodes_of}
use Rattle.contraction.specs.Searching.{IsMarked}
use Rattle.contraction.specs.Working.{AreNumbers}
use Rattle.contraction.proofs.order.first_order.Given as goal

abbrev pub invariant-loop-number : goal.invariant-loop-number
invariant-loop-number l = record {
  nodes : AreNumbers l.number (nodes_of l.waiting);
  marked : IsMarked (l.graph.nodes + 1) l.search;
}
