use Rattle.std.proofs.Common.{◌≡◌, ◌+◌, length}
use Rattle.contraction.specs.Queues.{nodes_of}
use Rattle.contraction.specs.Searching.{IsMarked}
use Rattle.contraction.specs.Working.{IsWork, AreWaiting}
use Rattle.contraction.proofs.order.remove_all.Given as goal

abbrev pub invariant-removing : goal.invariant-removing
invariant-removing l = record {
  work : IsWork l.graph l.rank l.work;
  waiting : AreWaiting l.graph l.work l.rank (nodes_of l.waiting);
  marked : IsMarked (l.graph.nodes + 1) l.search;
  depths : length l.depths.each.items ≡ l.graph.nodes + 1;
}

abbrev pub decreases-removing : goal.decreases-removing
decreases-removing l = length (nodes_of l.waiting)
