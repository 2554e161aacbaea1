use Rattle.std.proofs.Common.{length}
use Rattle.std.specs.Prelude.{IsPermutation}
use Rattle.contraction.specs.Queues.{nodes_of}
use Rattle.contraction.specs.Searching.{IsMarked}
use Rattle.contraction.proofs.order.take_next.Given as goal

abbrev pub invariant-trying : goal.invariant-trying
invariant-trying l = record {
  same : IsPermutation (nodes_of l.fn.waiting) (nodes_of l.waiting);
  marked : IsMarked (length l.depths.each.items) l.search;
}
