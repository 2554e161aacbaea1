use Rattle.std.proofs.Common.{◌+◌, refl}
use Rattle.std.proofs.lemmas.List.Sorted.{IsPermutation-map}
use Rattle.contraction.specs.declared.queue.Candidate.{Candidate}
use Rattle.contraction.specs.Queues.{nodes_of}
use Rattle.contraction.proofs.AreWaiting.{numbers_more}
use Rattle.contraction.proofs.order.first_order.Goals as goal

pub loop-number-preserved : goal.loop-number-preserved
loop-number-preserved c = record {
  nodes = numbers_more c.loop-number.number (nodes_of c.loop-number.waiting) (nodes_of c.push.new.self) (record { 0 = c.loop-number.number + 1 }) c.loop-number.invariant.nodes refl
      (IsPermutation-map (λ (c' : Candidate). c'.node) _ c.push.new.self c.in_ok-push.ensures);
  marked = rw (← c.requires.depths) c.in_ok-key.ensures;
}
