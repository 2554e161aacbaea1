use Rattle.std.specs.declared.cmp.Reverse.{Reverse}
use Rattle.std.proofs.lemmas.List.Sorted.{IsPermutation-map}
use Rattle.contraction.specs.declared.queue.Candidate.{Candidate}
use Rattle.contraction.proofs.queue.Queue.pop.Goals as goal

pub returns-clause-taken : goal.returns-clause-taken
returns-clause-taken c = rw (← c.self.view_is) (IsPermutation-map (λ (r : Reverse Candidate). r.0) _ _ c.in_ok-first.ensures.permutation)
