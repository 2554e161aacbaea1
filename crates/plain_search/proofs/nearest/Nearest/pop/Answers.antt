use Rattle.std.specs.declared.cmp.Reverse.{Reverse}
use Rattle.std.proofs.lemmas.List.Sorted.{IsPermutation-map}
use Rattle.plain_search.specs.declared.nearest.Candidate.{Candidate}
use Rattle.plain_search.proofs.Reversed.{nearest_of}
use Rattle.plain_search.proofs.nearest.Nearest.pop.Goals as goal

pub returns-clause-none : goal.returns-clause-none
returns-clause-none c = rw (← c.self.view_is) (IsPermutation-map (λ (r : Reverse Candidate). r.0) _ _ c.in_ok-nearest.ensures.permutation)

pub returns-clause-nearest : goal.returns-clause-nearest
returns-clause-nearest c = nearest_of c.in_ok-nearest.field-0 _ (c.in_ok-nearest.ensures.below_top c.self.invariant)
