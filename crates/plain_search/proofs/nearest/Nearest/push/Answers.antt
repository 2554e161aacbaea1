use Rattle.std.specs.declared.cmp.Reverse.{Reverse}
use Rattle.std.proofs.lemmas.List.Sorted.{IsPermutation-map}
use Rattle.plain_search.specs.declared.nearest.Candidate.{Candidate}
use Rattle.plain_search.proofs.nearest.Nearest.push.Goals as goal

pub returns : goal.returns
returns c = rw (← c.self.view_is) (IsPermutation-map (λ (r : Reverse Candidate). r.0) _ _ c.in_ok-push.ensures.permutation)
