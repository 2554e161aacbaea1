use Rattle.std.specs.declared.cmp.Reverse.{Reverse}
use Rattle.std.proofs.lemmas.List.Sorted.{IsPermutation-map}
use Rattle.upward_search.specs.declared.slope.Label.{Label}
use Rattle.upward_search.proofs.IsNoLater.{first_of}
use Rattle.upward_search.proofs.waiting.Waiting.pop.Goals as goal

pub returns-clause-none : goal.returns-clause-none
returns-clause-none c = rw (← c.self.view_is) (IsPermutation-map (λ (r : Reverse Label). r.0) _ _ c.in_ok-first.ensures.permutation)

pub returns-clause-first : goal.returns-clause-first
returns-clause-first c = first_of c.in_ok-first.field-0 _ (c.in_ok-first.ensures.below_top c.self.invariant)
