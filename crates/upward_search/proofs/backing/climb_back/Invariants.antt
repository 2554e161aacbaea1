use Rattle.std.proofs.Common.{get_or}
use Rattle.upward_search.specs.declared.slope.Label.{Label}
use Rattle.upward_search.specs.WaysBack.{IsBack}
use Rattle.upward_search.proofs.backing.climb_back.Given as goal

abbrev no_label : Label
no_label = record { place = 0; length = 0 }

abbrev pub invariant-loop-index : goal.invariant-loop-index
invariant-loop-index l = IsBack l.slopes l.space (get_or l.space l.top no_label) l.index l.at l.rungs.items
