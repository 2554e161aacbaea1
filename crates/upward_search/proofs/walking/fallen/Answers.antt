use Rattle.std.proofs.Common.{subst, List}
use Rattle.upward_search.specs.declared.backing.Rung.{Rung}
use Rattle.upward_search.specs.Stacks.{AreFalling}
use Rattle.upward_search.proofs.IsOnWay.{falling_more}
use Rattle.upward_search.proofs.walking.fallen.Goals as goal

pub falling-preserved : goal.falling-preserved
falling-preserved c = rw c.in_ok-push.ensures.items (falling_more c.args.down.items c.pop.new.self.items c.in-Some.rung c.falling.parts.items (subst (λ (gs : List Rung). AreFalling c.args.down.items gs c.falling.parts.items) c.in-Some.ensures.items c.falling.invariant))
