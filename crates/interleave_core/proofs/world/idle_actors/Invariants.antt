use Rattle.std.proofs.Common.{◌≡◌, ◌≤◌, replicate, vec_len, vec_capacity}
use Rattle.interleave_core.specs.declared.holding.Holding.TheVariants.{Nothing}
use Rattle.interleave_core.proofs.world.idle_actors.Given as goal

abbrev pub invariant-adding : goal.invariant-adding
invariant-adding g l = (l.idle.items ≡ replicate l._actor Nothing)
    × (vec_len l.idle ≡ l._actor) × (l.actors ≤ vec_capacity l.idle)
