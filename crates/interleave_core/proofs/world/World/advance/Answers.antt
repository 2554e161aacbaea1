use Rattle.std.proofs.Common.{refl}
use Rattle.board_core.specs.declared.entry.Entry.TheVariants as entry
use Rattle.interleave_core.specs.declared.event.Event.TheVariants as event
use Rattle.interleave_core.proofs.Played.{has_added, over_moved}
use Rattle.interleave_core.proofs.world.World.advance.Goals as goal

pub returns-clause-acted : goal.returns-clause-acted
returns-clause-acted g c = λ graph over.
    has_added graph c.args.self.now _ (event.Advance c.args.now) (entry.Advance c.args.now c.in_ok-advanced.advanced) _ c.reserve.ensures.items c.push_reserved.ensures.items
    (c.in_ok-advanced.advanced, (refl, c.in_ok-advanced.ensures.ok graph, refl))

pub returns-clause-over : goal.returns-clause-over
returns-clause-over g c = λ graph over.
    over_moved g.I.FleetIndex.fits graph c.args.self.now _ c.args.now c.in_ok-advanced.advanced c.stays_over.ensures.left over c.requires.moment (c.in_ok-advanced.ensures.ok graph) (c.in_ok-advanced.ensures.index refl) refl
