use Rattle.std.proofs.Common.{refl}
use Rattle.board_core.specs.declared.entry.Entry.TheVariants as entry
use Rattle.interleave_core.specs.declared.event.Event.TheVariants as event
use Rattle.interleave_core.proofs.Played.{has_added, over_kept}
use Rattle.interleave_core.proofs.world.World.submit.Goals as goal

pub returns-clause-acted : goal.returns-clause-acted
returns-clause-acted g c = λ graph over.
    has_added graph c.args.self.now _ (event.Submit c.args.request) (entry.Submit c.args.request c.in_ok-submitted.submitted) _ c.reserve.ensures.items c.push_reserved.ensures.items
    (c.in_ok-submitted.submitted, (refl, c.in_ok-submitted.ensures.ok graph, refl))

pub returns-clause-over : goal.returns-clause-over
returns-clause-over g c = λ graph over.
    over_kept g.I.FleetIndex.fits graph c.args.self.now _ (entry.Submit c.args.request c.in_ok-submitted.submitted) c.stays_over.ensures.left over tt (c.in_ok-submitted.ensures.ok graph) c.submit.ensures.index (λ n. tt) refl
