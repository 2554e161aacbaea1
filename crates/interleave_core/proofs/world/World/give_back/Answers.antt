use Rattle.std.proofs.Common.{sym, refl}
use Rattle.board_core.specs.declared.entry.Entry.TheVariants as entry
use Rattle.interleave_core.specs.declared.event.Event.TheVariants as event
use Rattle.interleave_core.specs.States.{holding_of}
use Rattle.interleave_core.specs.Worlds.{state_of}
use Rattle.interleave_core.proofs.Played.{acts_back, early_requests, has_added, is_held, over_ended}
use Rattle.interleave_core.proofs.Worlds.{index_fits}
use Rattle.interleave_core.proofs.world.World.give_back.Goals as goal

pub back-requires-clause-held : goal.back-requires-clause-held
back-requires-clause-held g c = is_held g.I.FleetIndex.fits c.requires.over.0 c.args.self.now c.args.actor c.in-Some.no c.requires.over.1 (sym c.in-Some.ensures)

pub returns-clause-acted : goal.returns-clause-acted
returns-clause-acted g c = λ graph over.
    has_added graph c.args.self.now _ (event.Back c.args.actor) (entry.Back c.in-Some.no) _ c.reserve.ensures.items c.push_reserved.ensures.items
    (acts_back graph (state_of c.args.self.now) _ c.args.actor (holding_of (state_of c.args.self.now) c.args.actor) c.in-Some.no (sym c.in-Some.ensures) (refl, c.back.ensures.value graph, refl))

pub returns-clause-over : goal.returns-clause-over
returns-clause-over g c = λ graph over.
    over_ended g.I.FleetIndex.fits graph c.args.self.now _ (entry.Back c.in-Some.no) c.args.actor c.in-Some.no c.stays_over.ensures.left over (early_requests (entry.Back c.in-Some.no) tt) (c.back.ensures.value graph)
    (index_fits g.I.FleetIndex.fits graph c.args.self.now c.back.new.self (entry.Back c.in-Some.no) over tt (c.back.ensures.value graph) c.back.ensures.index) (sym c.in-Some.ensures) (λ other h. h) refl
