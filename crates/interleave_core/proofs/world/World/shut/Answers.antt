use Rattle.std.proofs.Common.{sym, refl, ◌∙◌}
use Rattle.board_core.specs.declared.entry.Entry.TheVariants as entry
use Rattle.board_core.specs.BoardViews.{board_of}
use Rattle.interleave_core.specs.declared.event.Event.TheVariants as event
use Rattle.interleave_core.specs.Worlds.{state_of}
use Rattle.interleave_core.proofs.Played.{acts_shut, has_added, over_kept}
use Rattle.interleave_core.proofs.world.World.shut.Goals as goal

pub returns-clause-acted : goal.returns-clause-acted
returns-clause-acted g c = λ graph over.
    has_added graph c.args.self.now _ event.Shut entry.Shut _ c.reserve.ensures.items c.push_reserved.ensures.items
    (acts_shut graph (state_of c.args.self.now) _ (board_of c.args.self.now.board).closed (sym c.is_closed.ensures ∙ c.if-is_closed.false) (refl, c.shut.ensures.value graph, refl))

pub returns-clause-over : goal.returns-clause-over
returns-clause-over g c = λ graph over.
    over_kept g.I.FleetIndex.fits graph c.args.self.now _ entry.Shut c.stays_over.ensures.left over tt (c.shut.ensures.value graph) c.shut.ensures.index (λ n. tt) refl
