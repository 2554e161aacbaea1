use Rattle.std.proofs.Common.{sym, refl, ap, ◌∙◌}
use Rattle.board_core.specs.declared.entry.Entry.TheVariants as entry
use Rattle.board_core.specs.BoardViews.{board_of}
use Rattle.board_core.specs.Boards.{oldest_unheld}
use Rattle.board_core.specs.FleetViews.{cars_of}
use Rattle.interleave_core.specs.declared.event.Event.TheVariants as event
use Rattle.interleave_core.specs.States.{holding_of}
use Rattle.interleave_core.specs.Worlds.{state_of}
use Rattle.interleave_core.proofs.Played.{acts_claim, claimed_at, fleet_at, has_added, over_claimed}
use Rattle.interleave_core.proofs.world.World.claim.Goals as goal

pub returns-in-Some-clause-acted : goal.returns-in-Some-clause-acted
returns-in-Some-clause-acted g c = λ graph over.
    let claimed = (claimed_at (board_of c.args.self.now.board) (board_of c.claim_with_fleet.new.self) c.args.actor _ c.in-Some.request c.in-Some.fleet c.in-Some.is c.in_ok-request.ensures.value) in
    has_added graph c.args.self.now _ (event.Claim c.args.actor) (entry.Claim c.in-Some.request.no c.args.actor) _ c.reserve.ensures.items c.push_reserved.ensures.items
    (acts_claim graph (state_of c.args.self.now) _ c.args.actor (holding_of (state_of c.args.self.now) c.args.actor) claimed.0 (oldest_unheld (board_of c.args.self.now.board)) c.in-Some.request c.in-Some.fleet
    (sym c.is_free.ensures ∙ c.if-not-is_free.false) claimed.1 claimed.2 (ap (λ f. cars_of f) (fleet_at c.claim_with_fleet.new.self.fleet _ c.in-Some.request c.in-Some.fleet c.in-Some.is c.in_ok-request.ensures.fleet)) (claimed.3 graph) refl)

pub returns-in-Some-clause-over : goal.returns-in-Some-clause-over
returns-in-Some-clause-over g c = λ graph over.
    let claimed = (claimed_at (board_of c.args.self.now.board) (board_of c.claim_with_fleet.new.self) c.args.actor _ c.in-Some.request c.in-Some.fleet c.in-Some.is c.in_ok-request.ensures.value) in
    over_claimed g.I.FleetIndex.fits graph c.args.self.now _ c.args.actor claimed.0 c.in-Some.request c.in-Some.fleet c.stays_over.ensures.left c.stays_over.ensures.oldest over (claimed.3 graph) c.claim_with_fleet.ensures.index
    claimed.1 claimed.2 (fleet_at c.claim_with_fleet.new.self.fleet _ c.in-Some.request c.in-Some.fleet c.in-Some.is c.in_ok-request.ensures.fleet) refl
