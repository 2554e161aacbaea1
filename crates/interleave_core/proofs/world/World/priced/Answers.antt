use Rattle.std.proofs.Common.{refl}
use Rattle.interleave_core.specs.declared.holding.Holding.TheVariants as holding
use Rattle.interleave_core.proofs.Played.{no_claim, read_at}
use Rattle.interleave_core.proofs.world.World.priced.Goals as goal

pub price-requires-clause-view : goal.price-requires-clause-view
price-requires-clause-view g c =
    let at = read_at c.args.self.now.actors.items c.args.actor c.index.result.now (holding.Claimed c.in-Claimed.request c.in-Claimed.fleet) c.requires.actor c.index.ensures c.in-Claimed.is in
    (c.requires.over.held c.args.actor (holding.Claimed c.in-Claimed.request c.in-Claimed.fleet) at).1

pub price-requires-clause-request : goal.price-requires-clause-request
price-requires-clause-request g c =
    let at = read_at c.args.self.now.actors.items c.args.actor c.index.result.now (holding.Claimed c.in-Claimed.request c.in-Claimed.fleet) c.requires.actor c.index.ensures c.in-Claimed.is in
    (c.requires.over.held c.args.actor (holding.Claimed c.in-Claimed.request c.in-Claimed.fleet) at).0.asked

pub returns-in_ok-candidates-in-Claimed-clause-priced : goal.returns-in_ok-candidates-in-Claimed-clause-priced
returns-in_ok-candidates-in-Claimed-clause-priced g c =
    let at = read_at c.args.self.now.actors.items c.args.actor c.index.result.now (holding.Claimed c.in-Claimed.request c.in-Claimed.fleet) c.requires.actor c.index.ensures c.in-Claimed.is in
    (c.in-Claimed.fleet, at, c.in_ok-candidates-in-Claimed.ensures.fresh, c.in_ok-candidates-in-Claimed.ensures.decides)

pub returns-in-Nothing-clause-priced : goal.returns-in-Nothing-clause-priced
returns-in-Nothing-clause-priced g c =
    no_claim _ c.index.result.now (read_at c.args.self.now.actors.items c.args.actor c.index.result.now c.index.result.now c.requires.actor c.index.ensures refl) c.in-Nothing.is
