use Rattle.std.proofs.Common.{arith}
use Rattle.insertion_cost.proofs.AreEntries.{entries_none, entries_more, entries_all}
use Rattle.insertion_cost.proofs.plain.PlainPricerPricer.price.Goals as goal

pub loop-place-init : goal.loop-place-init
loop-place-init g c = record { entries = rw c.new-entries.ensures (entries_none c.args.self.now.graph.now (g.F.FleetView.fleet c.args.view.now) c.args.request.now); within = omega arith }

pub loop-place-preserved : goal.loop-place-preserved
loop-place-preserved g c =
    let are = c.in_ok-searches.ensures.searches in
    record {
      entries = rw c.in_ok-push.ensures.ok (entries_more c.args.self.now.graph.now (g.F.FleetView.fleet c.args.view.now) c.args.request.now c.loop-place.place c.loop-place.entries _ c.loop-place.invariant.entries
          (c.in_ok-entry_at.ensures c.args.self.now.graph.now are.to_pickup.is_reach.reached.graph are));
      within = (let l = c.loop-place-test.true in let e = c.count-place-end.ensures in omega arith);
    }

pub returns-clause-fresh : goal.returns-clause-fresh
returns-clause-fresh g c =
    entries_all c.args.self.now.graph.now (g.F.FleetView.fleet c.args.view.now) c.args.request.now c.loop-place.place c.version.result c.loop-place.entries c.loop-place.invariant.entries
    (let l = c.loop-place-test.false in let e = c.count-place-end.ensures in let w = c.loop-place.invariant.within in omega arith) c.version.ensures
