use Rattle.std.proofs.Common.{◌+◌, ◌-◌, ◌/◌, sym, subst, arith}
use Rattle.fleet_board.proofs.Gathered.{IsBetween, above_middle, below_middle, first_between, low_is}
use Rattle.fleet_board.proofs.named.place_of.Goals as goal

pub loop-low-init : goal.loop-low-init
loop-low-init g c = record {
  between = subst (λ n. IsBetween (g.F.FleetView.fleet c.args.view.now) c.args.no 0 n) (sym c.count-high.ensures)
      (first_between (g.F.FleetView.fleet c.args.view.now) c.args.no);
  within = (let e = c.count-high.ensures in omega arith);
}

pub loop-low-preserved-then-no : goal.loop-low-preserved-then-no
loop-low-preserved-then-no g c = record {
  between = above_middle (g.F.FleetView.fleet c.args.view.now) c.requires.rising c.args.no c.no.result c.loop-low.low c.loop-low.high
      (c.loop-low.low + (c.loop-low.high - c.loop-low.low) / 2)
      (let l = c.loop-low-test.true in let w = c.loop-low.invariant.within in grind arith) c.no.ensures c.if-no.true
      c.loop-low.invariant.between;
  within = c.loop-low.invariant.within;
}

pub loop-low-preserved : goal.loop-low-preserved
loop-low-preserved g c = record {
  between = below_middle (g.F.FleetView.fleet c.args.view.now) c.requires.rising c.args.no c.no.result c.loop-low.low c.loop-low.high
      (c.loop-low.low + (c.loop-low.high - c.loop-low.low) / 2)
      (let l = c.loop-low-test.true in let w = c.loop-low.invariant.within in grind arith) c.no.ensures
      (λ l. (let n = c.if-no.false in omega arith)) c.loop-low.invariant.between;
  within = (let l = c.loop-low-test.true in let w = c.loop-low.invariant.within in grind arith);
}

pub returns : goal.returns
returns g c = λ p car h e. low_is (g.F.FleetView.fleet c.args.view.now) c.args.no c.loop-low.low c.loop-low.high
    c.loop-low.invariant.between (let l = c.loop-low-test.false in omega arith) p car h e
