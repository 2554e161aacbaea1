use Rattle.std.proofs.Common.{◌≡◌, ℕ, suc, ◌+◌, map, length, ap, ◌∙◌, subst, arith}
use Rattle.std.proofs.lemmas.List.{length-map}
use Rattle.stop_schedule.specs.Fleets.{Car}
use Rattle.board_core.specs.FleetViews.{cars_of}
use Rattle.board_core.proofs.MovedCars.{AreMovedTo, stands_yet, as_many, may_move, moved_more, moved_all, next_of}
use Rattle.board_core.proofs.fleet.Fleet.moved.Goals as goal

pub reach-requires-clause-place : goal.reach-requires-clause-place
reach-requires-clause-place g c = let m = as_many (g.I.FleetIndex.fits c.args.self.now.index) (g.I.FleetIndex.fits c.reaching.moved.index) (cars_of c.args.self.now) c.args.now c.reaching.from c.reaching.moved.cars c.reaching.moved.served c.reaching.invariant.moved in
    let l : length c.args.arrivals.now ≡ length c.args.self.now.cars = ap length c.requires.kept.1.next ∙ length-map c.args.self.now.cars (next_of c.args.self.now.params) in
    let f = c.in-Some.ensures.1 in omega arith

pub reach-requires-clause-kept : goal.reach-requires-clause-kept
reach-requires-clause-kept g c = λ car e. (c.requires.kept.1.plans c.in-Some.place car
    (stands_yet (g.I.FleetIndex.fits c.args.self.now.index) (g.I.FleetIndex.fits c.reaching.moved.index) (cars_of c.args.self.now) c.args.now c.reaching.from c.in-Some.place c.reaching.moved.cars c.reaching.moved.served car c.reaching.invariant.moved c.in-Some.ensures.0 e)).kept

pub reach-requires-clause-change : goal.reach-requires-clause-change
reach-requires-clause-change g c = λ car e. may_move (g.I.FleetIndex.fits c.args.self.now.index) (g.I.FleetIndex.fits c.reaching.moved.index) c.requires.kept.0 (cars_of c.args.self.now) c.args.arrivals.now c.args.now c.reaching.from c.in-Some.place
    c.reaching.moved.cars c.reaching.moved.served car c.requires.kept.1 c.reaching.invariant.moved c.in-Some.ensures.0 e

pub reaching-preserved : goal.reaching-preserved
reaching-preserved g c = let n : suc c.in-Some.place ≡ c.in-Some.place + 1 = omega arith in record {
  moved = subst (λ (k : ℕ). AreMovedTo (g.I.FleetIndex.fits c.args.self.now.index) (g.I.FleetIndex.fits c.reach.new.self.index) (cars_of c.args.self.now) c.args.now k c.reach.new.self.cars c.reach.new.self.served) n
      (moved_more (g.I.FleetIndex.fits c.args.self.now.index) (g.I.FleetIndex.fits c.reaching.moved.index) (g.I.FleetIndex.fits c.reach.new.self.index) c.requires.kept.0 (cars_of c.args.self.now) c.args.arrivals.now c.args.now c.reaching.from
      c.in-Some.place c.reaching.moved.cars c.reach.new.self.cars c.reaching.moved.served c.reach.new.self.served c.requires.kept.1 c.requires.now c.reaching.invariant.moved c.in-Some.ensures c.in_ok-reach.ensures.ok);
  steps = (let a = c.reaching.invariant.steps in let b = c.in_ok-reach.ensures.steps in omega arith);
  asks = c.in_ok-reach.ensures.asks ∙ c.reaching.invariant.asks;
}

pub returns-clause-cars : goal.returns-clause-cars
returns-clause-cars g c = (moved_all (g.I.FleetIndex.fits c.args.self.now.index) (g.I.FleetIndex.fits c.reaching.moved.index) c.requires.kept.0 (cars_of c.args.self.now) c.args.arrivals.now c.args.now c.reaching.from c.reaching.moved.cars
    c.reaching.moved.served c.requires.kept.1 c.reaching.invariant.moved c.in_default.ensures).0

pub returns-clause-served : goal.returns-clause-served
returns-clause-served g c = (moved_all (g.I.FleetIndex.fits c.args.self.now.index) (g.I.FleetIndex.fits c.reaching.moved.index) c.requires.kept.0 (cars_of c.args.self.now) c.args.arrivals.now c.args.now c.reaching.from c.reaching.moved.cars
    c.reaching.moved.served c.requires.kept.1 c.reaching.invariant.moved c.in_default.ensures).1

pub returns-clause-index : goal.returns-clause-index
returns-clause-index g c = λ g' k. let e = (moved_all (g.I.FleetIndex.fits c.args.self.now.index) (g.I.FleetIndex.fits c.reaching.moved.index) c.requires.kept.0 (cars_of c.args.self.now) c.args.arrivals.now c.args.now c.reaching.from c.reaching.moved.cars
    c.reaching.moved.served c.requires.kept.1 c.reaching.invariant.moved c.in_default.ensures).0 in
    subst (λ cars. g.I.FleetIndex.fits c.reaching.moved.index g' c.args.self.now.params (map (λ (car : Car). car.plan) cars)) e (c.reaching.invariant.moved.fits g' k)
