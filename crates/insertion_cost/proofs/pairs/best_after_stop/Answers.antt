use Rattle.std.proofs.Common.{get_or, arith}
use Rattle.insertion_cost.specs.OnWays.{no_ways}
use Rattle.insertion_cost.proofs.IsTried.{rest_none}
use Rattle.insertion_cost.proofs.Leads.{left_soon}
use Rattle.insertion_cost.proofs.PairPrice.{none_by, none_into}
use Rattle.insertion_cost.proofs.PricedBy.{led_first, late_first, short_some}
use Rattle.insertion_cost.proofs.pairs.best_after_stop.Goals as goal

pub returns-in_default : goal.returns-in_default
returns-in_default c = λ g car by is t.
    rest_none g c.args.params.now c.args.vehicle c.args.schedule.now car c.args.front.now c.args.request.now is c.args.i c.args.i c.args.so_far
    (none_into g c.args.params.now c.args.front.now c.args.schedule.now c.args.request.now c.args.direct c.args.ways.now c.args.i by.along c.in_default.is) t

pub turning_at-turning-requires-clause-soon : goal.turning_at-turning-requires-clause-soon
turning_at-turning-requires-clause-soon c =
    let left = left_soon c.args.params.now c.args.schedule.now c.requires.kept c.requires.bounded c.args.i c.requires.within in
    let e = c.requires.left in
    omega arith

pub past-taken-requires-clause-length : goal.past-taken-requires-clause-length
past-taken-requires-clause-length c = short_some (get_or c.args.ways.now c.args.i no_ways).to_pickup c.in-Some.length c.in-Some.is (c.requires.ways.each c.args.i (let many = c.requires.ways.many in let l = c.requires.within in omega arith)).to_pickup

pub returns-then-taken-until : goal.returns-then-taken-until
returns-then-taken-until c = λ g car by is t.
    rest_none g c.args.params.now c.args.vehicle c.args.schedule.now car c.args.front.now c.args.request.now is c.args.i c.args.i c.args.so_far
    (none_by g c.args.params.now c.args.front.now c.args.schedule.now c.args.request.now c.args.direct c.args.ways.now c.args.i c.args.i by.along
    (late_first c.args.params.now c.args.schedule.now c.args.front.now c.args.request.now c.args.ways.now c.args.i c.in-Some.length c.turning_at-turning.result c.past-taken.result c.requires.kept c.requires.bounded.as_many_legs c.requires.few c.requires.within c.in-Some.is (c.turning_at-turning.ensures.value c.args.params.now c.requires.left) c.past-taken.ensures.value (let u = c.until.ensures in let late = c.if-taken-until.true in omega arith))) t

pub returns : goal.returns
returns c = λ g car by is t. c.best_on_the_way.ensures g c.args.front.now car by
    (led_first c.args.params.now c.args.schedule.now c.args.front.now c.args.request.now c.args.ways.now c.args.i c.in-Some.length c.turning_at-turning.result c.past-taken.result c.requires.kept c.requires.bounded.as_many_legs c.requires.few c.requires.within c.in-Some.is (c.turning_at-turning.ensures.value c.args.params.now c.requires.left) c.past-taken.ensures.value (let u = c.until.ensures in let early = c.if-taken-until.false in omega arith)) is t
