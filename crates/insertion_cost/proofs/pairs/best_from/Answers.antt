use Rattle.std.proofs.Common.{List, length, ap, subst, sym, arith}
use Rattle.road_graph.proofs.WalkLaws.{dist_short}
use Rattle.insertion_cost.specs.declared.behind.Behind.{Behind}
use Rattle.insertion_cost.specs.Behind.{AreBehind}
use Rattle.insertion_cost.specs.Changes.{course_from}
use Rattle.insertion_cost.proofs.IsTried.{none_tried, all_tried, too_many}
use Rattle.insertion_cost.proofs.Leads.{left_soon}
use Rattle.insertion_cost.proofs.PricedBy.{short_ways, rows_from}
use Rattle.insertion_cost.proofs.pairs.best_from.Goals as goal

pub loop-i-init : goal.loop-i-init
loop-i-init c = record {
  left = λ l. c.departure-left.ensures.value;
  tried = λ g car w is. none_tried g c.args.params.now c.args.vehicle c.args.schedule.now car c.args.front.now c.args.request.now is;
}

pub best_after_stop-best-requires-clause-ways : goal.best_after_stop-best-requires-clause-ways
best_after_stop-best-requires-clause-ways c = short_ways c.requires.ways.0 c.args.schedule.now c.args.front.now c.args.request.now c.args.direct c.args.ways.now c.requires.ways.1

pub best_after_stop-best-requires-clause-direct : goal.best_after_stop-best-requires-clause-direct
best_after_stop-best-requires-clause-direct c = dist_short c.requires.ways.0 c.requires.ways.1.graph c.args.request.now.pickup c.args.request.now.dropoff c.args.direct c.requires.ways.1.direct_way

pub best_after_stop-best-requires-clause-rows : goal.best_after_stop-best-requires-clause-rows
best_after_stop-best-requires-clause-rows c =
    (c.start-start.result, subst (λ (l : List Behind). AreBehind c.args.params.now.stop c.args.schedule.now.until (course_from c.start-start.result c.args.schedule.now) l) (sym c.deref.ensures.value) c.in_ok-look_back.ensures)

pub loop-i-preserved : goal.loop-i-preserved
loop-i-preserved c = record {
  left = λ l. c.next_left-left.ensures (let m = l in omega arith) (c.loop-i.invariant.left (omega arith));
  tried = λ g car w is. c.best_after_stop-best.ensures g car
      (record { along = w; behind = rows_from c.args.params.now c.args.schedule.now c.args.front.now c.start-start.result _ c.deref.result.now c.start-start.ensures.node c.start-start.ensures.departure c.start-start.ensures.halt c.in_ok-look_back.ensures c.deref.ensures.value })
      is (c.loop-i.invariant.tried g car w is);
}

pub next_left-left-requires-clause-soon : goal.next_left-left-requires-clause-soon
next_left-left-requires-clause-soon c =
    let many = c.requires.ways.1.many in
    let more = c.loop-i-test.true in
    let left = left_soon c.args.params.now c.args.schedule.now c.requires.kept c.stops.ensures.bounded c.loop-i.i (omega arith) in
    let e = c.loop-i.invariant.left (omega arith) in
    omega arith

pub best_after_stop-best-requires-clause-left : goal.best_after_stop-best-requires-clause-left
best_after_stop-best-requires-clause-left c =
    let many = c.requires.ways.1.many in
    let more = c.loop-i-test.true in
    c.loop-i.invariant.left (omega arith)

pub returns-then-stops-gt-MOST_STOPS : goal.returns-then-stops-gt-MOST_STOPS
returns-then-stops-gt-MOST_STOPS c = λ g car w is.
    too_many g c.args.params.now c.args.vehicle c.args.schedule.now car c.args.front.now c.args.request.now is
    (let many = ap length c.stops.ensures.value in let l = c.if-stops-gt-MOST_STOPS.true in omega arith)

pub returns : goal.returns
returns c =
    λ g car w is. all_tried g c.args.params.now c.args.vehicle c.args.schedule.now car c.args.front.now c.args.request.now is c.loop-i.i c.loop-i.best
    (let many = w.many in let last = c.loop-i-test.false in omega arith) (c.loop-i.invariant.tried g car w is)
