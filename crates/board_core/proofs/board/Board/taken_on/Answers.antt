use Rattle.std.proofs.Common.{◌≡◌, ◌≤◌, length, sym, subst, arith}
use Rattle.std.specs.Prelude.{IfOk}
use Rattle.std.proofs.lemmas.Option.{slice_get_within}
use Rattle.insertion_cost.specs.declared.decision.Decision.TheVariants.{Assigned as IsAssigned}
use Rattle.stop_schedule.specs.declared.stop.Front.{Front}
use Rattle.stop_schedule.specs.Fronts.{front_of}
use Rattle.stop_schedule.specs.Lists.{changed_ends}
use Rattle.stop_schedule.specs.Plans.{Plan}
use Rattle.board_core.specs.Boards.{Board}
use Rattle.board_core.specs.BoardCalls.{AreWaysBetween, MayApply}
use Rattle.board_core.specs.BoardViews.{board_of}
use Rattle.board_core.specs.Changes.{IsChangedTo, IsTakenOn}
use Rattle.board_core.specs.FleetViews.{cars_of}
use Rattle.board_core.proofs.KeptPlans.{ways_many, ways_short}
use Rattle.board_core.proofs.TakenOn.{IsReady, ready, new_plan, new_plan_is, may_take_on, takes_on, ok_after}
use Rattle.board_core.proofs.board.Board.taken_on.Goals as goal

pub front-front-requires-clause-ahead : goal.front-front-requires-clause-ahead
front-front-requires-clause-ahead g c = λ car e. (c.self.invariant.fleet.plans _ car e).ahead

pub promise-limits-requires-clause-moment : goal.promise-limits-requires-clause-moment
promise-limits-requires-clause-moment g c =
    let b : Board = record { nodes = c.self.inside.nodes; fleet = cars_of c.self.inside.fleet; closed = c.self.inside.closed; waiting = c.self.inside.waiting; answers = c.self.inside.answers.entries; cancelled = c.self.inside.cancelled.keys } in
    let w = c.in-Some.waiting.now in
    let a = c.args.assigned.now in
    let r : IsReady b w a = ready (g.I.FleetIndex.fits c.self.inside.fleet.index) b c.self.inside.arrivals c.args.no a c.args.direct w c.self.invariant
    (subst (λ v. MayApply (board_of v) c.args.no (IsAssigned a) c.args.direct) (sym c.self.view_is) c.requires.possible) (sym c.in-Some.ensures) in
    r.accepted.moment

pub promise-limits-requires-clause-leave : goal.promise-limits-requires-clause-leave
promise-limits-requires-clause-leave g c =
    let b : Board = record { nodes = c.self.inside.nodes; fleet = cars_of c.self.inside.fleet; closed = c.self.inside.closed; waiting = c.self.inside.waiting; answers = c.self.inside.answers.entries; cancelled = c.self.inside.cancelled.keys } in
    let w = c.in-Some.waiting.now in
    let a = c.args.assigned.now in
    let r : IsReady b w a = ready (g.I.FleetIndex.fits c.self.inside.fleet.index) b c.self.inside.arrivals c.args.no a c.args.direct w c.self.invariant
    (subst (λ v. MayApply (board_of v) c.args.no (IsAssigned a) c.args.direct) (sym c.self.view_is) c.requires.possible) (sym c.in-Some.ensures) in
    let i = c.front-front.ensures.bounded r.car r.stands in let u = i.until in let l = r.priced.leave_early in omega arith

pub promise-limits-requires-clause-arrive : goal.promise-limits-requires-clause-arrive
promise-limits-requires-clause-arrive g c =
    let b : Board = record { nodes = c.self.inside.nodes; fleet = cars_of c.self.inside.fleet; closed = c.self.inside.closed; waiting = c.self.inside.waiting; answers = c.self.inside.answers.entries; cancelled = c.self.inside.cancelled.keys } in
    let w = c.in-Some.waiting.now in
    let a = c.args.assigned.now in
    let r : IsReady b w a = ready (g.I.FleetIndex.fits c.self.inside.fleet.index) b c.self.inside.arrivals c.args.no a c.args.direct w c.self.invariant
    (subst (λ v. MayApply (board_of v) c.args.no (IsAssigned a) c.args.direct) (sym c.self.view_is) c.requires.possible) (sym c.in-Some.ensures) in
    let i = c.front-front.ensures.bounded r.car r.stands in let u = i.until in let l = r.priced.arrive_early in omega arith

pub schedule-requires : goal.schedule-requires
schedule-requires g c =
    let b : Board = record { nodes = c.self.inside.nodes; fleet = cars_of c.self.inside.fleet; closed = c.self.inside.closed; waiting = c.self.inside.waiting; answers = c.self.inside.answers.entries; cancelled = c.self.inside.cancelled.keys } in
    let w = c.in-Some.waiting.now in
    let a = c.args.assigned.now in
    let r : IsReady b w a = ready (g.I.FleetIndex.fits c.self.inside.fleet.index) b c.self.inside.arrivals c.args.no a c.args.direct w c.self.invariant
    (subst (λ v. MayApply (board_of v) c.args.no (IsAssigned a) c.args.direct) (sym c.self.view_is) c.requires.possible) (sym c.in-Some.ensures) in
    slice_get_within _ _ r.car r.stands

pub inserted-requires-clause-insertion : goal.inserted-requires-clause-insertion
inserted-requires-clause-insertion g c =
    let b : Board = record { nodes = c.self.inside.nodes; fleet = cars_of c.self.inside.fleet; closed = c.self.inside.closed; waiting = c.self.inside.waiting; answers = c.self.inside.answers.entries; cancelled = c.self.inside.cancelled.keys } in
    let w = c.in-Some.waiting.now in
    let a = c.args.assigned.now in
    let r : IsReady b w a = ready (g.I.FleetIndex.fits c.self.inside.fleet.index) b c.self.inside.arrivals c.args.no a c.args.direct w c.self.invariant
    (subst (λ v. MayApply (board_of v) c.args.no (IsAssigned a) c.args.direct) (sym c.self.view_is) c.requires.possible) (sym c.in-Some.ensures) in
    let s = c.schedule.ensures r.car r.stands in
    (r.priced.parts.ordered, subst (λ (p : Plan). a.offer.at.j ≤ length p.stops) (sym s) r.priced.parts.within)

pub inserted-requires-clause-as_many : goal.inserted-requires-clause-as_many
inserted-requires-clause-as_many g c =
    let b : Board = record { nodes = c.self.inside.nodes; fleet = cars_of c.self.inside.fleet; closed = c.self.inside.closed; waiting = c.self.inside.waiting; answers = c.self.inside.answers.entries; cancelled = c.self.inside.cancelled.keys } in
    let w = c.in-Some.waiting.now in
    let a = c.args.assigned.now in
    let r : IsReady b w a = ready (g.I.FleetIndex.fits c.self.inside.fleet.index) b c.self.inside.arrivals c.args.no a c.args.direct w c.self.invariant
    (subst (λ v. MayApply (board_of v) c.args.no (IsAssigned a) c.args.direct) (sym c.self.view_is) c.requires.possible) (sym c.in-Some.ensures) in
    let s = c.schedule.ensures r.car r.stands in
    let f = c.front-front.ensures.value r.car r.stands in
    let ways : AreWaysBetween b.nodes (changed_ends c.schedule.result.now.stops c.front-front.result w.request a.offer.at) a.walks =
    subst (λ (q : Plan). AreWaysBetween b.nodes (changed_ends q.stops c.front-front.result w.request a.offer.at) a.walks) (sym s)
    (subst (λ (h : Front). AreWaysBetween b.nodes (changed_ends r.car.plan.stops h w.request a.offer.at) a.walks) (sym f) r.ways) in
    ways_many b.nodes (changed_ends c.schedule.result.now.stops c.front-front.result w.request a.offer.at) a.walks ways

pub inserted-requires-clause-short : goal.inserted-requires-clause-short
inserted-requires-clause-short g c =
    let b : Board = record { nodes = c.self.inside.nodes; fleet = cars_of c.self.inside.fleet; closed = c.self.inside.closed; waiting = c.self.inside.waiting; answers = c.self.inside.answers.entries; cancelled = c.self.inside.cancelled.keys } in
    let w = c.in-Some.waiting.now in
    let a = c.args.assigned.now in
    let r : IsReady b w a = ready (g.I.FleetIndex.fits c.self.inside.fleet.index) b c.self.inside.arrivals c.args.no a c.args.direct w c.self.invariant
    (subst (λ v. MayApply (board_of v) c.args.no (IsAssigned a) c.args.direct) (sym c.self.view_is) c.requires.possible) (sym c.in-Some.ensures) in
    let s = c.schedule.ensures r.car r.stands in
    let f = c.front-front.ensures.value r.car r.stands in
    let ways : AreWaysBetween b.nodes (changed_ends c.schedule.result.now.stops c.front-front.result w.request a.offer.at) a.walks =
    subst (λ (q : Plan). AreWaysBetween b.nodes (changed_ends q.stops c.front-front.result w.request a.offer.at) a.walks) (sym s)
    (subst (λ (h : Front). AreWaysBetween b.nodes (changed_ends r.car.plan.stops h w.request a.offer.at) a.walks) (sym f) r.ways) in
    ways_short b.nodes (changed_ends c.schedule.result.now.stops c.front-front.result w.request a.offer.at) a.walks ways

pub inserted-requires-clause-moment : goal.inserted-requires-clause-moment
inserted-requires-clause-moment g c =
    let b : Board = record { nodes = c.self.inside.nodes; fleet = cars_of c.self.inside.fleet; closed = c.self.inside.closed; waiting = c.self.inside.waiting; answers = c.self.inside.answers.entries; cancelled = c.self.inside.cancelled.keys } in
    let w = c.in-Some.waiting.now in
    let a = c.args.assigned.now in
    let r : IsReady b w a = ready (g.I.FleetIndex.fits c.self.inside.fleet.index) b c.self.inside.arrivals c.args.no a c.args.direct w c.self.invariant
    (subst (λ v. MayApply (board_of v) c.args.no (IsAssigned a) c.args.direct) (sym c.self.view_is) c.requires.possible) (sym c.in-Some.ensures) in
    r.accepted.moment

pub inserted-requires-clause-riders : goal.inserted-requires-clause-riders
inserted-requires-clause-riders g c =
    let b : Board = record { nodes = c.self.inside.nodes; fleet = cars_of c.self.inside.fleet; closed = c.self.inside.closed; waiting = c.self.inside.waiting; answers = c.self.inside.answers.entries; cancelled = c.self.inside.cancelled.keys } in
    let w = c.in-Some.waiting.now in
    let a = c.args.assigned.now in
    let r : IsReady b w a = ready (g.I.FleetIndex.fits c.self.inside.fleet.index) b c.self.inside.arrivals c.args.no a c.args.direct w c.self.invariant
    (subst (λ v. MayApply (board_of v) c.args.no (IsAssigned a) c.args.direct) (sym c.self.view_is) c.requires.possible) (sym c.in-Some.ensures) in
    r.accepted.riders

pub inserted-requires-clause-spaces : goal.inserted-requires-clause-spaces
inserted-requires-clause-spaces g c =
    let b : Board = record { nodes = c.self.inside.nodes; fleet = cars_of c.self.inside.fleet; closed = c.self.inside.closed; waiting = c.self.inside.waiting; answers = c.self.inside.answers.entries; cancelled = c.self.inside.cancelled.keys } in
    let w = c.in-Some.waiting.now in
    let a = c.args.assigned.now in
    let r : IsReady b w a = ready (g.I.FleetIndex.fits c.self.inside.fleet.index) b c.self.inside.arrivals c.args.no a c.args.direct w c.self.invariant
    (subst (λ v. MayApply (board_of v) c.args.no (IsAssigned a) c.args.direct) (sym c.self.view_is) c.requires.possible) (sym c.in-Some.ensures) in
    r.accepted.spaces

pub change-requires-clause-place : goal.change-requires-clause-place
change-requires-clause-place g c =
    let b : Board = record { nodes = c.self.inside.nodes; fleet = cars_of c.self.inside.fleet; closed = c.self.inside.closed; waiting = c.self.inside.waiting; answers = c.self.inside.answers.entries; cancelled = c.self.inside.cancelled.keys } in
    let w = c.in-Some.waiting.now in
    let a = c.args.assigned.now in
    let r : IsReady b w a = ready (g.I.FleetIndex.fits c.self.inside.fleet.index) b c.self.inside.arrivals c.args.no a c.args.direct w c.self.invariant
    (subst (λ v. MayApply (board_of v) c.args.no (IsAssigned a) c.args.direct) (sym c.self.view_is) c.requires.possible) (sym c.in-Some.ensures) in
    slice_get_within _ _ r.car r.stands

pub change-requires-clause-change : goal.change-requires-clause-change
change-requires-clause-change g c =
    let b : Board = record { nodes = c.self.inside.nodes; fleet = cars_of c.self.inside.fleet; closed = c.self.inside.closed; waiting = c.self.inside.waiting; answers = c.self.inside.answers.entries; cancelled = c.self.inside.cancelled.keys } in
    let w = c.in-Some.waiting.now in
    let a = c.args.assigned.now in
    let r : IsReady b w a = ready (g.I.FleetIndex.fits c.self.inside.fleet.index) b c.self.inside.arrivals c.args.no a c.args.direct w c.self.invariant
    (subst (λ v. MayApply (board_of v) c.args.no (IsAssigned a) c.args.direct) (sym c.self.view_is) c.requires.possible) (sym c.in-Some.ensures) in
    let i = c.front-front.ensures.bounded r.car r.stands in
    let f = c.front-front.ensures.value r.car r.stands in
    let late : b.fleet.clock ≤ (front_of r.car.plan b.fleet.clock).time = subst (λ (h : Front). b.fleet.clock ≤ h.time) f c.front-front.ensures.late in
    let is : c.in_ok-new.new ≡ new_plan b r.car w a c.args.direct = new_plan_is b r.car w a c.args.direct c.params.result.now c.schedule.result.now c.front-front.result c.promise-limits.result c.in_ok-new.new
    (c.schedule.ensures r.car r.stands) f c.params.ensures c.promise-limits.ensures.value c.in_ok-new.ensures in
    may_take_on (g.I.FleetIndex.fits c.self.inside.fleet.index) b c.self.inside.arrivals w a c.args.direct r c.self.invariant i.as_many_legs late c.in_ok-new.new is

pub returns-clause-change : goal.returns-clause-change
returns-clause-change g c =
    let b : Board = record { nodes = c.self.inside.nodes; fleet = cars_of c.self.inside.fleet; closed = c.self.inside.closed; waiting = c.self.inside.waiting; answers = c.self.inside.answers.entries; cancelled = c.self.inside.cancelled.keys } in
    let w = c.in-Some.waiting.now in
    let a = c.args.assigned.now in
    let r : IsReady b w a = ready (g.I.FleetIndex.fits c.self.inside.fleet.index) b c.self.inside.arrivals c.args.no a c.args.direct w c.self.invariant
    (subst (λ v. MayApply (board_of v) c.args.no (IsAssigned a) c.args.direct) (sym c.self.view_is) c.requires.possible) (sym c.in-Some.ensures) in
    let i = c.front-front.ensures.bounded r.car r.stands in
    let f = c.front-front.ensures.value r.car r.stands in
    let late : b.fleet.clock ≤ (front_of r.car.plan b.fleet.clock).time = subst (λ (h : Front). b.fleet.clock ≤ h.time) f c.front-front.ensures.late in
    let is : c.in_ok-new.new ≡ new_plan b r.car w a c.args.direct = new_plan_is b r.car w a c.args.direct c.params.result.now c.schedule.result.now c.front-front.result c.promise-limits.result c.in_ok-new.new
    (c.schedule.ensures r.car r.stands) f c.params.ensures c.promise-limits.ensures.value c.in_ok-new.ensures in
    subst (λ v. IfOk c.change.result (λ d. IsTakenOn (g.I.FleetIndex.fits v.fleet.index) (g.I.FleetIndex.fits d.index) (board_of v) c.args.no a c.args.direct d.place d.car d.next)) c.self.view_is
    (ok_after (λ d. IsChangedTo (g.I.FleetIndex.fits c.self.inside.fleet.index) (g.I.FleetIndex.fits d.index) b.fleet a.offer.place c.in_ok-new.new d.place d.car d.next)
    (λ d. IsTakenOn (g.I.FleetIndex.fits c.self.inside.fleet.index) (g.I.FleetIndex.fits d.index) b c.args.no a c.args.direct d.place d.car d.next) c.change.result
    (λ d h. takes_on (g.I.FleetIndex.fits c.self.inside.fleet.index) (g.I.FleetIndex.fits d.index) b c.args.no w a c.args.direct d.place r (sym c.in-Some.ensures) i.as_many_legs late c.in_ok-new.new is d.car d.next h) c.change.ensures.changed)
