use Rattle.std.proofs.Common.{◌≡◌, ◌≤◌, length, Some, sym, ap, ◌∙◌, subst}
use Rattle.std.specs.Prelude.{slice_get, IfOk}
use Rattle.std.proofs.lemmas.Option.{slice_get_within}
use Rattle.board_core.specs.Boards.{Board, answer_of}
use Rattle.board_core.specs.BoardCalls.{MayRemove}
use Rattle.board_core.specs.BoardViews.{board_of}
use Rattle.board_core.specs.Changes.{IsTakenOff, IsChangedTo}
use Rattle.board_core.specs.FleetViews.{cars_of}
use Rattle.stop_schedule.specs.declared.stop.Front.{Front}
use Rattle.stop_schedule.specs.Fronts.{front_of}
use Rattle.stop_schedule.specs.Plans.{Plan}
use Rattle.board_core.proofs.TakenOff.{less_plan, less_plan_is, last_within, may_take_off, takes_off}
use Rattle.board_core.proofs.TakenOn.{ok_after}
use Rattle.board_core.proofs.board.Board.taken_off.Goals as goal

pub front-front-requires-clause-ahead : goal.front-front-requires-clause-ahead
front-front-requires-clause-ahead g c = λ car e. (c.self.invariant.fleet.plans _ car e).ahead

pub schedule-requires : goal.schedule-requires
schedule-requires g c =
    let b : Board = record { nodes = c.self.inside.nodes; fleet = cars_of c.self.inside.fleet; closed = c.self.inside.closed; waiting = c.self.inside.waiting; answers = c.self.inside.answers.entries; cancelled = c.self.inside.cancelled.keys } in
    let F = g.I.FleetIndex.fits c.self.inside.fleet.index in
    let x = c.args.removal.now in
    let m : MayRemove b c.args.no x = subst (λ v. MayRemove (board_of v) c.args.no x) (sym c.self.view_is) c.requires.possible in
    let there = c.place_of-place.ensures m.assigned (ap (λ v. answer_of (board_of v) c.args.no) (sym c.self.view_is) ∙ m.answer) in
    let stands : slice_get b.fleet.cars c.place_of-place.result ≡ Some m.car = ap (slice_get b.fleet.cars) there ∙ m.stands in
    slice_get_within _ _ m.car stands

pub removed-requires-clause-to_last : goal.removed-requires-clause-to_last
removed-requires-clause-to_last g c =
    let b : Board = record { nodes = c.self.inside.nodes; fleet = cars_of c.self.inside.fleet; closed = c.self.inside.closed; waiting = c.self.inside.waiting; answers = c.self.inside.answers.entries; cancelled = c.self.inside.cancelled.keys } in
    let F = g.I.FleetIndex.fits c.self.inside.fleet.index in
    let x = c.args.removal.now in
    let m : MayRemove b c.args.no x = subst (λ v. MayRemove (board_of v) c.args.no x) (sym c.self.view_is) c.requires.possible in
    let there = c.place_of-place.ensures m.assigned (ap (λ v. answer_of (board_of v) c.args.no) (sym c.self.view_is) ∙ m.answer) in
    let stands : slice_get b.fleet.cars c.place_of-place.result ≡ Some m.car = ap (slice_get b.fleet.cars) there ∙ m.stands in
    subst (λ (p : Plan). x.dropoff ≤ length p.stops) (sym (c.schedule.ensures m.car stands)) (last_within b c.args.no x m)

pub change-requires-clause-place : goal.change-requires-clause-place
change-requires-clause-place g c =
    let b : Board = record { nodes = c.self.inside.nodes; fleet = cars_of c.self.inside.fleet; closed = c.self.inside.closed; waiting = c.self.inside.waiting; answers = c.self.inside.answers.entries; cancelled = c.self.inside.cancelled.keys } in
    let F = g.I.FleetIndex.fits c.self.inside.fleet.index in
    let x = c.args.removal.now in
    let m : MayRemove b c.args.no x = subst (λ v. MayRemove (board_of v) c.args.no x) (sym c.self.view_is) c.requires.possible in
    let there = c.place_of-place.ensures m.assigned (ap (λ v. answer_of (board_of v) c.args.no) (sym c.self.view_is) ∙ m.answer) in
    let stands : slice_get b.fleet.cars c.place_of-place.result ≡ Some m.car = ap (slice_get b.fleet.cars) there ∙ m.stands in
    slice_get_within _ _ m.car stands

pub change-requires-clause-change : goal.change-requires-clause-change
change-requires-clause-change g c =
    let b : Board = record { nodes = c.self.inside.nodes; fleet = cars_of c.self.inside.fleet; closed = c.self.inside.closed; waiting = c.self.inside.waiting; answers = c.self.inside.answers.entries; cancelled = c.self.inside.cancelled.keys } in
    let F = g.I.FleetIndex.fits c.self.inside.fleet.index in
    let x = c.args.removal.now in
    let m : MayRemove b c.args.no x = subst (λ v. MayRemove (board_of v) c.args.no x) (sym c.self.view_is) c.requires.possible in
    let there = c.place_of-place.ensures m.assigned (ap (λ v. answer_of (board_of v) c.args.no) (sym c.self.view_is) ∙ m.answer) in
    let stands : slice_get b.fleet.cars c.place_of-place.result ≡ Some m.car = ap (slice_get b.fleet.cars) there ∙ m.stands in
    let i = c.front-front.ensures.bounded m.car stands in
    let f = c.front-front.ensures.value m.car stands in
    let late : b.fleet.clock ≤ (front_of m.car.plan b.fleet.clock).time = subst (λ (h : Front). b.fleet.clock ≤ h.time) f c.front-front.ensures.late in
    let is : c.in_ok-new.new ≡ less_plan b m.car x = less_plan_is b m.car x c.schedule.result.now c.front-front.result c.in_ok-new.new (c.schedule.ensures m.car stands) f c.in_ok-new.ensures in
    may_take_off F b c.self.inside.arrivals c.args.no x m c.self.invariant i.as_many_legs late c.in_ok-new.new is c.place_of-place.result there

pub returns-clause-change : goal.returns-clause-change
returns-clause-change g c =
    let b : Board = record { nodes = c.self.inside.nodes; fleet = cars_of c.self.inside.fleet; closed = c.self.inside.closed; waiting = c.self.inside.waiting; answers = c.self.inside.answers.entries; cancelled = c.self.inside.cancelled.keys } in
    let F = g.I.FleetIndex.fits c.self.inside.fleet.index in
    let x = c.args.removal.now in
    let m : MayRemove b c.args.no x = subst (λ v. MayRemove (board_of v) c.args.no x) (sym c.self.view_is) c.requires.possible in
    let there = c.place_of-place.ensures m.assigned (ap (λ v. answer_of (board_of v) c.args.no) (sym c.self.view_is) ∙ m.answer) in
    let stands : slice_get b.fleet.cars c.place_of-place.result ≡ Some m.car = ap (slice_get b.fleet.cars) there ∙ m.stands in
    let i = c.front-front.ensures.bounded m.car stands in
    let f = c.front-front.ensures.value m.car stands in
    let late : b.fleet.clock ≤ (front_of m.car.plan b.fleet.clock).time = subst (λ (h : Front). b.fleet.clock ≤ h.time) f c.front-front.ensures.late in
    let is : c.in_ok-new.new ≡ less_plan b m.car x = less_plan_is b m.car x c.schedule.result.now c.front-front.result c.in_ok-new.new (c.schedule.ensures m.car stands) f c.in_ok-new.ensures in
    subst (λ v. IfOk c.change.result (λ d. IsTakenOff (g.I.FleetIndex.fits v.fleet.index) (g.I.FleetIndex.fits d.index) (board_of v) c.args.no x d.place d.car d.next)) c.self.view_is
    (ok_after (λ d. IsChangedTo F (g.I.FleetIndex.fits d.index) b.fleet c.place_of-place.result c.in_ok-new.new d.place d.car d.next)
    (λ d. IsTakenOff F (g.I.FleetIndex.fits d.index) b c.args.no x d.place d.car d.next) c.change.result
    (λ d h. takes_off F (g.I.FleetIndex.fits d.index) b c.self.inside.arrivals c.args.no x c.place_of-place.result d.place m c.self.invariant i.as_many_legs late c.in_ok-new.new is there d.car d.next h) c.change.ensures.changed)
