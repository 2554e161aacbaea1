use Rattle.std.proofs.Common.{◌≡◌, List, Some, None, true, refl, sym, ap, ◌∙◌, subst}
use Rattle.std.specs.Prelude.{slice_get}
use Rattle.std.specs.List.{list_any}
use Rattle.std.proofs.lemmas.Option.{slice_get_within}
use Rattle.road_graph.specs.declared.road.NodeNo.{NodeNo}
use Rattle.stop_schedule.specs.declared.stop.Front.{Front}
use Rattle.stop_schedule.specs.declared.stop.Stop.{Stop}
use Rattle.stop_schedule.specs.Distances.{AreLeastWalks}
use Rattle.stop_schedule.specs.Fleets.{IsGoodFleet}
use Rattle.stop_schedule.specs.Fronts.{front_of}
use Rattle.stop_schedule.specs.Keeping.{IsProper, picks_up}
use Rattle.stop_schedule.specs.Plans.{Plan}
use Rattle.stop_removal.specs.declared.removal.Removal.{Removal}
use Rattle.stop_removal.specs.Removals.{AreStopsOf, joint_ends}
use Rattle.board_core.specs.BoardCalls.{MayRemove, HasLeastJoins}
use Rattle.board_core.specs.BoardViews.{board_of}
use Rattle.board_core.specs.Boards.{Board, answer_of}
use Rattle.board_core.specs.Changes.{IsGraphOf}
use Rattle.board_core.specs.FleetViews.{cars_of}
use Rattle.board_core.specs.Steps.{cancel_refusal}
use Rattle.board_core.proofs.IsLeaving.{IsLeaving, leaving, may_join, may_leave, leaves_least}
use Rattle.board_core.proofs.board.Board.removal_of.Goals as goal

pub stops_of-pickup-requires-clause-proper : goal.stops_of-pickup-requires-clause-proper
stops_of-pickup-requires-clause-proper g c =
    let b : Board = record { nodes = c.self.inside.nodes; fleet = cars_of c.self.inside.fleet; closed = c.self.inside.closed; waiting = c.self.inside.waiting; answers = c.self.inside.answers.entries; cancelled = c.self.inside.cancelled.keys } in
    let w = g.W.Walker.graph c.args.walker.now in
    let refused : cancel_refusal b c.args.no ≡ None = subst (λ v. cancel_refusal (board_of v) c.args.no ≡ None) (sym c.self.view_is) c.requires.not_refused in
    let l : IsLeaving w b c.args.no = leaving w b c.args.no (subst (λ v. IsGoodFleet w (board_of v).fleet) (sym c.self.view_is) c.requires.good) refused in
    let there = c.place_of-place.ensures l.assigned (ap (λ v. answer_of (board_of v) c.args.no) (sym c.self.view_is) ∙ l.answer) in
    let stands : slice_get b.fleet.cars c.place_of-place.result ≡ Some l.car = ap (slice_get b.fleet.cars) there ∙ l.stands in
    let plan : c.schedule-schedule.result.now ≡ l.car.plan = c.schedule-schedule.ensures l.car stands in
    subst IsProper (sym plan) l.good.proper

pub stops_of-pickup-requires-clause-some : goal.stops_of-pickup-requires-clause-some
stops_of-pickup-requires-clause-some g c =
    let b : Board = record { nodes = c.self.inside.nodes; fleet = cars_of c.self.inside.fleet; closed = c.self.inside.closed; waiting = c.self.inside.waiting; answers = c.self.inside.answers.entries; cancelled = c.self.inside.cancelled.keys } in
    let w = g.W.Walker.graph c.args.walker.now in
    let refused : cancel_refusal b c.args.no ≡ None = subst (λ v. cancel_refusal (board_of v) c.args.no ≡ None) (sym c.self.view_is) c.requires.not_refused in
    let l : IsLeaving w b c.args.no = leaving w b c.args.no (subst (λ v. IsGoodFleet w (board_of v).fleet) (sym c.self.view_is) c.requires.good) refused in
    let there = c.place_of-place.ensures l.assigned (ap (λ v. answer_of (board_of v) c.args.no) (sym c.self.view_is) ∙ l.answer) in
    let stands : slice_get b.fleet.cars c.place_of-place.result ≡ Some l.car = ap (slice_get b.fleet.cars) there ∙ l.stands in
    let plan : c.schedule-schedule.result.now ≡ l.car.plan = c.schedule-schedule.ensures l.car stands in
    subst (λ (p : Plan). list_any (picks_up c.args.no) p.stops ≡ true) (sym plan) l.picks

pub front-front-requires-clause-place : goal.front-front-requires-clause-place
front-front-requires-clause-place g c =
    let b : Board = record { nodes = c.self.inside.nodes; fleet = cars_of c.self.inside.fleet; closed = c.self.inside.closed; waiting = c.self.inside.waiting; answers = c.self.inside.answers.entries; cancelled = c.self.inside.cancelled.keys } in
    let w = g.W.Walker.graph c.args.walker.now in
    let refused : cancel_refusal b c.args.no ≡ None = subst (λ v. cancel_refusal (board_of v) c.args.no ≡ None) (sym c.self.view_is) c.requires.not_refused in
    let l : IsLeaving w b c.args.no = leaving w b c.args.no (subst (λ v. IsGoodFleet w (board_of v).fleet) (sym c.self.view_is) c.requires.good) refused in
    let there = c.place_of-place.ensures l.assigned (ap (λ v. answer_of (board_of v) c.args.no) (sym c.self.view_is) ∙ l.answer) in
    let stands : slice_get b.fleet.cars c.place_of-place.result ≡ Some l.car = ap (slice_get b.fleet.cars) there ∙ l.stands in
    let plan : c.schedule-schedule.result.now ≡ l.car.plan = c.schedule-schedule.ensures l.car stands in
    slice_get_within _ _ l.car stands

pub no-requires : goal.no-requires
no-requires g c =
    let b : Board = record { nodes = c.self.inside.nodes; fleet = cars_of c.self.inside.fleet; closed = c.self.inside.closed; waiting = c.self.inside.waiting; answers = c.self.inside.answers.entries; cancelled = c.self.inside.cancelled.keys } in
    let w = g.W.Walker.graph c.args.walker.now in
    let refused : cancel_refusal b c.args.no ≡ None = subst (λ v. cancel_refusal (board_of v) c.args.no ≡ None) (sym c.self.view_is) c.requires.not_refused in
    let l : IsLeaving w b c.args.no = leaving w b c.args.no (subst (λ v. IsGoodFleet w (board_of v).fleet) (sym c.self.view_is) c.requires.good) refused in
    let there = c.place_of-place.ensures l.assigned (ap (λ v. answer_of (board_of v) c.args.no) (sym c.self.view_is) ∙ l.answer) in
    let stands : slice_get b.fleet.cars c.place_of-place.result ≡ Some l.car = ap (slice_get b.fleet.cars) there ∙ l.stands in
    let plan : c.schedule-schedule.result.now ≡ l.car.plan = c.schedule-schedule.ensures l.car stands in
    slice_get_within _ _ l.car stands

pub joined-requires : goal.joined-requires
joined-requires g c =
    let b : Board = record { nodes = c.self.inside.nodes; fleet = cars_of c.self.inside.fleet; closed = c.self.inside.closed; waiting = c.self.inside.waiting; answers = c.self.inside.answers.entries; cancelled = c.self.inside.cancelled.keys } in
    let w = g.W.Walker.graph c.args.walker.now in
    let refused : cancel_refusal b c.args.no ≡ None = subst (λ v. cancel_refusal (board_of v) c.args.no ≡ None) (sym c.self.view_is) c.requires.not_refused in
    let l : IsLeaving w b c.args.no = leaving w b c.args.no (subst (λ v. IsGoodFleet w (board_of v).fleet) (sym c.self.view_is) c.requires.good) refused in
    let there = c.place_of-place.ensures l.assigned (ap (λ v. answer_of (board_of v) c.args.no) (sym c.self.view_is) ∙ l.answer) in
    let stands : slice_get b.fleet.cars c.place_of-place.result ≡ Some l.car = ap (slice_get b.fleet.cars) there ∙ l.stands in
    let plan : c.schedule-schedule.result.now ≡ l.car.plan = c.schedule-schedule.ensures l.car stands in
    let i = c.stops_of-pickup.result.0 in
    let j = c.stops_of-pickup.result.1 in
    let at : AreStopsOf c.args.no l.car.plan.stops i j = subst (λ (p : Plan). AreStopsOf c.args.no p.stops i j) plan c.stops_of-pickup.ensures.stops in
    let stops : c.schedule-schedule.result.now.stops ≡ l.car.plan.stops = ap (λ (p : Plan). p.stops) plan in
    let front : c.front-front.result ≡ front_of l.car.plan b.fleet.clock = c.front-front.ensures.value l.car stands in
    let many : w.nodes ≡ b.nodes = subst (λ v. w.nodes ≡ (board_of v).nodes) (sym c.self.view_is) c.requires.nodes in
    may_join (g.I.FleetIndex.fits c.self.inside.fleet.index) w b c.self.inside.arrivals c.args.no l c.self.invariant many i j at c.schedule-schedule.result.now.stops c.front-front.result _ stops front c.joints-ends.ensures.all

pub returns-clause-possible : goal.returns-clause-possible
returns-clause-possible g c =
    let b : Board = record { nodes = c.self.inside.nodes; fleet = cars_of c.self.inside.fleet; closed = c.self.inside.closed; waiting = c.self.inside.waiting; answers = c.self.inside.answers.entries; cancelled = c.self.inside.cancelled.keys } in
    let w = g.W.Walker.graph c.args.walker.now in
    let refused : cancel_refusal b c.args.no ≡ None = subst (λ v. cancel_refusal (board_of v) c.args.no ≡ None) (sym c.self.view_is) c.requires.not_refused in
    let l : IsLeaving w b c.args.no = leaving w b c.args.no (subst (λ v. IsGoodFleet w (board_of v).fleet) (sym c.self.view_is) c.requires.good) refused in
    let there = c.place_of-place.ensures l.assigned (ap (λ v. answer_of (board_of v) c.args.no) (sym c.self.view_is) ∙ l.answer) in
    let stands : slice_get b.fleet.cars c.place_of-place.result ≡ Some l.car = ap (slice_get b.fleet.cars) there ∙ l.stands in
    let plan : c.schedule-schedule.result.now ≡ l.car.plan = c.schedule-schedule.ensures l.car stands in
    let i = c.stops_of-pickup.result.0 in
    let j = c.stops_of-pickup.result.1 in
    let at : AreStopsOf c.args.no l.car.plan.stops i j = subst (λ (p : Plan). AreStopsOf c.args.no p.stops i j) plan c.stops_of-pickup.ensures.stops in
    let stops : c.schedule-schedule.result.now.stops ≡ l.car.plan.stops = ap (λ (p : Plan). p.stops) plan in
    let front : c.front-front.result ≡ front_of l.car.plan b.fleet.clock = c.front-front.ensures.value l.car stands in
    let many : w.nodes ≡ b.nodes = subst (λ v. w.nodes ≡ (board_of v).nodes) (sym c.self.view_is) c.requires.nodes in
    let ends = c.joints-ends.ensures.all ∙ ap (λ (s : List Stop). joint_ends s c.front-front.result i j) stops ∙ ap (λ (f : Front). joint_ends l.car.plan.stops f i j) front in
    let walks = c.in_ok-joined.field-0 in
    let least : AreLeastWalks w (joint_ends l.car.plan.stops (front_of l.car.plan b.fleet.clock) i j) walks = subst (λ (e : List (NodeNo × NodeNo)). AreLeastWalks w e walks) ends c.in_ok-joined.ensures.walks in
    let x : Removal = record { no = c.no.result; pickup = i; dropoff = j; walks = walks } in
    subst (λ v. MayRemove (board_of v) c.args.no x) c.self.view_is
    (may_leave w b c.args.no l x many refused (c.no.ensures l.car stands) at least (subst (IsGraphOf w) ends (c.in_ok-joined.ensures.graph refl)))

pub returns-clause-least : goal.returns-clause-least
returns-clause-least g c =
    let b : Board = record { nodes = c.self.inside.nodes; fleet = cars_of c.self.inside.fleet; closed = c.self.inside.closed; waiting = c.self.inside.waiting; answers = c.self.inside.answers.entries; cancelled = c.self.inside.cancelled.keys } in
    let w = g.W.Walker.graph c.args.walker.now in
    let refused : cancel_refusal b c.args.no ≡ None = subst (λ v. cancel_refusal (board_of v) c.args.no ≡ None) (sym c.self.view_is) c.requires.not_refused in
    let l : IsLeaving w b c.args.no = leaving w b c.args.no (subst (λ v. IsGoodFleet w (board_of v).fleet) (sym c.self.view_is) c.requires.good) refused in
    let there = c.place_of-place.ensures l.assigned (ap (λ v. answer_of (board_of v) c.args.no) (sym c.self.view_is) ∙ l.answer) in
    let stands : slice_get b.fleet.cars c.place_of-place.result ≡ Some l.car = ap (slice_get b.fleet.cars) there ∙ l.stands in
    let plan : c.schedule-schedule.result.now ≡ l.car.plan = c.schedule-schedule.ensures l.car stands in
    let i = c.stops_of-pickup.result.0 in
    let j = c.stops_of-pickup.result.1 in
    let at : AreStopsOf c.args.no l.car.plan.stops i j = subst (λ (p : Plan). AreStopsOf c.args.no p.stops i j) plan c.stops_of-pickup.ensures.stops in
    let stops : c.schedule-schedule.result.now.stops ≡ l.car.plan.stops = ap (λ (p : Plan). p.stops) plan in
    let front : c.front-front.result ≡ front_of l.car.plan b.fleet.clock = c.front-front.ensures.value l.car stands in
    let many : w.nodes ≡ b.nodes = subst (λ v. w.nodes ≡ (board_of v).nodes) (sym c.self.view_is) c.requires.nodes in
    let ends = c.joints-ends.ensures.all ∙ ap (λ (s : List Stop). joint_ends s c.front-front.result i j) stops ∙ ap (λ (f : Front). joint_ends l.car.plan.stops f i j) front in
    let walks = c.in_ok-joined.field-0 in
    let least : AreLeastWalks w (joint_ends l.car.plan.stops (front_of l.car.plan b.fleet.clock) i j) walks = subst (λ (e : List (NodeNo × NodeNo)). AreLeastWalks w e walks) ends c.in_ok-joined.ensures.walks in
    let x : Removal = record { no = c.no.result; pickup = i; dropoff = j; walks = walks } in
    subst (λ v. HasLeastJoins w (board_of v) c.args.no x) c.self.view_is (leaves_least w b c.args.no l x least)
