use Rattle.std.proofs.Common.{◌≡◌, ◌+◌, map, sym, ap, subst, ◌∙◌}
use Rattle.stop_schedule.specs.Fleets.{Car}
use Rattle.stop_schedule.specs.Rates.{Rates}
use Rattle.board_core.specs.BoardKept.{next_arrival}
use Rattle.board_core.specs.Boards.{Board}
use Rattle.board_core.specs.Changes.{AreMovedFrom, FitsLater}
use Rattle.board_core.specs.FleetViews.{cars_of}
use Rattle.board_core.specs.Steps.{moved_car}
use Rattle.board_core.proofs.KeptBoards.{later_kept}
use Rattle.board_core.proofs.board.Board.move_to.Goals as goal

pub renew-requires-clause-moved : goal.renew-requires-clause-moved
renew-requires-clause-moved g c =
    subst (λ (r : Rates). AreMovedFrom r c.args.now c.args.moved.cars c.self.inside.arrivals) (sym c.params.ensures) (record {
      version = c.self.inside.fleet.version + 1;
      old = c.self.inside.fleet.cars;
      cars_are = subst (λ v. c.args.moved.cars ≡ map (moved_car v.fleet.params (v.fleet.version + 1) c.args.now) v.fleet.cars) (sym c.self.view_is) c.requires.cars;
      next = c.self.invariant.fleet.next;
    })

pub invariant_of-self : goal.invariant_of-self
invariant_of-self g c =
    let b : Board = record { nodes = c.self.inside.nodes; fleet = cars_of c.self.inside.fleet; closed = c.self.inside.closed; waiting = c.self.inside.waiting; answers = c.self.inside.answers.entries; cancelled = c.self.inside.cancelled.keys } in
    let F = g.I.FleetIndex.fits c.self.inside.fleet.index in
    let d = c.args.moved in
    let G = g.I.FleetIndex.fits d.index in
    let next : c.renew.new.arrivals ≡ map (λ (car : Car). next_arrival b.fleet.rates car.plan) d.cars = c.renew.ensures ∙ ap (λ (r : Rates). map (λ (car : Car). next_arrival r car.plan) d.cars) c.params.ensures in
    later_kept F G b c.args.now c.self.inside.arrivals d.cars c.renew.new.arrivals c.self.invariant c.requires.moment
    (subst (λ v. FitsLater (g.I.FleetIndex.fits v.fleet.index) G (cars_of v.fleet) c.args.now) (sym c.self.view_is) c.requires.index)
    (subst (λ v. d.cars ≡ map (moved_car v.fleet.params (v.fleet.version + 1) c.args.now) v.fleet.cars) (sym c.self.view_is) c.requires.cars) next
