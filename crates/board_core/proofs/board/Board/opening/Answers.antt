use Rattle.std.proofs.Common.{◌≡◌, ℕ, [], List, length, sym, ap, ◌∙◌, subst}
use Rattle.stop_schedule.specs.Fleets.{Cars}
use Rattle.board_core.specs.BoardKept.{IsKeptBoard}
use Rattle.board_core.specs.FleetViews.{cars_of}
use Rattle.std.proofs.Common.{false}
use Rattle.std.specs.Prelude.{replicate}
use Rattle.std.proofs.lemmas.List.{length-map}
use Rattle.board_core.specs.BoardKept.{never}
use Rattle.board_core.specs.Boards.{opening_car, opening_fleet}
use Rattle.board_core.proofs.KeptBoards.{opening_kept}
use Rattle.board_core.proofs.board.Board.opening.Goals as goal

pub invariant_of-result : goal.invariant_of-result
invariant_of-result g c =
    let F = g.I.FleetIndex.fits c.args.index in
    let k = opening_kept F c.args.nodes c.args.params c.args.fleet.now c.requires.vehicles c.requires.index in
    let n : c.count.result ≡ length c.args.fleet.now = c.count.ensures ∙ ap (λ (f : Cars). length f.cars) c.in_ok-fleet.ensures.value ∙ length-map c.args.fleet.now opening_car in
    let arrivals : c.in_ok-arrivals.arrivals ≡ replicate (length c.args.fleet.now) never = c.in_ok-arrivals.ensures ∙ ap (λ (m : ℕ). replicate m never) n in
    subst (λ i. IsKeptBoard (g.I.FleetIndex.fits i) (record { nodes = c.args.nodes; fleet = cars_of c.in_ok-fleet.fleet; closed = false; waiting = c.new.result; answers = c.new-2.result.entries; cancelled = c.new-3.result.keys }) c.in_ok-arrivals.arrivals) (sym c.in_ok-fleet.ensures.index)
    (subst (λ (l : List ℕ). IsKeptBoard F (record { nodes = c.args.nodes; fleet = cars_of c.in_ok-fleet.fleet; closed = false; waiting = c.new.result; answers = c.new-2.result.entries; cancelled = c.new-3.result.keys }) l) (sym arrivals)
    (subst (λ (f : Cars). IsKeptBoard F (record { nodes = c.args.nodes; fleet = f; closed = false; waiting = c.new.result; answers = c.new-2.result.entries; cancelled = c.new-3.result.keys }) (replicate (length c.args.fleet.now) never)) (sym c.in_ok-fleet.ensures.value)
    (subst (λ w. IsKeptBoard F (record { nodes = c.args.nodes; fleet = opening_fleet c.args.params c.args.fleet.now; closed = false; waiting = w; answers = c.new-2.result.entries; cancelled = c.new-3.result.keys }) (replicate (length c.args.fleet.now) never)) (sym c.new.ensures)
    (subst (λ a. IsKeptBoard F (record { nodes = c.args.nodes; fleet = opening_fleet c.args.params c.args.fleet.now; closed = false; waiting = []; answers = a; cancelled = c.new-3.result.keys }) (replicate (length c.args.fleet.now) never)) (sym c.new-2.ensures.empty)
    (subst (λ r. IsKeptBoard F (record { nodes = c.args.nodes; fleet = opening_fleet c.args.params c.args.fleet.now; closed = false; waiting = []; answers = []; cancelled = r }) (replicate (length c.args.fleet.now) never)) (sym c.new-3.ensures.empty) k)))))
