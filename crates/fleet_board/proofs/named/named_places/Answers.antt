use Rattle.std.proofs.Common.{ℕ, [], subst, arith}
use Rattle.std.proofs.lemmas.List.Filters.{dedup_is}
use Rattle.stop_schedule.specs.Fleets.{Car}
use Rattle.board_core.specs.NamedVehicles.{Names}
use Rattle.fleet_board.specs.declared.journal.Noted.{Noted}
use Rattle.fleet_board.specs.Named.{Gathers}
use Rattle.fleet_board.proofs.Gathered.{gathered_all, gathered_more, held_named}
use Rattle.fleet_board.proofs.named.named_places.Goals as goal

pub loop-one-preserved : goal.loop-one-preserved
loop-one-preserved g c = gathered_more (g.F.FleetView.fleet c.args.view.now) (λ (n : Noted) (p : ℕ) (car : Car). Names n.entry p car.no)
    c.args.noted.now c.loop-one.one-index _ [] c.loop-one.places.items c.add_named.new.places.items c.loop-one-test.true
    c.loop-one.invariant
    (subst (λ (n : Noted). Gathers (g.F.FleetView.fleet c.args.view.now) (λ (p : ℕ) (car : Car). Names n.entry p car.no)
    c.loop-one.places.items c.add_named.new.places.items) c.one-item.is c.in_ok-add_named.ensures)

pub returns : goal.returns
returns g c = held_named (g.F.FleetView.fleet c.args.view.now) c.args.noted.now c.loop-one.places.items c.sort_unstable.new.self.items
    c.dedup.new.self.items
    (gathered_all (g.F.FleetView.fleet c.args.view.now) (λ (n : Noted) (p : ℕ) (car : Car). Names n.entry p car.no) c.args.noted.now
    c.loop-one.one-index [] c.loop-one.places.items (let l = c.loop-one-test.false in omega arith) c.loop-one.invariant)
    c.sort_unstable.ensures.permutation c.sort_unstable.ensures.sorted (dedup_is _ _ _ c.dedup.ensures.filtered)
