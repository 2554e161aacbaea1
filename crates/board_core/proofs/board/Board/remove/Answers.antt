use Rattle.std.proofs.Common.{◌≡◌, ℕ, List, sym, ap, ◌∙◌, subst}
use Rattle.std.specs.Prelude.{slice_set}
use Rattle.board_core.specs.Boards.{Board}
use Rattle.board_core.specs.BoardCalls.{MayRemove, FitsOn}
use Rattle.board_core.specs.BoardKept.{IsKeptBoard}
use Rattle.board_core.specs.BoardViews.{board_of}
use Rattle.board_core.specs.Changes.{IsTakenOff}
use Rattle.board_core.specs.FleetViews.{cars_of}
use Rattle.board_core.specs.Steps.{with_car, with_cancelled}
use Rattle.std.specs.BTreeMap.{is_at}
use Rattle.std.specs.Set.{remove_key}
use Rattle.board_core.specs.Boards.{by_number}
use Rattle.board_core.proofs.KeptBoards.{key_undone, not_cancelled, place_within, removed_fits, removed_is, removed_kept, same_but_keys}
use Rattle.board_core.proofs.board.Board.remove.Goals as goal

pub set-requires-2 : goal.set-requires-2
set-requires-2 g c =
    let b : Board = record { nodes = c.self.inside.nodes; fleet = cars_of c.self.inside.fleet; closed = c.self.inside.closed; waiting = c.self.inside.waiting; answers = c.self.inside.answers.entries; cancelled = c.self.inside.cancelled.keys } in
    let F = g.I.FleetIndex.fits c.self.inside.fleet.index in
    let x = c.args.removal.now in
    let d = c.in_ok-change.change in
    let t : IsTakenOff F (g.I.FleetIndex.fits d.index) b c.args.no x d.place d.car d.next =
    subst (λ v. IsTakenOff (g.I.FleetIndex.fits v.fleet.index) (g.I.FleetIndex.fits d.index) (board_of v) c.args.no x d.place d.car d.next) (sym c.self.view_is) c.in_ok-change.ensures.change in
    place_within F b.nodes b.fleet c.self.inside.arrivals d.place t.old c.self.invariant.fleet t.stands

pub invariant_of-self-2 : goal.invariant_of-self-2
invariant_of-self-2 g c =
    let b : Board = record { nodes = c.self.inside.nodes; fleet = cars_of c.self.inside.fleet; closed = c.self.inside.closed; waiting = c.self.inside.waiting; answers = c.self.inside.answers.entries; cancelled = c.self.inside.cancelled.keys } in
    let F = g.I.FleetIndex.fits c.self.inside.fleet.index in
    let x = c.args.removal.now in
    let d = c.in_ok-change.change in
    let t : IsTakenOff F (g.I.FleetIndex.fits d.index) b c.args.no x d.place d.car d.next =
    subst (λ v. IsTakenOff (g.I.FleetIndex.fits v.fleet.index) (g.I.FleetIndex.fits d.index) (board_of v) c.args.no x d.place d.car d.next) (sym c.self.view_is) c.in_ok-change.ensures.change in
    let new : Board = record b { fleet = cars_of c.set.new.self; cancelled = c.insert.new.self.keys } in
    let is : new ≡ with_car (with_cancelled b c.args.no) d.place d.car = removed_is b c.args.no d.place d.car (cars_of c.set.new.self) c.insert.new.self.keys c.in_default.ensures.ok c.in_ok-insert.ensures.keys in
    subst (λ i. IsKeptBoard (g.I.FleetIndex.fits i) new c.set-2.new.self) (sym c.in_default.ensures.index)
    (subst (λ (l : List ℕ). IsKeptBoard (g.I.FleetIndex.fits d.index) new l) (sym c.set-2.ensures)
    (subst (λ (n : Board). IsKeptBoard (g.I.FleetIndex.fits d.index) n (slice_set c.self.inside.arrivals d.place d.next)) (sym is)
    (removed_kept F (g.I.FleetIndex.fits d.index) b c.args.no x d.place d.car d.next c.self.inside.arrivals t c.self.invariant)))

pub returns-clause-index : goal.returns-clause-index
returns-clause-index g c =
    let b : Board = record { nodes = c.self.inside.nodes; fleet = cars_of c.self.inside.fleet; closed = c.self.inside.closed; waiting = c.self.inside.waiting; answers = c.self.inside.answers.entries; cancelled = c.self.inside.cancelled.keys } in
    let F = g.I.FleetIndex.fits c.self.inside.fleet.index in
    let x = c.args.removal.now in
    let d = c.in_ok-change.change in
    let t : IsTakenOff F (g.I.FleetIndex.fits d.index) b c.args.no x d.place d.car d.next =
    subst (λ v. IsTakenOff (g.I.FleetIndex.fits v.fleet.index) (g.I.FleetIndex.fits d.index) (board_of v) c.args.no x d.place d.car d.next) (sym c.self.view_is) c.in_ok-change.ensures.change in
    let new : Board = record b { fleet = cars_of c.set.new.self; cancelled = c.insert.new.self.keys } in
    let is : new ≡ with_car (with_cancelled b c.args.no) d.place d.car = removed_is b c.args.no d.place d.car (cars_of c.set.new.self) c.insert.new.self.keys c.in_default.ensures.ok c.in_ok-insert.ensures.keys in
    subst (λ v. FitsOn (g.I.FleetIndex.fits v.fleet.index) (g.I.FleetIndex.fits c.set.new.self.index) (board_of v) new) c.self.view_is
    (subst (λ i. FitsOn F (g.I.FleetIndex.fits i) b new) (sym c.in_default.ensures.index)
    (subst (λ (n : Board). FitsOn F (g.I.FleetIndex.fits d.index) b n) (sym is) (removed_fits F (g.I.FleetIndex.fits d.index) b c.args.no x d.place d.car d.next t)))

pub returns-in-Err-clause-err : goal.returns-in-Err-clause-err
returns-in-Err-clause-err g c =
    let b : Board = record { nodes = c.self.inside.nodes; fleet = cars_of c.self.inside.fleet; closed = c.self.inside.closed; waiting = c.self.inside.waiting; answers = c.self.inside.answers.entries; cancelled = c.self.inside.cancelled.keys } in
    let F = g.I.FleetIndex.fits c.self.inside.fleet.index in
    let x = c.args.removal.now in
    let d = c.in_ok-change.change in
    let t : IsTakenOff F (g.I.FleetIndex.fits d.index) b c.args.no x d.place d.car d.next =
    subst (λ v. IsTakenOff (g.I.FleetIndex.fits v.fleet.index) (g.I.FleetIndex.fits d.index) (board_of v) c.args.no x d.place d.car d.next) (sym c.self.view_is) c.in_ok-change.ensures.change in
    let m : MayRemove b c.args.no x = subst (λ v. MayRemove (board_of v) c.args.no x) (sym c.self.view_is) c.requires.possible in
    let none = (not_cancelled b c.args.no m.assigned m.not_refused m.answer).0 in
    let keys : c.remove.new.self.keys ≡ b.cancelled = c.remove.ensures.keys ∙ ap (remove_key (is_at (by_number c.args.no))) c.in_ok-insert.ensures.keys ∙ key_undone c.args.no b.cancelled none in
    same_but_keys _ c.set.new.self c.remove.new.self.keys c.in-Err.ensures.err keys ∙ c.self.view_is
