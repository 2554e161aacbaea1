use Rattle.std.proofs.Common.{◌≡◌, ℕ, List, sym, ap, ◌∙◌, subst}
use Rattle.std.specs.Prelude.{slice_set}
use Rattle.std.proofs.lemmas.Option.{same_Some, slice_get_within}
use Rattle.insertion_cost.specs.declared.decision.Decision.TheVariants.{Assigned as IsAssigned}
use Rattle.board_core.specs.Boards.{Board}
use Rattle.board_core.specs.BoardCalls.{Applies, FitsOn}
use Rattle.board_core.specs.BoardKept.{IsKeptBoard}
use Rattle.board_core.specs.BoardViews.{board_of}
use Rattle.board_core.specs.Changes.{IsTakenOn}
use Rattle.board_core.specs.FleetViews.{cars_of}
use Rattle.board_core.specs.Steps.{answered, with_car}
use Rattle.std.specs.BTreeMap.{is_at}
use Rattle.std.specs.Map.{remove_entry}
use Rattle.board_core.specs.Boards.{by_number}
use Rattle.board_core.proofs.Lookups.{find_answer}
use Rattle.board_core.proofs.KeptBoards.{answer_found, answer_undone, assigned_is, none_yet, place_within, taken_board, taken_fits, taken_kept, same_value, undone_kept, with_parts}
use Rattle.board_core.proofs.board.Board.assign.Goals as goal

pub set-requires-clause-place : goal.set-requires-clause-place
set-requires-clause-place g c =
    let b : Board = record { nodes = c.self.inside.nodes; fleet = cars_of c.self.inside.fleet; closed = c.self.inside.closed; waiting = c.self.inside.waiting; answers = c.self.inside.answers.entries; cancelled = c.self.inside.cancelled.keys } in
    let a = c.args.assigned in
    let d = c.in-Ok.change in
    let F = g.I.FleetIndex.fits c.self.inside.fleet.index in
    let t : IsTakenOn F (g.I.FleetIndex.fits d.index) b c.args.no a c.args.direct d.place d.car d.next =
    subst (λ v. IsTakenOn (g.I.FleetIndex.fits v.fleet.index) (g.I.FleetIndex.fits d.index) (board_of v) c.args.no a c.args.direct d.place d.car d.next) (sym c.self.view_is) c.in-Ok.ensures.change in
    slice_get_within _ _ t.old t.stands

pub set-requires-2 : goal.set-requires-2
set-requires-2 g c =
    let b : Board = record { nodes = c.self.inside.nodes; fleet = cars_of c.self.inside.fleet; closed = c.self.inside.closed; waiting = c.self.inside.waiting; answers = c.self.inside.answers.entries; cancelled = c.self.inside.cancelled.keys } in
    let a = c.args.assigned in
    let d = c.in-Ok.change in
    let F = g.I.FleetIndex.fits c.self.inside.fleet.index in
    let t : IsTakenOn F (g.I.FleetIndex.fits d.index) b c.args.no a c.args.direct d.place d.car d.next =
    subst (λ v. IsTakenOn (g.I.FleetIndex.fits v.fleet.index) (g.I.FleetIndex.fits d.index) (board_of v) c.args.no a c.args.direct d.place d.car d.next) (sym c.self.view_is) c.in-Ok.ensures.change in
    place_within F b.nodes b.fleet c.self.inside.arrivals d.place t.old c.self.invariant.fleet t.stands

pub invariant_of-self-2 : goal.invariant_of-self-2
invariant_of-self-2 g c =
    let b : Board = record { nodes = c.self.inside.nodes; fleet = cars_of c.self.inside.fleet; closed = c.self.inside.closed; waiting = c.self.inside.waiting; answers = c.self.inside.answers.entries; cancelled = c.self.inside.cancelled.keys } in
    let a = c.args.assigned in
    let d = c.in-Ok.change in
    let F = g.I.FleetIndex.fits c.self.inside.fleet.index in
    let t : IsTakenOn F (g.I.FleetIndex.fits d.index) b c.args.no a c.args.direct d.place d.car d.next =
    subst (λ v. IsTakenOn (g.I.FleetIndex.fits v.fleet.index) (g.I.FleetIndex.fits d.index) (board_of v) c.args.no a c.args.direct d.place d.car d.next) (sym c.self.view_is) c.in-Ok.ensures.change in
    let new : Board = with_parts b (cars_of c.set.new.self) c.remove-2.new.self c.insert.new.self.entries in
    let is : new ≡ with_car (answered b c.args.no (IsAssigned a)) d.place d.car =
    assigned_is b c.args.no (IsAssigned a) d.place d.car (cars_of c.set.new.self) c.remove-2.new.self c.insert.new.self.entries c.in_default-set.ensures.ok c.remove-2.ensures c.in_default-insert.ensures.entries in
    subst (λ i. IsKeptBoard (g.I.FleetIndex.fits i) new c.set-2.new.self) (sym c.in_default-set.ensures.index)
    (subst (λ (l : List ℕ). IsKeptBoard (g.I.FleetIndex.fits d.index) new l) (sym c.set-2.ensures)
    (subst (λ (n : Board). IsKeptBoard (g.I.FleetIndex.fits d.index) n (slice_set c.self.inside.arrivals d.place d.next)) (sym is)
    (taken_kept F (g.I.FleetIndex.fits d.index) b c.args.no a c.args.direct d.place d.car d.next c.self.inside.arrivals t c.self.invariant)))

pub returns-clause-value : goal.returns-clause-value
returns-clause-value g c =
    let b : Board = record { nodes = c.self.inside.nodes; fleet = cars_of c.self.inside.fleet; closed = c.self.inside.closed; waiting = c.self.inside.waiting; answers = c.self.inside.answers.entries; cancelled = c.self.inside.cancelled.keys } in
    let a = c.args.assigned in
    let d = c.in-Ok.change in
    let F = g.I.FleetIndex.fits c.self.inside.fleet.index in
    let t : IsTakenOn F (g.I.FleetIndex.fits d.index) b c.args.no a c.args.direct d.place d.car d.next =
    subst (λ v. IsTakenOn (g.I.FleetIndex.fits v.fleet.index) (g.I.FleetIndex.fits d.index) (board_of v) c.args.no a c.args.direct d.place d.car d.next) (sym c.self.view_is) c.in-Ok.ensures.change in
    let new : Board = with_parts b (cars_of c.set.new.self) c.remove-2.new.self c.insert.new.self.entries in
    let is : new ≡ with_car (answered b c.args.no (IsAssigned a)) d.place d.car =
    assigned_is b c.args.no (IsAssigned a) d.place d.car (cars_of c.set.new.self) c.remove-2.new.self c.insert.new.self.entries c.in_default-set.ensures.ok c.remove-2.ensures c.in_default-insert.ensures.entries in
    subst (λ v. Applies (board_of v) c.args.no (IsAssigned a) c.args.direct new) c.self.view_is (taken_board F (g.I.FleetIndex.fits d.index) b c.args.no a c.args.direct d.place d.car d.next new t is)

pub returns-clause-index : goal.returns-clause-index
returns-clause-index g c =
    let b : Board = record { nodes = c.self.inside.nodes; fleet = cars_of c.self.inside.fleet; closed = c.self.inside.closed; waiting = c.self.inside.waiting; answers = c.self.inside.answers.entries; cancelled = c.self.inside.cancelled.keys } in
    let a = c.args.assigned in
    let d = c.in-Ok.change in
    let F = g.I.FleetIndex.fits c.self.inside.fleet.index in
    let t : IsTakenOn F (g.I.FleetIndex.fits d.index) b c.args.no a c.args.direct d.place d.car d.next =
    subst (λ v. IsTakenOn (g.I.FleetIndex.fits v.fleet.index) (g.I.FleetIndex.fits d.index) (board_of v) c.args.no a c.args.direct d.place d.car d.next) (sym c.self.view_is) c.in-Ok.ensures.change in
    let new : Board = with_parts b (cars_of c.set.new.self) c.remove-2.new.self c.insert.new.self.entries in
    let is : new ≡ with_car (answered b c.args.no (IsAssigned a)) d.place d.car =
    assigned_is b c.args.no (IsAssigned a) d.place d.car (cars_of c.set.new.self) c.remove-2.new.self c.insert.new.self.entries c.in_default-set.ensures.ok c.remove-2.ensures c.in_default-insert.ensures.entries in
    subst (λ v. FitsOn (g.I.FleetIndex.fits v.fleet.index) (g.I.FleetIndex.fits c.set.new.self.index) (board_of v) new) c.self.view_is
    (subst (λ i. FitsOn F (g.I.FleetIndex.fits i) b new) (sym c.in_default-set.ensures.index)
    (subst (λ (n : Board). FitsOn F (g.I.FleetIndex.fits d.index) b n) (sym is) (taken_fits F (g.I.FleetIndex.fits d.index) b c.args.no a c.args.direct d.place d.car d.next t)))

pub invariant_of-self-in-Err-set : goal.invariant_of-self-in-Err-set
invariant_of-self-in-Err-set g c =
    let b : Board = record { nodes = c.self.inside.nodes; fleet = cars_of c.self.inside.fleet; closed = c.self.inside.closed; waiting = c.self.inside.waiting; answers = c.self.inside.answers.entries; cancelled = c.self.inside.cancelled.keys } in
    let a = c.args.assigned in
    let d = c.in-Ok.change in
    let F = g.I.FleetIndex.fits c.self.inside.fleet.index in
    let t : IsTakenOn F (g.I.FleetIndex.fits d.index) b c.args.no a c.args.direct d.place d.car d.next =
    subst (λ v. IsTakenOn (g.I.FleetIndex.fits v.fleet.index) (g.I.FleetIndex.fits d.index) (board_of v) c.args.no a c.args.direct d.place d.car d.next) (sym c.self.view_is) c.in-Ok.ensures.change in
    let none = none_yet F b c.self.inside.arrivals c.args.no t.waits c.self.invariant t.waiting in
    let entries : c.remove.new.self.entries ≡ b.answers = c.in-Some.ensures.entries ∙ ap (remove_entry (is_at (by_number c.args.no))) c.in_default-insert.ensures.entries ∙ answer_undone c.args.no (IsAssigned a) b.answers none in
    subst (λ f. IsKeptBoard (g.I.FleetIndex.fits f.index) (record b { fleet = cars_of f; answers = c.remove.new.self.entries }) c.self.inside.arrivals) (sym c.in-Err-set.ensures.err)
    (undone_kept F b c.self.inside.arrivals c.remove.new.self.entries entries c.self.invariant)

pub returns-in-Err-set-clause-back : goal.returns-in-Err-set-clause-back
returns-in-Err-set-clause-back g c =
    let b : Board = record { nodes = c.self.inside.nodes; fleet = cars_of c.self.inside.fleet; closed = c.self.inside.closed; waiting = c.self.inside.waiting; answers = c.self.inside.answers.entries; cancelled = c.self.inside.cancelled.keys } in
    let a = c.args.assigned in
    let d = c.in-Ok.change in
    let F = g.I.FleetIndex.fits c.self.inside.fleet.index in
    let t : IsTakenOn F (g.I.FleetIndex.fits d.index) b c.args.no a c.args.direct d.place d.car d.next =
    subst (λ v. IsTakenOn (g.I.FleetIndex.fits v.fleet.index) (g.I.FleetIndex.fits d.index) (board_of v) c.args.no a c.args.direct d.place d.car d.next) (sym c.self.view_is) c.in-Ok.ensures.change in
    let none = none_yet F b c.self.inside.arrivals c.args.no t.waits c.self.invariant t.waiting in
    let entries : c.remove.new.self.entries ≡ b.answers = c.in-Some.ensures.entries ∙ ap (remove_entry (is_at (by_number c.args.no))) c.in_default-insert.ensures.entries ∙ answer_undone c.args.no (IsAssigned a) b.answers none in (
      same_Some _ _ (c.in-Some.ensures.value ∙ ap (λ l. find_answer c.args.no l) c.in_default-insert.ensures.entries ∙ answer_found c.args.no (IsAssigned a) b.answers),
      same_value _ c.set.new.self c.remove.new.self.entries c.in-Err-set.ensures.err entries ∙ c.self.view_is,
    )
