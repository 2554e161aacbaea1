use Rattle.std.proofs.Common.{◌≡◌, Some, sym, ap, ◌∙◌}
use Rattle.board_core.specs.Boards.{Board, answer_of}
use Rattle.board_core.specs.BoardViews.{board_of}
use Rattle.board_core.specs.FleetViews.{cars_of}
use Rattle.insertion_cost.specs.declared.decision.Decision.TheVariants.{Assigned as IsAssigned}
use Rattle.insertion_cost.specs.declared.decision.Assigned.{Assigned}
use Rattle.insertion_cost.specs.declared.decision.Decision.{Decision}
use Rattle.board_core.proofs.board.Board.place_of.Goals as goal

assigned_one : (a d : Assigned) → Some (IsAssigned a) ≡ Some (IsAssigned d) → a.offer.place ≡ d.offer.place
assigned_one a d h = let same : a ≡ d = cc in ap (λ (x : Assigned). x.offer.place) same

pub returns : goal.returns
returns g c = λ a e.
    let b : Board = record { nodes = c.self.inside.nodes; fleet = cars_of c.self.inside.fleet; closed = c.self.inside.closed; waiting = c.self.inside.waiting; answers = c.self.inside.answers.entries; cancelled = c.self.inside.cancelled.keys } in
    let h : Some c.in-Some-Assigned.field-0.now ≡ answer_of b c.args.no = c.in-Some-Assigned.ensures.value in
    let f : answer_of b c.args.no ≡ Some (IsAssigned a) = ap (λ v. answer_of (board_of v) c.args.no) c.self.view_is ∙ e in
    assigned_one c.in-Some-Assigned.assigned a (ap (λ (d : Decision). Some d) (sym c.in-Some-Assigned.field-0-is) ∙ h ∙ f)
