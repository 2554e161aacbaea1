use Rattle.std.proofs.Common.{List, ap, ◌∙◌}
use Rattle.std.specs.List.{remove}
use Rattle.fleet_board.specs.Turns.{DeskNow}
use Rattle.shared_cases.proofs.Desks.{taken_desk}
use Rattle.shared_cases.proofs.boards.two_of.Goals as goal

pub returns-clause-zero : goal.returns-clause-zero
returns-clause-zero c =
    taken_desk c.args.board.now.pricer.graph.now c.args.board.now.lock c.args.row.items _ 0 c.remove-zero.result c.requires.graph
    (c.requires.row_is) c.remove-zero.ensures.value

pub returns-clause-one : goal.returns-clause-one
returns-clause-one c =
    taken_desk c.args.board.now.pricer.graph.now c.args.board.now.lock c.remove-zero.new.self.items _ 1 c.remove-one.result c.requires.graph
    (c.remove-zero.ensures.items ∙ ap (λ (l : List DeskNow). remove l 0) (c.requires.row_is)) c.remove-one.ensures.value
