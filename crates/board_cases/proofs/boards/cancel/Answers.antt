use Rattle.std.proofs.Common.{sym, ap, subst, ◌∙◌}
use Rattle.road_graph.specs.Roads.{Roads}
use Rattle.board_core.specs.declared.entry.Entry.TheVariants.{Cancel}
use Rattle.board_core.specs.BoardViews.{board_of}
use Rattle.board_core.specs.Steps.{Step}
use Rattle.board_cases.proofs.Played.{nodes_of, played_cancel}
use Rattle.board_cases.proofs.boards.cancel.Goals as goal

pub cancel-requires-clause-nodes : goal.cancel-requires-clause-nodes
cancel-requires-clause-nodes c = ap (λ (x : Roads). x.nodes) c.new-walker.ensures ∙ sym (nodes_of c.args.graph.now (board_of c.args.board.now) c.requires)

pub returns-clause-played : goal.returns-clause-played
returns-clause-played c = played_cancel c.args.graph.now (board_of c.args.board.now) (board_of c.cancel.new.self) c.args.no c.in_ok-cancel.field-0 c.requires
    (subst (λ (x : Roads). Step x (board_of c.args.board.now) (Cancel c.args.no c.in_ok-cancel.field-0) (board_of c.cancel.new.self)) c.new-walker.ensures c.in_ok-cancel.ensures.ok)
