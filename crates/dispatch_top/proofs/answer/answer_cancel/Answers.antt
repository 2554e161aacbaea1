use Rattle.std.proofs.Common.{subst, arith}
use Rattle.road_graph.specs.Roads.{Roads}
use Rattle.board_core.specs.declared.entry.Entry.TheVariants.{Cancel}
use Rattle.board_core.specs.BoardViews.{board_of}
use Rattle.board_core.specs.Steps.{Step}
use Rattle.dispatch_top.proofs.Answered.{cancelled, has_room, on_ok, printable_cancelled}
use Rattle.dispatch_top.proofs.answer.answer_cancel.Goals as goal

pub tell-requires-clause-printable : goal.tell-requires-clause-printable
tell-requires-clause-printable g c = printable_cancelled c.new-walker.result.graph.now (board_of c.args.board.now) (board_of c.cancel.new.self) c.args.no c.in_ok-cancelled.cancelled c.in_ok-cancelled.ensures.ok

pub tell-requires-clause-room : goal.tell-requires-clause-room
tell-requires-clause-room g c = has_room (board_of c.args.board.now) c.args.sums.now (omega (arith, c.requires.ready.early)) c.requires.few

pub returns : goal.returns
returns g c =
    let step = subst (λ (x : Roads). Step x (board_of c.args.board.now) (Cancel c.args.no c.in_ok-cancelled.cancelled) (board_of c.cancel.new.self)) c.new-walker.ensures c.in_ok-cancelled.ensures.ok in
    on_ok c.tell.result (λ t. cancelled c.args.graph.now (board_of c.args.board.now) (board_of c.cancel.new.self) c.args.no c.in_ok-cancelled.cancelled c.args.text.now.items c.tell.new.text.items c.args.sums.now c.tell.new.sums step c.requires.empty t c.requires.few) c.tell.ensures
