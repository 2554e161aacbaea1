use Rattle.std.proofs.Common.{arith}
use Rattle.board_core.specs.BoardViews.{board_of}
use Rattle.dispatch_top.proofs.Answered.{has_room, moved, on_ok}
use Rattle.dispatch_top.proofs.answer.answer_move.Goals as goal

pub tell-requires-clause-room : goal.tell-requires-clause-room
tell-requires-clause-room g c = has_room (board_of c.args.board.now) c.args.sums.now (omega (arith, c.requires.ready.1.early)) c.requires.few

pub returns : goal.returns
returns g c = λ roads. on_ok c.tell.result (λ t. moved roads (board_of c.args.board.now) (board_of c.advance.new.self) c.args.now c.in_ok-advanced.advanced c.args.text.now.items c.tell.new.text.items c.args.sums.now c.tell.new.sums c.requires.moment (c.in_ok-advanced.ensures.ok roads) c.requires.empty t c.requires.few) c.tell.ensures
