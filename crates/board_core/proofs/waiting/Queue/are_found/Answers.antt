use Rattle.board_core.proofs.Queues.{each_found, own_numbers}
use Rattle.board_core.proofs.waiting.Queue.are_found.Goals as goal

pub returns : goal.returns
returns c = record {
  found = rw (← c.self.view_is) (each_found _ _ _ _ _ c.self.invariant);
  apart = rw (← c.self.view_is) (own_numbers _ _ _ _ _ c.self.invariant);
}
