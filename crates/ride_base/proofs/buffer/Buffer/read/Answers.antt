use Rattle.std.proofs.Common.{◌≡◌, ◌≤◌, drop, length, ap, arith, rules}
use Rattle.std.specs.List.{position_or_len}
use Rattle.ride_base.specs.Pieces.{is_line_end, longest_line}
use Rattle.ride_base.proofs.Positions.{searched_more}
use Rattle.ride_base.proofs.ReadPiece.{held_after}
use Rattle.ride_base.proofs.buffer.Buffer.read.Goals as goal

pub invariant_of-self : goal.invariant_of-self
invariant_of-self g c =
    let kept : c.drop-drain.new.self.0.items ≡ drop c.self.inside.start c.self.inside.bytes.items = search rules in
    let place : position_or_len is_line_end c.drop-drain.new.self.0.items ≡ position_or_len is_line_end (drop c.self.inside.start c.self.inside.bytes.items) = ap (position_or_len is_line_end) kept in
    let searched : c.self.inside.searched ≤ position_or_len is_line_end c.drop-drain.new.self.0.items = omega (arith, place, c.self.invariant.1) in
    let few : length c.drop-drain.new.self.0.items ≤ longest_line = rw kept (rw (← c.self.view_is) at c.requires.few) in
    ((omega arith, searched_more c.read_piece.result c.drop-drain.new.self.0.items c.read_piece.new.bytes.items _ _ c.self.inside.searched searched c.read_piece.ensures.ok c.read_piece.ensures.kept), held_after c.read_piece.result c.drop-drain.new.self.0.items c.read_piece.new.bytes.items _ _ few c.read_piece.ensures.ok c.read_piece.ensures.small c.read_piece.ensures.kept)
