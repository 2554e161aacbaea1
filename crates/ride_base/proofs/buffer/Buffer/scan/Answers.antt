use Rattle.std.proofs.Common.{◌≡◌, ◌∙◌, None, position, rules}
use Rattle.ride_base.specs.Buffers.{with_read}
use Rattle.ride_base.specs.Pieces.{is_line_end}
use Rattle.ride_base.proofs.WithinARead.{within_more, unread_more}
use Rattle.ride_base.proofs.buffer.Buffer.scan.Goals as goal

pub loop-at-preserved : goal.loop-at-preserved
loop-at-preserved g c =
    let S = g.S.Shelf in
    let none : position is_line_end c.find.new.self ≡ None = search rules in
    let unread : with_read c.find.new.self (S.seen c.loop-at.shelf).left ≡ with_read c.args.self.now (S.seen c.args.shelf.now).left = search rules in
    record {
      shelf = search rules;
      held = search rules;
      quiet = search rules;
      unread = unread_more c.find.new.self c.read.new.self _ _ c.in_ok-read.field-0 c.in_ok-read.ensures.ok ∙ unread;
      near = within_more c.args.most c.args.self.now c.find.new.self c.read.new.self _ _ _ c.in_ok-read.field-0 unread none (search rules) c.in_ok-read.ensures.small c.in_ok-read.ensures.ok;
      holds = search rules;
    }
