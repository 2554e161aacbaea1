use Rattle.std.proofs.Common.{◌≡◌, ◌+◌, ◌-◌, ◌≤◌, length, arith, rules, ◌∙◌, length-drop, length-take, replicate, drop, ap}
use Rattle.std.specs.Prelude.{is_ok, vec_len}
use Rattle.ride_base.proofs.ReadPiece.{front_kept, filled}
use Rattle.ride_base.proofs.buffer.read_piece.Goals as goal

pub returns-in-Ok-clause-ok : goal.returns-in-Ok-clause-ok
returns-in-Ok-clause-ok g c =
    let size : c.len-filled.result ≡ length c.args.bytes.now.items = search rules in
    let same : c.deref_mut.result.now ≡ c.resize.new.self.items = search rules in
    let front = front_kept (is_ok c.resize.result) c.deref_mut.result.now c.resize.new.self.items c.args.bytes.now.items (replicate (c.len-filled.result + 16384 - vec_len c.args.bytes.now) 0) c.len-filled.result (c.len-filled.result + 16384) c.resize.ensures.items same size (omega arith) in
    let ok = c.in-Ok.ensures.ok in
    let within : c.in-Ok.count ≤ length c.read.new.piece = omega (arith, c.read.auto.piece, ok.0) in
    let d = c.deref_mut.result.now in
    let f = c.len-filled.result in
    let reaches : f ≤ length d = omega (arith, length-take f d, ap length front) in
    let fits : f + c.in-Ok.count ≤ c.resize.new.self.len = omega (arith, reaches, length-take (length d - f) (drop f d), length-drop f d, c.deref_mut.ensures.len, ok.0) in
    record {
      piece = c.read.new.piece;
      within = within;
      added = c.truncate.ensures.items ∙ filled c.deref_mut.result.now c.read.new.piece _ _ c.args.bytes.now.items c.len-filled.result c.in-Ok.count _ front size within fits;
      moved = ok.1;
    }
