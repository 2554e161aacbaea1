use Rattle.std.proofs.Common.{ap, Ok, ◌∙◌}
use Rattle.journal_text.proofs.HeldLines.{fill_by}
use Rattle.journal_text.proofs.reader.Held.fill.Goals as goal

pub returns-in-Ok-true-clause-stays : goal.returns-in-Ok-true-clause-stays
returns-in-Ok-true-clause-stays g c = λ reading.
    let e = c.read_line.ensures in
    (fill_by g.S.Shelf.seen c.args.self.now c.read_line.new.line c.read_line.result _ c.args.lines.now c.read_line.new.self _ _ c.if-self.false e.tells e.counts e.stops e.over e.ended e.again
    (c.in-Ok-true.is ∙ ap Ok c.in-Ok-true.field-0-test) reading).same
