use Rattle.std.proofs.Common.{ap, Ok, Err}
use Rattle.dimacs_reader.proofs.GivesLine.{gives, none_given, reads_near, stays_given, wants_given}
use Rattle.dimacs_reader.proofs.lines.CountedLines.read_line.Goals as goal

pub returns-in-Ok-clause-gives : goal.returns-in-Ok-clause-gives
returns-in-Ok-clause-gives g c =
    let unstopped = rw (← c.self.view_is) at c.requires.unstopped in
    rw (← c.self.view_is) (gives _ c.self.inside.lines c.read_line.new.self _ _ (Ok c.in-Ok.read) c.read_line.new.line (c.in-Ok.ensures.tells unstopped) c.in-Ok.ensures.over
    (λ over. let e = c.in-Ok.ensures.ended unstopped over in (e.0, e.1, ap (λ s. (g.S.Shelf.seen s).left) e.2)))

pub returns-in-Err-clause-gives : goal.returns-in-Err-clause-gives
returns-in-Err-clause-gives g c =
    let unstopped = rw (← c.self.view_is) at c.requires.unstopped in
    rw (← c.self.view_is, c.fault_at.ensures, c.next_number.ensures, c.in-Err.ensures.counts.0) (gives _ c.self.inside.lines c.read_line.new.self _ _ (Err c.in-Err.fault) c.read_line.new.line (c.in-Err.ensures.tells unstopped) c.in-Err.ensures.over
    (λ over. let e = c.in-Err.ensures.ended unstopped over in (e.0, e.1, ap (λ s. (g.S.Shelf.seen s).left) e.2)))

pub returns-in-Ok-clause-goes : goal.returns-in-Ok-clause-goes
returns-in-Ok-clause-goes g c =
    let unstopped = rw (← c.self.view_is) at c.requires.unstopped in
    rw (← c.self.view_is) (λ is text read. stays_given text c.self.inside.lines c.read_line.new.self _ _ c.in-Ok.read c.read_line.new.line c.in-Ok.ensures.over
    (λ over. let e = c.in-Ok.ensures.ended unstopped over in (e.0, e.1, ap (λ s. (g.S.Shelf.seen s).left) e.2)) (c.in-Ok.ensures.tells unstopped) c.in-Ok.ensures.counts c.in-Ok.ensures.goes c.in-Ok.ensures.near read)

pub returns-in-Err-clause-unread : goal.returns-in-Err-clause-unread
returns-in-Err-clause-unread g c =
    let unstopped = rw (← c.self.view_is) at c.requires.unstopped in
    rw (← c.self.view_is, c.fault_at.ensures) (λ failed text read. none_given text c.self.inside.lines _ _ _ c.in-Err.fault failed (λ over. (c.in-Err.ensures.ended unstopped over).0) c.in-Err.ensures.failed read)

pub returns-in-Ok-clause-near : goal.returns-in-Ok-clause-near
returns-in-Ok-clause-near g c =
    let unstopped = rw (← c.self.view_is) at c.requires.unstopped in
    rw (← c.self.view_is) (λ text read. reads_near text c.self.inside.lines _ _ (λ over. ap (λ s. (g.S.Shelf.seen s).left) (c.in-Ok.ensures.ended unstopped over).2) c.in-Ok.ensures.near read)

pub returns-in-Err-clause-near : goal.returns-in-Err-clause-near
returns-in-Err-clause-near g c =
    let unstopped = rw (← c.self.view_is) at c.requires.unstopped in
    rw (← c.self.view_is) (λ text read. reads_near text c.self.inside.lines _ _ (λ over. ap (λ s. (g.S.Shelf.seen s).left) (c.in-Err.ensures.ended unstopped over).2) c.in-Err.ensures.near read)

pub returns-in-Err-clause-wanted : goal.returns-in-Err-clause-wanted
returns-in-Err-clause-wanted g c =
    let unstopped = rw (← c.self.view_is) at c.requires.unstopped in
    rw (← c.self.view_is, c.fault_at.ensures) (λ failed text read. wants_given text c.self.inside.lines c.read_line.new.self _ _ _ c.in-Err.fault failed (λ over. (c.in-Err.ensures.ended unstopped over).0) (c.in-Err.ensures.tells unstopped) c.in-Err.ensures.counts.1
    c.in-Err.ensures.wanted c.in-Err.ensures.near read)
