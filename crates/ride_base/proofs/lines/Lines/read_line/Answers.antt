use Rattle.std.proofs.Common.{arith}
use Rattle.ride_base.proofs.Prefixes.{line_goes, failed_at}
use Rattle.ride_base.proofs.ShowsNoLimit.{short_shows_none}
use Rattle.ride_base.proofs.lines.Lines.read_line.Goals as goal

pub returns-in_err-at-clause-failed : goal.returns-in_err-at-clause-failed
returns-in_err-at-clause-failed g c = rw (← c.self.view_is) (λ e. failed_at c.self.inside.pending c.scan.new.self c.self.inside.room _ _ c.in_err-at.ensures.unread c.in_err-at.ensures.unended (omega (arith, c.in_err-at.ensures.few, c.min-most.ensures)))

pub returns-in-Ended-clause-goes : goal.returns-in-Ended-clause-goes
returns-in-Ended-clause-goes g c = rw (← c.self.view_is) (line_goes c.self.inside.pending c.scan.new.self _ _ _ _ _ c.ended_line.result c.ended_line.new.line c.in_ok-at.ensures.unread (c.ended_line.ensures.tells _) (c.ended_line.ensures.spends _))

pub returns-in_err-at-clause-wanted : goal.returns-in_err-at-clause-wanted
returns-in_err-at-clause-wanted g c = λ e. short_shows_none c.scan.new.self c.self.inside.room c.in_err-at.ensures.unended (omega (arith, c.in_err-at.ensures.few, c.min-most.ensures))
