use Rattle.std.proofs.Common.{ℕ, List, refl, sym, subst}
use Rattle.ride_base.specs.Pieces.{IsRefused, pieces}
use Rattle.ride_base.proofs.ShowsNoLimit.{ended_shows_none}
use Rattle.ride_base.proofs.TellsLine.{gives_ended, stopped_ended, none_stops}
use Rattle.ride_base.proofs.lines.Lines.ended_line.Goals as goal

pub returns-in-Some-clause-tells : goal.returns-in-Some-clause-tells
returns-in-Some-clause-tells c = rw (← c.self.view_is) (λ left. stopped_ended c.self.inside.pending c.self.inside.room _ left c.args.at c.in-Some.limit c.fault.result (rw (← c.self.view_is) at c.requires.at) c.in-Some.ensures c.fault.ensures)

pub returns-clause-tells : goal.returns-clause-tells
returns-clause-tells c = rw (← c.self.view_is) (λ left. gives_ended c.self.inside.pending c.self.inside.room c.cut_line.new.self _ left c.args.at _ (rw (← c.self.view_is) at c.requires.at) (none_stops c.limit_at.result _ c.limit_at.ensures c.in_default.not-Some) c.in_ok-cut_line.ensures.line refl c.in_ok-cut_line.ensures.rest refl)

pub returns-in_err-cut_line-clause-wanted : goal.returns-in_err-cut_line-clause-wanted
returns-in_err-cut_line-clause-wanted c = λ e.
    subst (λ (p : List ℕ). IsRefused (pieces c.self.inside.room p) → ⊥) (sym c.in_err-cut_line.ensures.err)
    (ended_shows_none c.self.inside.pending c.self.inside.room c.args.at (rw (← c.self.view_is) at c.requires.at) (none_stops c.limit_at.result _ c.limit_at.ensures c.in_default.not-Some))
