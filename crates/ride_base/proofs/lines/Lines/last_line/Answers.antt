use Rattle.std.proofs.Common.{ℕ, List, refl, sym, subst}
use Rattle.ride_base.specs.Pieces.{IsRefused, pieces}
use Rattle.ride_base.proofs.ShowsNoLimit.{last_shows_none}
use Rattle.ride_base.proofs.TellsLine.{gives_last, stopped_last, none_stops}
use Rattle.ride_base.proofs.lines.Lines.last_line.Goals as goal

pub returns-in-Some-clause-tells : goal.returns-in-Some-clause-tells
returns-in-Some-clause-tells c = rw (← c.self.view_is) (λ left end. stopped_last c.self.inside.pending c.self.inside.room c.len-length.result _ left c.in-Some.limit c.fault.result end c.len-length.ensures c.if-length-eq0.false (rw (← c.self.view_is) at c.requires.unended) c.in-Some.ensures c.fault.ensures)

pub returns-clause-tells : goal.returns-clause-tells
returns-clause-tells c = rw (← c.self.view_is) (λ left end. gives_last c.self.inside.pending c.self.inside.room c.len-length.result c.cut_all.new.self _ left _ end c.len-length.ensures c.if-length-eq0.false (rw (← c.self.view_is) at c.requires.unended) (none_stops c.limit_at.result _ c.limit_at.ensures c.in_default.not-Some) c.in_ok-cut_all.ensures.line refl c.in_ok-cut_all.ensures.rest)

pub returns-in_err-cut_all-clause-wanted : goal.returns-in_err-cut_all-clause-wanted
returns-in_err-cut_all-clause-wanted c = λ e.
    subst (λ (p : List ℕ). IsRefused (pieces c.self.inside.room p) → ⊥) (sym c.in_err-cut_all.ensures.err)
    (last_shows_none c.self.inside.pending c.self.inside.room c.len-length.result c.len-length.ensures c.if-length-eq0.false (rw (← c.self.view_is) at c.requires.unended) (none_stops c.limit_at.result _ c.limit_at.ensures c.in_default.not-Some))
