use Rattle.std.proofs.Common.{refl}
use Rattle.dimacs_reader.specs.Places.{places_in}
use Rattle.dimacs_reader.proofs.IsUndecided.{err_map, fault_handed, handed, whole_near, whole_unfinished, whole_unread}
use Rattle.dimacs_reader.proofs.places.read_places.Goals as goal

pub returns-in_err-read_header-clause-unread : goal.returns-in_err-read_header-clause-unread
returns-in_err-read_header-clause-unread g c = λ failed.
    whole_unread (places_in c.args.nodes) _ _ _ c.new-lines.ensures.fresh c.new-lines.ensures.none (c.read_header.ensures.unread (handed _ _ _ c.from_residual.ensures c.in_err-read_header.was failed))

pub returns-clause-unread : goal.returns-clause-unread
returns-clause-unread g c = λ failed.
    whole_unread (places_in c.args.nodes) _ _ _ c.new-lines.ensures.fresh c.new-lines.ensures.none (λ text read.
    rw c.in_ok-read_header.ensures.header (c.read_each.ensures.unread failed text (c.in_ok-read_header.ensures.goes refl text read)))

pub returns-in_err-read_header-clause-near : goal.returns-in_err-read_header-clause-near
returns-in_err-read_header-clause-near g c = fault_handed _ _ _ c.from_residual.ensures (λ refusal. whole_near _ _ _ c.new-lines.ensures.none (c.in_err-read_header.ensures.near refusal))

pub returns-in_err-read_header-clause-wanted : goal.returns-in_err-read_header-clause-wanted
returns-in_err-read_header-clause-wanted g c = λ failed.
    whole_unfinished (places_in c.args.nodes) _ _ _ c.new-lines.ensures.fresh c.new-lines.ensures.none (c.read_header.ensures.wanted (handed _ _ _ c.from_residual.ensures c.in_err-read_header.was failed))

pub returns-clause-near : goal.returns-clause-near
returns-clause-near g c = err_map c.read_each.result _ _ (λ e near refusal.
    whole_near _ _ _ c.new-lines.ensures.none (λ text read. near refusal text (c.in_ok-read_header.ensures.goes refl text read))) c.read_each.ensures.near

pub returns-clause-wanted : goal.returns-clause-wanted
returns-clause-wanted g c = λ failed.
    whole_unfinished (places_in c.args.nodes) _ _ _ c.new-lines.ensures.fresh c.new-lines.ensures.none (λ text read.
    rw c.in_ok-read_header.ensures.header (c.read_each.ensures.wanted failed text (c.in_ok-read_header.ensures.goes refl text read)))
