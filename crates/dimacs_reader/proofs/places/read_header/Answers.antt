use Rattle.std.proofs.Common.{ℕ, ◌+◌, ◌∙◌, Ok, ap, inr, rules}
use Rattle.ride_base.proofs.ShelfLaws.{only_read-trans}
use Rattle.dimacs_reader.specs.Places.{places_in}
use Rattle.dimacs_reader.proofs.IsUndecided.{ahead_unfinished, ahead_unread, fault_handed, handed, late_places, near_line}
use Rattle.dimacs_reader.proofs.places.read_header.Goals as goal

pub returns-in_err-read_line-clause-unread : goal.returns-in_err-read_line-clause-unread
returns-in_err-read_line-clause-unread g c = λ failed text read.
    ahead_unread (places_in c.args.nodes) (late_places c.args.nodes) _ _ _ text _ c.loop-line.invariant.same (c.read_line.ensures.unread (handed _ _ _ c.from_residual.ensures c.in_err-read_line.was failed) text (c.loop-line.invariant.goes text read))

pub returns-then-branch-2-clause-goes : goal.returns-then-branch-2-clause-goes
returns-then-branch-2-clause-goes g c = λ _ text read. c.read_line.ensures.goes (search rules) text (c.loop-line.invariant.goes text read)

pub loop-line-preserved : goal.loop-line-preserved
loop-line-preserved g c = record {
  shelf = only_read-trans c.loop-line.invariant.shelf c.read_line.ensures.shelf;
  quiet = search rules;
  same = search rules;
  goes = λ text read. c.read_line.ensures.goes (search rules) text (c.loop-line.invariant.goes text read);
  unstopped = search rules;
}

pub returns-in_err-read_line-clause-near : goal.returns-in_err-read_line-clause-near
returns-in_err-read_line-clause-near g c = fault_handed _ _ _ c.from_residual.ensures (λ refusal text read.
    near_line _ _ text _ (c.in_err-read_line.ensures.numbered refusal) (c.read_line.ensures.near text (c.loop-line.invariant.goes text read)))

pub returns-in_err-read_line-clause-wanted : goal.returns-in_err-read_line-clause-wanted
returns-in_err-read_line-clause-wanted g c = λ failed text read.
    ahead_unfinished (places_in c.args.nodes) (late_places c.args.nodes) _ _ _ text _ c.loop-line.invariant.same
    (inr (c.read_line.ensures.wanted (handed _ _ _ c.from_residual.ensures c.in_err-read_line.was failed) text (c.loop-line.invariant.goes text read)))

pub returns-in_err-is_header-clause-near : goal.returns-in_err-is_header-clause-near
returns-in_err-is_header-clause-near g c =
    let counts = rw (c.in_ok-read_line.was ∙ ap Ok c.if-branch.true) at c.read_line.ensures.counts in
    fault_handed _ _ _ c.from_residual-in_err-is_header.ensures (λ refusal text read.
    near_line _ _ text _ (c.in_err-is_header.ensures.refusal.1 ∙ counts.0) (c.read_line.ensures.near text (c.loop-line.invariant.goes text read)))

pub returns-clause-near : goal.returns-clause-near
returns-clause-near g c =
    let counts = rw (c.in_ok-read_line.was ∙ ap Ok c.if-branch.false) at c.read_line.ensures.counts in
    λ refusal text read. near_line _ _ text _ (c.next_number.ensures ∙ ap (λ (n : ℕ). n + 1) counts) (c.read_line.ensures.near text (c.loop-line.invariant.goes text read))
