use Rattle.std.proofs.Common.{ℕ, [], ◌+◌, ◌++◌, ◌∙◌, ap, inl, inr, Ok, refl, rules}
use Rattle.ride_base.proofs.ShelfLaws.{only_read-trans}
use Rattle.dimacs_reader.specs.Places.{places_behind}
use Rattle.dimacs_reader.proofs.AllOnto.{all_onto}
use Rattle.dimacs_reader.proofs.PlaceTable.{places_step, placed_of, few_more}
use Rattle.dimacs_reader.proofs.IsUndecided.{ahead_unfinished, ahead_unread, fault_handed, handed, late_behind, late_more_places, near_line}
use Rattle.dimacs_reader.proofs.places.read_each.Goals as goal

pub loop-coordinates-preserved : goal.loop-coordinates-preserved
loop-coordinates-preserved g c =
    let i = c.loop-coordinates.invariant in
    let is = c.in_ok-read_line.was ∙ ap Ok c.if-branch.true in
    let gives = rw is at c.read_line.ensures.gives in
    let counts = rw is at c.read_line.ensures.counts in
    record {
      shelf = only_read-trans i.shelf c.read_line.ensures.shelf;
      quiet = search rules;
      done = i.done ++ placed_of c.in_ok-placing.placing;
      kept = c.put_some.ensures.holds c.args.nodes i.done i.kept;
      same = places_step _ _ _ i.done _ _ c.read_line.new.line c.in_ok-placing.placing gives counts.0 counts.1 (c.in_ok-placing.ensures.says i.done i.kept) ∙ i.same;
      few = few_more _ _ _ c.in_ok-placing.placing i.few c.in_ok-placing.ensures.fewer c.put_some.ensures.count;
      goes = λ text read. c.read_line.ensures.goes (search rules) text (i.goes text read);
      unstopped = search rules;
    }

pub returns-in_err-read_line-clause-unread : goal.returns-in_err-read_line-clause-unread
returns-in_err-read_line-clause-unread g c = λ failed text read.
    ahead_unread (λ line ps. all_onto c.loop-coordinates.invariant.done (places_behind c.args.nodes line c.loop-coordinates.invariant.done ps)) (late_more_places c.args.nodes c.loop-coordinates.invariant.done) _ _ _ text _
    c.loop-coordinates.invariant.same (c.read_line.ensures.unread (handed _ _ _ c.from_residual-in_err-read_line.ensures c.in_err-read_line.was failed) text (c.loop-coordinates.invariant.goes text read))

pub returns-in_err-read_line-clause-near : goal.returns-in_err-read_line-clause-near
returns-in_err-read_line-clause-near g c = fault_handed _ _ _ c.from_residual-in_err-read_line.ensures (λ refusal text read.
    near_line _ _ text _ (c.in_err-read_line.ensures.numbered refusal) (c.read_line.ensures.near text (c.loop-coordinates.invariant.goes text read)))

pub returns-in_err-read_line-clause-wanted : goal.returns-in_err-read_line-clause-wanted
returns-in_err-read_line-clause-wanted g c = λ failed text read.
    ahead_unfinished (λ line ps. all_onto c.loop-coordinates.invariant.done (places_behind c.args.nodes line c.loop-coordinates.invariant.done ps)) (late_more_places c.args.nodes c.loop-coordinates.invariant.done) _ _ _ text _ c.loop-coordinates.invariant.same
    (inr (c.read_line.ensures.wanted (handed _ _ _ c.from_residual-in_err-read_line.ensures c.in_err-read_line.was failed) text (c.loop-coordinates.invariant.goes text read)))

pub returns-in_err-placing-clause-near : goal.returns-in_err-placing-clause-near
returns-in_err-placing-clause-near g c =
    let counts = rw (c.in_ok-read_line.was ∙ ap Ok c.if-branch.true) at c.read_line.ensures.counts in
    fault_handed _ _ _ c.from_residual-in_err-placing.ensures (λ refusal text read.
    near_line _ _ text _ (c.in_err-placing.ensures.refusal.1 ∙ counts.0) (c.read_line.ensures.near text (c.loop-coordinates.invariant.goes text read)))

pub returns-in_err-coordinates-clause-wanted : goal.returns-in_err-coordinates-clause-wanted
returns-in_err-coordinates-clause-wanted g c = λ failed text read.
    ahead_unfinished (λ line ps. places_behind c.args.nodes line [] ps) (λ line ps. late_behind c.args.nodes line [] ps) _ _ _ text _ refl (inl read.near)

pub returns-then-coordinates-nodes-clause-near : goal.returns-then-coordinates-nodes-clause-near
returns-then-coordinates-nodes-clause-near g c =
    let counts = rw (c.in_ok-read_line.was ∙ ap Ok c.if-branch.false) at c.read_line.ensures.counts in
    λ refusal text read. near_line _ _ text _ (c.next_number.ensures ∙ ap (λ (n : ℕ). n + 1) counts) (c.read_line.ensures.near text (c.loop-coordinates.invariant.goes text read))
