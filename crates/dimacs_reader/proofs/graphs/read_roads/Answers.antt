use Rattle.std.proofs.Common.{◌≡◌, ℕ, ◌+◌, ◌++◌, ◌∙◌, Ok, ap, arith, inl, inr, length, rules}
use Rattle.std.proofs.lemmas.Grind.{common_steps}
use Rattle.std.specs.Option.{option_to_list}
use Rattle.ride_base.specs.Told.{ahead}
use Rattle.dimacs_reader.specs.Calls.{said_roads}
use Rattle.ride_base.proofs.ShelfLaws.{only_read-trans}
use Rattle.dimacs_reader.specs.Graphs.{roads_in}
use Rattle.dimacs_reader.proofs.AllOnto.{all_onto}
use Rattle.dimacs_reader.proofs.RoadLines.{roads_said, sound_roads}
use Rattle.dimacs_reader.proofs.IsUndecided.{ahead_unfinished, ahead_unread, fault_handed, handed, late_more_roads, near_line}
use Rattle.dimacs_reader.proofs.graphs.read_roads.Goals as goal

pub returns-clause-sound : goal.returns-clause-sound
returns-clause-sound g c = sound_roads _ _ c.requires.few_nodes (omega (arith, c.loop-roads.invariant.few, c.requires.few_roads)) c.loop-roads.invariant.within

pub returns-in_err-read_line-clause-unread : goal.returns-in_err-read_line-clause-unread
returns-in_err-read_line-clause-unread g c = λ failed text read.
    ahead_unread (λ line ps. all_onto c.loop-roads.roads (roads_in c.args.said.nodes c.args.said.roads (length c.loop-roads.roads) line ps)) (late_more_roads c.args.said.nodes c.args.said.roads c.loop-roads.roads) _ _ _ text _
    c.loop-roads.invariant.same (c.read_line.ensures.unread (handed _ _ _ c.from_residual.ensures c.in_err-read_line.was failed) text (c.loop-roads.invariant.goes text read))

pub loop-roads-preserved : goal.loop-roads-preserved
loop-roads-preserved g c = record {
  shelf = only_read-trans c.loop-roads.invariant.shelf c.read_line.ensures.shelf;
  quiet = search rules;
  same = grind (arith, common_steps);
  few = grind (arith, common_steps);
  within = grind (arith, common_steps);
  goes = λ text read. c.read_line.ensures.goes (search rules) text (c.loop-roads.invariant.goes text read);
  unstopped = search rules;
}

pub returns-in_err-read_line-clause-near : goal.returns-in_err-read_line-clause-near
returns-in_err-read_line-clause-near g c = fault_handed _ _ _ c.from_residual.ensures (λ refusal text read.
    near_line _ _ text _ (c.in_err-read_line.ensures.numbered refusal) (c.read_line.ensures.near text (c.loop-roads.invariant.goes text read)))

pub returns-in_err-read_line-clause-wanted : goal.returns-in_err-read_line-clause-wanted
returns-in_err-read_line-clause-wanted g c = λ failed text read.
    ahead_unfinished (λ line ps. all_onto c.loop-roads.roads (roads_in c.args.said.nodes c.args.said.roads (length c.loop-roads.roads) line ps)) (late_more_roads c.args.said.nodes c.args.said.roads c.loop-roads.roads) _ _ _ text _ c.loop-roads.invariant.same
    (inr (c.read_line.ensures.wanted (handed _ _ _ c.from_residual.ensures c.in_err-read_line.was failed) text (c.loop-roads.invariant.goes text read)))

pub returns-in_err-road-clause-near : goal.returns-in_err-road-clause-near
returns-in_err-road-clause-near g c =
    let counts = rw (c.in_ok-read_line.was ∙ ap Ok c.if-branch.true) at c.read_line.ensures.counts in
    fault_handed _ _ _ c.from_residual-in_err-road.ensures (λ refusal text read.
    near_line _ _ text _ (c.in_err-road.ensures.refusal.1 ∙ counts.0) (c.read_line.ensures.near text (c.loop-roads.invariant.goes text read)))

pub returns-in_err-push_some-clause-wanted : goal.returns-in_err-push_some-clause-wanted
returns-in_err-push_some-clause-wanted g c = λ failed text read.
    let S = g.S.Shelf in
    let done = c.loop-roads.roads ++ option_to_list c.in_ok-road.road in
    let same : roads_said c.args.said.nodes c.args.said.roads done c.read_line.new.self.given (ahead c.read_line.new.self (S.seen c.read_line.new.shelf).left) ≡ said_roads c.args.said c.args.lines.now (S.seen c.args.shelf.now).left = grind (arith, common_steps) in
    ahead_unfinished (λ line ps. all_onto done (roads_in c.args.said.nodes c.args.said.roads (length done) line ps)) (late_more_roads c.args.said.nodes c.args.said.roads done) _ _ _ text _ same
    (inl (c.read_line.ensures.goes (search rules) text (c.loop-roads.invariant.goes text read)).near)

pub returns-then-len-said-clause-near : goal.returns-then-len-said-clause-near
returns-then-len-said-clause-near g c =
    let counts = rw (c.in_ok-read_line.was ∙ ap Ok c.if-branch.false) at c.read_line.ensures.counts in
    λ refusal text read. near_line _ _ text _ (c.next_number.ensures ∙ ap (λ (n : ℕ). n + 1) counts) (c.read_line.ensures.near text (c.loop-roads.invariant.goes text read))

pub returns-clause-goes : goal.returns-clause-goes
returns-clause-goes g c = λ _ text read. c.read_line.ensures.goes (search rules) text (c.loop-roads.invariant.goes text read)
