use Rattle.std.proofs.Common.{◌≡◌, Err, refl}
use Rattle.dimacs_reader.specs.Graphs.{graph_in}
use Rattle.dimacs_reader.proofs.IsUndecided.{fault_handed, good_unfinished, handed, over_refused, over_unfinished, over_unread, whole_is, whole_near, whole_unfinished, whole_unread}
use Rattle.dimacs_reader.proofs.graphs.read_graph.Goals as goal

pub returns-in_err-said-clause-unread : goal.returns-in_err-said-clause-unread
returns-in_err-said-clause-unread g c = λ failed.
    whole_unread graph_in _ _ _ c.new-lines.ensures.fresh c.new-lines.ensures.none (c.read_problem.ensures.unread (handed _ _ _ c.from_residual.ensures c.in_err-said.was failed))

pub returns-in_err-roads-clause-unread : goal.returns-in_err-roads-clause-unread
returns-in_err-roads-clause-unread g c = λ failed.
    whole_unread graph_in _ _ _ c.new-lines.ensures.fresh c.new-lines.ensures.none (λ text read. over_unread c.in_ok-said.said.nodes _ _ text _ c.in_ok-said.ensures.said
    (c.read_roads.ensures.unread (handed _ _ _ c.from_residual-in_err-roads.ensures c.in_err-roads.was failed) text (c.in_ok-said.ensures.goes refl text read)))

pub returns-in_err-said-clause-near : goal.returns-in_err-said-clause-near
returns-in_err-said-clause-near g c = fault_handed _ _ _ c.from_residual.ensures (λ refusal. whole_near _ _ _ c.new-lines.ensures.none (c.in_err-said.ensures.near refusal))

pub returns-in_err-said-clause-wanted : goal.returns-in_err-said-clause-wanted
returns-in_err-said-clause-wanted g c = λ failed.
    whole_unfinished graph_in _ _ _ c.new-lines.ensures.fresh c.new-lines.ensures.none (c.read_problem.ensures.wanted (handed _ _ _ c.from_residual.ensures c.in_err-said.was failed))

pub returns-in_err-roads-clause-refused : goal.returns-in_err-roads-clause-refused
returns-in_err-roads-clause-refused g c = fault_handed _ _ _ c.from_residual-in_err-roads.ensures (λ refusal.
    whole_is (λ text said. said ≡ Err c.in_err-roads.field-0.0) graph_in _ _ c.new-lines.ensures.fresh c.new-lines.ensures.none (λ text read. over_refused c.in_ok-said.said.nodes _ _ _ c.in_ok-said.ensures.said (c.in_err-roads.ensures.refused refusal)))

pub returns-in_err-roads-clause-near : goal.returns-in_err-roads-clause-near
returns-in_err-roads-clause-near g c = fault_handed _ _ _ c.from_residual-in_err-roads.ensures (λ refusal.
    whole_near _ _ _ c.new-lines.ensures.none (λ text read. c.in_err-roads.ensures.near refusal text (c.in_ok-said.ensures.goes refl text read)))

pub returns-in_err-roads-clause-wanted : goal.returns-in_err-roads-clause-wanted
returns-in_err-roads-clause-wanted g c = λ failed.
    whole_unfinished graph_in _ _ _ c.new-lines.ensures.fresh c.new-lines.ensures.none (λ text read. over_unfinished c.in_ok-said.said.nodes _ _ text _ c.in_ok-said.ensures.said
    (c.read_roads.ensures.wanted (handed _ _ _ c.from_residual-in_err-roads.ensures c.in_err-roads.was failed) text (c.in_ok-said.ensures.goes refl text read)))

pub returns-in-Err-NoMemory-clause-wanted : goal.returns-in-Err-NoMemory-clause-wanted
returns-in-Err-NoMemory-clause-wanted g c = λ _.
    whole_unfinished graph_in _ _ _ c.new-lines.ensures.fresh c.new-lines.ensures.none (λ text read. good_unfinished c.in_ok-said.said.nodes c.read_roads.new.lines.given _ _ c.in_ok-roads.roads text _ c.in_ok-said.ensures.said c.in_ok-roads.ensures.roads
    (c.in_ok-roads.ensures.goes refl text (c.in_ok-said.ensures.goes refl text read)).near)
