use Rattle.std.proofs.Common.{rules, ◌≡◌, ◌∙◌, None}
use Rattle.journal_text.proofs.RunsOfLines.{nodes_begin, nodes_more, nodes_broken}
use Rattle.journal_text.proofs.runs.next_nodes.Goals as goal

pub loop-rest-init : goal.loop-rest-init
loop-rest-init c = rw (c.new-run.ensures) (nodes_begin c.args.bytes.now)

pub returns-in_err-node : goal.returns-in_err-node
returns-in_err-node c =
    let none : c.from_residual.result ≡ None = search rules in
    none ∙ nodes_broken c.loop-rest.run c.loop-rest.rest.now c.args.bytes.now c.loop-rest.invariant (search rules) (search rules)

pub loop-rest-preserved : goal.loop-rest-preserved
loop-rest-preserved c =
    rw (c.put.ensures) (nodes_more c.loop-rest.run c.loop-rest.rest.now c.in_ok-node.behind.now c.args.bytes.now c.in_ok-node.node.0 c.loop-rest.invariant (search rules) (search rules))
