use Rattle.std.proofs.Common.{rules, ◌≡◌, ◌∙◌, None}
use Rattle.journal_text.proofs.RunsOfLines.{pairs_begin, pairs_more, pairs_broken, pairs_cut}
use Rattle.journal_text.proofs.runs.next_pairs.Goals as goal

pub loop-rest-init : goal.loop-rest-init
loop-rest-init c = rw (c.new-run.ensures) (pairs_begin c.args.last c.args.bytes.now)

pub returns-in_err-node : goal.returns-in_err-node
returns-in_err-node c =
    let none : c.from_residual.result ≡ None = search rules in
    none ∙ pairs_broken c.loop-rest.run c.loop-rest.last c.args.last c.loop-rest.rest.now c.args.bytes.now c.loop-rest.invariant (search rules) (search rules)

pub returns-in_err-value : goal.returns-in_err-value
returns-in_err-value c =
    let none : c.from_residual-in_err-value.result ≡ None = search rules in
    none ∙ pairs_cut c.loop-rest.run c.loop-rest.last c.args.last c.loop-rest.rest.now c.in_ok-node.behind.now c.args.bytes.now c.in_ok-node.node.0 c.loop-rest.invariant (search rules) (search rules)

pub loop-rest-preserved : goal.loop-rest-preserved
loop-rest-preserved c =
    rw (c.put.ensures) (pairs_more c.loop-rest.run c.loop-rest.last c.args.last c.loop-rest.rest.now c.in_ok-node.behind.now c.in_ok-value.behind.now c.args.bytes.now c.in_ok-node.node.0 c.in_ok-value.value
    c.loop-rest.invariant (search rules) (search rules) (search rules) (search rules))
