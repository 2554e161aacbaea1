use Rattle.std.proofs.Common.{ap, ◌∙◌}
use Rattle.journal_text.specs.Drafts.{last_node_of}
use Rattle.journal_text.proofs.LastItems.{last_node_got}
use Rattle.journal_text.proofs.longer.last_node.Goals as goal

pub returns-in-Some : goal.returns-in-Some
returns-in-Some c =
    let got = rw c.in-Some.is at c.last.ensures.value in
    last_node_got c.pairs_of_last.result.now _ got ∙ ap last_node_of c.pairs_of_last.ensures

pub returns-in-None : goal.returns-in-None
returns-in-None c =
    let got = rw c.in-None.is at c.last.ensures.value in
    last_node_got c.pairs_of_last.result.now _ got ∙ ap last_node_of c.pairs_of_last.ensures
