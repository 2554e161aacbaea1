use Rattle.std.proofs.Common.{sym, ap, ◌∙◌, ◌+◌, replicate}
use Rattle.plain_search.specs.declared.reached.Mark.TheVariants.{Unseen}
use Rattle.plain_search.specs.Searching.{faced}
use Rattle.plain_search.proofs.NewSearch.{begun}
use Rattle.plain_search.proofs.Faced.{nodes-faced, IsNode-faced, IsGraph-faced}
use Rattle.plain_search.proofs.search.Search.new.Goals as goal

pub returns-clause-begun : goal.returns-clause-begun
returns-clause-begun c =
    let g = c.args.graph.now in
    let way = c.args.way in
    let clean = c.in_ok-reset.ensures ∙ ap (λ n. replicate (n + 1) Unseen) (c.nodes.ensures.nodes ∙ sym (nodes-faced way g)) in
    let waits = rw c.clear.ensures at c.in_ok-push.ensures in
    rw (c.emptied.ensures, c.see.ensures) (begun (faced way g) (IsGraph-faced way g c.nodes.ensures.kept) c.args.start (IsNode-faced way g c.args.start c.requires) c.args.radius c.reset.new.self clean c.push.new.self waits)
