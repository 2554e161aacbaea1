use Rattle.std.proofs.Common.{rules, ap, map, ◌∙◌}
use Rattle.plain_search.specs.Marking.{mark_in}
use Rattle.plain_search.proofs.Words.{marks_unseen}
use Rattle.plain_search.proofs.marks.Marks.reset.Goals as goal

pub returns : goal.returns
returns c =
    let filled = rw (c.clear.ensures.items, c.clear.ensures.len) at c.in_ok-resize.ensures.items in
    ap (map mark_in) (search rules) ∙ marks_unseen c.args.count
