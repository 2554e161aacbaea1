use Rattle.std.proofs.Common.{ap, ◌∙◌, ◌+◌, ◌^◌, map, set}
use Rattle.std.proofs.lemmas.List.{map-set}
use Rattle.plain_search.specs.Marking.{mark_in}
use Rattle.plain_search.proofs.Words.{waiting_word}
use Rattle.plain_search.proofs.marks.Marks.see.Goals as goal

pub returns : goal.returns
returns c =
    let words = c.self.inside.words.items in
    let node = c.args.node.0 in
    let mark = waiting_word c.args.distance c.requires.distance in
    rw (← c.self.view_is) (map-set mark_in words node (2 ^ 32 + c.args.distance) ∙ ap (set (map mark_in words) node) mark)
