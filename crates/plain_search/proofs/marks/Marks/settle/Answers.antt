use Rattle.std.proofs.Common.{ap, ◌∙◌, arith, map, set}
use Rattle.std.proofs.lemmas.List.{map-set}
use Rattle.plain_search.specs.Marking.{mark_in}
use Rattle.plain_search.proofs.Words.{small_word}
use Rattle.plain_search.proofs.marks.Marks.settle.Goals as goal

pub returns : goal.returns
returns c =
    let words = c.self.inside.words.items in
    let node = c.args.node.0 in
    let mark = ap mark_in c.from.ensures ∙ small_word c.args.place (let f = c.ranges.place.fits in omega arith) in
    rw (← c.self.view_is) (map-set mark_in words node c.from.result ∙ ap (set (map mark_in words) node) mark)
