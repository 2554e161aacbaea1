use Rattle.std.proofs.Common.{ap, ◌∙◌, arith, ◌≡◌, ◌<◌, length, sym}
use Rattle.std.proofs.lemmas.List.{length-map}
use Rattle.plain_search.specs.Marking.{mark_in}
use Rattle.plain_search.proofs.Words.{known_by}
use Rattle.plain_search.proofs.marks.Marks.is_known.Goals as goal

pub returns : goal.returns
returns c =
    let words = c.self.inside.words.items in
    let many : length words ≡ length c.args.self.now = sym (length-map words mark_in) ∙ ap length c.self.view_is in
    let there : c.args.node.0 < length words = omega (arith, c.requires.node) in
    rw (← c.self.view_is) (known_by words c.args.node.0 c.index.result.now c.args.distance there c.index.ensures c.requires.distance)
