use Rattle.std.proofs.Common.{sym, ◌∙◌}
use Rattle.journal_text.proofs.LastItems.{last_walk_got, no_walk_got}
use Rattle.journal_text.proofs.longer.last_walk.Goals as goal

pub returns-in-Some : goal.returns-in-Some
returns-in-Some c =
    let got = rw (c.as_slice.ensures, c.in-Some.is) at c.last.ensures.value in
    c.as_slice-in-Some.ensures ∙ last_walk_got c.args.walks.now c.in-Some.walk.now (sym got)

pub returns-in-None : goal.returns-in-None
returns-in-None c =
    let got = rw (c.as_slice.ensures, c.in-None.is) at c.last.ensures.value in
    no_walk_got c.args.walks.now (sym got)
