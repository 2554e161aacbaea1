use Rattle.std.proofs.Common.{sym, ◌∙◌}
use Rattle.journal_text.proofs.LastItems.{last_listed_got, none_listed_got}
use Rattle.journal_text.proofs.longer.pairs_of_last.Goals as goal

pub returns-in-Some : goal.returns-in-Some
returns-in-Some c =
    let got = rw (c.as_slice.ensures, c.in-Some.is) at c.last.ensures.value in
    c.as_slice-in-Some.ensures ∙ last_listed_got c.args.potentials.now c.in-Some.potential.now (sym got)

pub returns-in-None : goal.returns-in-None
returns-in-None c =
    let got = rw (c.as_slice.ensures, c.in-None.is) at c.last.ensures.value in
    none_listed_got c.args.potentials.now (sym got)
