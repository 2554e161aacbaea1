use Rattle.version_array.proofs.Levels.{laid_filled, values_filled}
use Rattle.version_array.proofs.versions.VersionArray.filled.Goals as goal

pub invariant_of-result : goal.invariant_of-result
invariant_of-result g c =
    rw (c.in_ok-root.ensures, c.in_ok-middle.ensures, c.in_ok-bottom.ensures, c.div_ceil.ensures, c.min-2.ensures, c.min.ensures, c.div_ceil-bottoms.ensures)
    (laid_filled c.args.len c.args.value c.requires)

pub returns-clause-values : goal.returns-clause-values
returns-clause-values g c =
    rw (c.in_ok-root.ensures, c.in_ok-middle.ensures, c.in_ok-bottom.ensures, c.div_ceil.ensures, c.min-2.ensures, c.min.ensures, c.div_ceil-bottoms.ensures)
    (values_filled c.args.len c.args.value c.requires)
