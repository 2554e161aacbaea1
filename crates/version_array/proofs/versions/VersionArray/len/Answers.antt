use Rattle.std.proofs.Common.{◌∙◌, sym, ap, length}
use Rattle.version_array.proofs.Levels.{length-values_of}
use Rattle.version_array.proofs.versions.VersionArray.len.Goals as goal

pub returns-clause-places : goal.returns-clause-places
returns-clause-places g c = sym (length-values_of _ _ c.self.invariant) ∙ ap length c.self.view_is
