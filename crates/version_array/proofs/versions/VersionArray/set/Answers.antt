use Rattle.std.proofs.Common.{length, ap, arith}
use Rattle.version_array.proofs.Levels.{in_bottom, laid_set, length-values_of, values_set, way_at}
use Rattle.version_array.proofs.versions.VersionArray.set.Goals as goal

pub set_below-requires-clause-within : goal.set_below-requires-clause-within
set_below-requires-clause-within g c = in_bottom _ _ _ _ _ (way_at c.self.inside.len c.self.inside.root c.args.place c.self.invariant (omega (arith, c.requires, length-values_of c.self.inside.len c.self.inside.root c.self.invariant, ap length c.self.view_is)))

pub invariant_of-self : goal.invariant_of-self
invariant_of-self g c = laid_set c.self.inside.len c.self.inside.root c.args.place c.self.invariant (omega (arith, c.requires, length-values_of c.self.inside.len c.self.inside.root c.self.invariant, ap length c.self.view_is)) c.set_below.result c.set_below.new.self c.args.value c.set_below.ensures.ok c.set_below.ensures.err

pub returns-clause-changed : goal.returns-clause-changed
returns-clause-changed g c = values_set c.self.inside.len c.self.inside.root c.args.place c.self.invariant (omega (arith, c.requires, length-values_of c.self.inside.len c.self.inside.root c.self.invariant, ap length c.self.view_is)) c.set_below.result c.set_below.new.self c.args.self.now c.args.value c.self.view_is c.set_below.ensures.ok
