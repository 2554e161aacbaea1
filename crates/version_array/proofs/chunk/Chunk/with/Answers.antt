use Rattle.std.proofs.Common.{arith}
use Rattle.std.proofs.lemmas.Grind.{common_steps}
use Rattle.version_array.proofs.Chunks.{set_rejoined}
use Rattle.version_array.proofs.chunk.Chunk.with.Goals as goal

pub returns : goal.returns
returns g c = let e = set_rejoined c.args.self.now c.args.at c.args.value c.requires in grind (arith, common_steps)
