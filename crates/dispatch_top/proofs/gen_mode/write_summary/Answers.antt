use Rattle.dispatch_top.proofs.MadeCities.{few_lines}
use Rattle.dispatch_top.proofs.gen_mode.write_summary.Goals as goal

pub summarize-requires-clause-lines : goal.summarize-requires-clause-lines
summarize-requires-clause-lines g c = few_lines c.args.number c.in_ok-city.city c.in_ok-city.ensures.city
