use Rattle.std.proofs.Common.{refl, ◌∙◌}
use Rattle.input_tables.proofs.Keeps.{keeps_more}
use Rattle.input_tables.proofs.fleets.put.Goals as goal

pub returns : goal.returns
returns c = λ rows kept new. c.in_ok-insert.ensures.entries ∙ rw kept (keeps_more _ (λ x y. refl) c.args.vehicle rows new)
